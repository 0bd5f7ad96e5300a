use Rattle.std.proofs.Common.{◌≡◌, ◌≢◌, pos, ap, arith}
use Rattle.std.proofs.lemmas.Int.{ints}
use Rattle.fx_base.specs.Bounds.{Bounds, none}
use Rattle.fx_effect.specs.Shape.{IsProject}
use Rattle.fx_proxy.proofs.ScaledLemmas.{project_near}
use Rattle.fx_modes.proofs.crew.Crew.of.Goals as goal

some : (r : Bounds) → IsProject r → r ≢ none
some r is same =
    let right : r.x2 ≡ pos 0 = ap (λ (b : Bounds). b.x2) same in let wide = is.wide.0 in omega (arith, ints, right, wide)

pub capacity_for-wholes-requires-clause-some : goal.capacity_for-wholes-requires-clause-some
capacity_for-wholes-requires-clause-some c = some c.graph.result.now.project c.graph.result.now.extent

pub capacity_for-wholes-requires-clause-near : goal.capacity_for-wholes-requires-clause-near
capacity_for-wholes-requires-clause-near c = project_near c.graph.result.now.project c.graph.result.now.extent
