use Rattle.std.proofs.Common.{◌+◌, ◌-◌, ◌*◌, ℕ, List, [], map, length, subst, sym, IfOk}
use Rattle.std.specs.List.{AllByRecursion}
use Rattle.std.proofs.Math.Nat.{mul-one}
use Rattle.fx_graph.specs.Shown.{shown}
use Rattle.fx_scene.specs.declared.take.Take.{Take}
use Rattle.fx_scene.specs.Scenes.{graph_shown}
use Rattle.fx_scene.specs.Takes.{IsEdit, edits_after, edits_of}
use Rattle.fx_scene.specs.Uses.{AreUses, wanting}
use Rattle.fx_scene.proofs.moments.uses.Goals as goal

pub uses_of_takes-requires-clause-edits : goal.uses_of_takes-requires-clause-edits
uses_of_takes-requires-clause-edits g c = λ k.
    let nodes = map shown c.args.graph.now.nodes.items in
    subst (λ (ts : List Take). AllByRecursion (IsEdit nodes) (edits_after (edits_of ts) k)) (sym c.new.ensures.items) tt

pub returns-clause-exact : goal.returns-clause-exact
returns-clause-exact g c =
    let count = c.args.last + 1 - c.args.first in
    let W : List Take → _ = λ ts. wanting g.E.ImageEffect.meaning (graph_shown c.args.graph.now) (edits_of ts) c.args.first count in
    subst (λ (n : ℕ). IfOk c.uses_of_takes.result (λ uses. AreUses (W []) n uses.items)) (mul-one count)
    (subst (λ (ts : List Take). IfOk c.uses_of_takes.result (λ uses. AreUses (W ts) (count * (length (edits_of ts) + 1)) uses.items))
    c.new.ensures.items c.uses_of_takes.ensures.exact)
