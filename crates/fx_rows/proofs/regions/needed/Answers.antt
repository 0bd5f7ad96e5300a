use Rattle.std.proofs.Common.{◌≡◌, sym, subst}
use Rattle.fx_base.specs.Bounds.{Bounds}
use Rattle.fx_base.specs.Rect.{IsWithin, meet}
use Rattle.fx_base.proofs.RectLaws.{IsWithin-meet_second}
use Rattle.fx_scene.specs.Sites.{scene_nodes}
use Rattle.fx_shipped.specs.Shipped.{meaning_of}
use Rattle.fx_rows.proofs.regions.needed.Goals as goal

-- what both have lies in the second
cut_within : (r a s cut : Bounds) → s ≡ a → cut ≡ meet r s → IsWithin cut a
cut_within r a s cut is both =
    subst (λ (b : Bounds). IsWithin b a) (sym both) (subst (IsWithin (meet r s)) is (IsWithin-meet_second r s))

pub demand-requires-clause-within : goal.demand-requires-clause-within
demand-requires-clause-within c =
    let nodes = scene_nodes meaning_of c.args.scene.now in
    let is = c.rod.ensures.area nodes c.in_ok-regions.ensures.right in
    cut_within c.args.region _ c.rod.result c.meet-within.result is c.meet-within.ensures.bounds
