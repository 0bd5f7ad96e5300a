-- What is rendered for a cut of a node's area.
use Rattle.std.proofs.Common.{ℕ, ℤ, Bool, true, false, cond}
use Rattle.fx_base.specs.Bounds.{Bounds}
use Rattle.fx_base.specs.Rect.{IsWithin}
use Rattle.fx_scene.specs.Areas.{area}
use Rattle.fx_scene.specs.Nodes.{Effect, Node, Nodes, Source}
use Rattle.fx_region.specs.Ends.{IsChoice, chosen, whole_or_cut}

either : (P : Bounds → Type 0) (b : Bool) (r s : Bounds) → P r → P s → P (cond b r s)
either P true r s here whole = here
either P false r s here whole = whole

by_node : (P : Bounds → Type 0) (node : Node) (whole cut : Bounds) → P cut → P whole → P (whole_or_cut node whole cut)
by_node P (Source s) whole cut here all = here
by_node P (Effect o) whole cut here all = either P o.meaning.shape.tiles cut whole here all

-- what holds of the cut and of the area holds of what is rendered
pub chosen_either : (P : Bounds → Type 0) (nodes : Nodes) (n : ℕ) (t : ℤ) (cut : Bounds) → P cut → P (area nodes n t)
    → P (chosen nodes n t cut)
chosen_either P nodes n t cut here whole = by_node P (nodes n) (area nodes n t) cut here whole

-- what is chosen holds the cut
pub is_choice : (nodes : Nodes) → IsChoice nodes (chosen nodes)
is_choice nodes n t cut inside = chosen_either (IsWithin cut) nodes n t cut (λ x y h. h) inside
