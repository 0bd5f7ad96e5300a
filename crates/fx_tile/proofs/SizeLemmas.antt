-- Regions are no larger than a project may be: what lies within a small one, and what is rendered of effects that support
-- no tiles.
use Rattle.std.proofs.Common.{◌≡◌, ℕ, ◌≤◌, ℤ, Bool, true, false, cond, refl, arith, sym, ap, ◌∙◌, subst, inl, inr, ◌⊎◌}
use Rattle.std.proofs.lemmas.Int.{ints}
use Rattle.fx_base.specs.Bounds.{Bounds, IsRect, none}
use Rattle.fx_base.specs.Rect.{IsWithin}
use Rattle.fx_base.proofs.RectLaws.{gap_is}
use Rattle.fx_base.proofs.RectLemmas.{Encloses-from_within, IsProper}
use Rattle.fx_effect.specs.Shape.{IsProject}
use Rattle.fx_scene.specs.Areas.{area, clip_areas, node_area}
use Rattle.fx_scene.specs.Nodes.{AreNodes, Effect, EffectNode, IsEffectNode, Node, Nodes}
use Rattle.fx_scene.proofs.Equations.{area_is}
use Rattle.fx_scene.proofs.Outside.{area_window, clip_regions}
use Rattle.fx_region.specs.Ends.{chosen, whole_or_cut}
use Rattle.fx_tile.specs.Tiles.{IsSmall}

pub small_within : (q w : Bounds) → IsProper q → IsWithin q w → IsSmall w → IsSmall q
small_within q w proper inside small =
    let in_w = Encloses-from_within q w proper inside in
    let q1 = in_w.left in let q2 = in_w.right in let q3 = in_w.bottom in let q4 = in_w.top in
    let p1 = proper.wide in let p2 = proper.high in
    let g1 = gap_is q.x1 q.x2 (omega (arith, ints, p1)) in
    let g2 = gap_is w.x1 w.x2 (omega (arith, ints, p1, q1, q2)) in
    let g3 = gap_is q.y1 q.y2 (omega (arith, ints, p2)) in
    let g4 = gap_is w.y1 w.y2 (omega (arith, ints, p2, q3, q4)) in
    let s1 = small.0 in let s2 = small.1 in
    (omega (arith, ints, g1, g2, q1, q2, s1), omega (arith, ints, g3, g4, q3, q4, s2))

none_small : IsSmall none
none_small = (omega arith, omega arith)

small_rect : (q w : Bounds) → IsRect q → IsWithin q w → IsSmall w → IsSmall q
small_rect q w rect inside small = elim rect [
  | inl e ↦ subst IsSmall (sym e) none_small
  | inr p ↦ small_within q w (record { wide = p.0; high = p.1 }) inside small
]

project_small : (p : Bounds) → IsProject p → IsSmall p
project_small p is =
    let left = is.left in let bottom = is.bottom in
    let wide = is.wide in let high = is.high in
    let g1 = gap_is p.x1 p.x2 (omega (arith, ints, left, wide.0)) in
    let g2 = gap_is p.y1 p.y2 (omega (arith, ints, bottom, high.0)) in
    (omega (arith, ints, g1, left, wide.1), omega (arith, ints, g2, bottom, high.1))

module _ (nodes : Nodes) (ok : AreNodes nodes) (k : ℕ) (o : EffectNode) (i : IsEffectNode k o) (there : nodes k ≡ Effect o) where
  -- the area of an effect that supports no tiles
  whole_small : (t : ℤ) → k ≤ 1024 → o.meaning.shape.tiles ≡ false → IsSmall (area nodes k t)
  whole_small t few whole =
      let regions = clip_areas (area nodes) o t in
      let is : area nodes k t ≡ o.meaning.rod o.context (o.values t) regions =
      ap (λ (areas : ℤ → Bounds). areas t) (area_is nodes ok k) ∙ ap (λ (n : Node). node_area (area nodes) n t) there in
      let inside = i.laws.whole_within_project o.context (o.values t) regions whole (i.lawful t) (clip_regions nodes ok k o i t) in
      small_rect (area nodes k t) (o.values t).project (area_window nodes ok k t few).bounds
      (subst (λ (q : Bounds). IsWithin q (o.values t).project) (sym is) inside)
      (project_small (o.values t).project (i.lawful t).project)

  sized : (t : ℤ) (r : Bounds) → k ≤ 1024 → (b : Bool) → o.meaning.shape.tiles ≡ b
      → IsWithin (cond b r (area nodes k t)) r ⊎ IsSmall (cond b r (area nodes k t))
  sized t r few true e = inl (λ x y h. h)
  sized t r few false e = inr (whole_small t few e)

  -- what is rendered of it lies in the cut, or is small
  pub chosen_size : (t : ℤ) (r : Bounds) → k ≤ 1024 → IsWithin (chosen nodes k t r) r ⊎ IsSmall (chosen nodes k t r)
  chosen_size t r few =
      subst (λ (node : Node). IsWithin (whole_or_cut node (area nodes k t) r) r ⊎ IsSmall (whole_or_cut node (area nodes k t) r)) (sym there)
      (sized t r few o.meaning.shape.tiles refl)

-- of an effect that supports no tiles the whole area is rendered
pub chosen_whole : (nodes : Nodes) (k : ℕ) (o : EffectNode) → nodes k ≡ Effect o → (t : ℤ) (r : Bounds) → o.meaning.shape.tiles ≡ false
    → chosen nodes k t r ≡ area nodes k t
chosen_whole nodes k o there t r none =
    ap (λ (node : Node). whole_or_cut node (area nodes k t) r) there ∙ ap (λ (b : Bool). cond b r (area nodes k t)) none
