-- Each need of a region is of a clip of the effect, and found somewhere in a tile of the grid.
use Rattle.std.proofs.Common.{◌≡◌, ◌≢◌, ℕ, zero, suc, ◌<◌, ◌≤◌, ◌+◌, ℤ, pos, ◌+ℤ◌, List, [], ◌∷◌, length, refl, arith, ap, ◌∙◌, Option, Some, None, inl, inr, All}
use Rattle.std.specs.Int.{int_gap}
use Rattle.std.specs.List.{flat_map, range_with_len}
use Rattle.std.proofs.lemmas.Int.{ints}
use Rattle.std.proofs.lemmas.List.Elements.{All-nil, All-cons, All-append}
use Rattle.fx_base.specs.Bounds.{Bounds}
use Rattle.fx_base.specs.Grid.{IsTileOf, tile_at, tiles_of}
use Rattle.fx_base.specs.Rect.{columns, meet, rows}
use Rattle.fx_base.proofs.GridLaws.{All-tiles_of}
use Rattle.fx_base.proofs.RectLaws.{IsWithin-meet_first}
use Rattle.fx_scene.specs.Areas.{area}
use Rattle.fx_scene.specs.Frames.{clip_frames}
use Rattle.fx_scene.specs.Nodes.{AreNodes, Effect, EffectNode, IsEffectNode, Nodes, clip_node}
use Rattle.fx_scene.proofs.Members.{In, all_in, gap_is}
use Rattle.fx_region.specs.Ends.{EndShown, Frame, Render, Void, end_of}
use Rattle.fx_region.specs.Needs.{NeedShown, clip_needs, frame_needs, needed, needs_at, node_needs, tile_needs}
use Rattle.fx_tile.specs.Founds.{IsFoundIn}
use Rattle.fx_tile.proofs.FoundLemmas.{ends_found, wider}

-- ---- sizes

side_gap : (a : ℤ) (s : ℕ) → int_gap a (a +ℤ pos s) ≡ s
side_gap a s = let g = gap_is a (a +ℤ pos s) (omega (arith, ints)) in omega (arith, ints, g)

-- a tile of the grid has so many columns and rows
pub tile_wide : (side : ℕ) (r tile : Bounds) → IsTileOf side r tile → columns tile ≡ side
tile_wide side r tile is = ap (λ (b : Bounds). columns b) is.is ∙ side_gap (tile_at side is.column is.row).x1 side

pub tile_high : (side : ℕ) (r tile : Bounds) → IsTileOf side r tile → rows tile ≡ side
tile_high side r tile is = ap (λ (b : Bounds). rows b) is.is ∙ side_gap (tile_at side is.column is.row).y1 side

-- a number of a range is below its end
range_below : (a n c : ℕ) → In (range_with_len a n) c → c < a + n
range_below a zero c h = absurd h
range_below a (suc n) c (inl e) = omega (arith, e)
range_below a (suc n) c (inr h) = let l = range_below (a + 1) n c h in omega (arith, l)

-- ---- needs

-- the need is of one of so many clips, and found somewhere in a rectangle of so many columns and rows
pub record IsNeedIn (nodes : Nodes) (count side : ℕ) (need : NeedShown) : Type 0 where
  pub clip : need.clip < count
  pub some : need.end ≢ Void
  pub tile : Bounds
  pub wide : columns tile ≤ side
  pub high : rows tile ≤ side
  pub found : IsFoundIn nodes tile need.end

all_flat : {X : Type 0} (P : NeedShown → Type 0) (F : X → List NeedShown) (xs : List X)
    → ((x : X) → In xs x → All P (F x)) → All P (flat_map F xs)
all_flat P F [] h = All-nil P
all_flat P F (x ∷ xs) h =
    All-append P (F x) (flat_map F xs) (h x (inl refl)) (all_flat P F xs (λ y i. h y (inr i)))

module _ (nodes : Nodes) (ok : AreNodes nodes) (count side : ℕ) (some : 0 < side) where
  needed_in : (c : ℕ) (f : ℤ) (e : EndShown) (tile : Bounds) → c < count → columns tile ≤ side → rows tile ≤ side
      → IsFoundIn nodes tile e → All (IsNeedIn nodes count side) (needed c f e)
  needed_in c f Void tile low wide high h = All-nil (IsNeedIn nodes count side)
  needed_in c f (Frame k g r through) tile low wide high h =
      All-cons (IsNeedIn nodes count side) (record { clip = c; frame = f; end = Frame k g r through }) []
      (record { clip = low; some = λ e. cc; tile = tile; wide = wide; high = high; found = h }) (All-nil (IsNeedIn nodes count side))
  needed_in c f (Render k g r cut through) tile low wide high h =
      All-cons (IsNeedIn nodes count side) (record { clip = c; frame = f; end = Render k g r cut through }) []
      (record { clip = low; some = λ e. cc; tile = tile; wide = wide; high = high; found = h }) (All-nil (IsNeedIn nodes count side))

  tile_needs_in : (c m : ℕ) (f : ℤ) (r tile : Bounds) → c < count → m ≤ 1024 → IsTileOf side r tile
      → All (IsNeedIn nodes count side) (tile_needs (end_of nodes) (area nodes) c m f tile)
  tile_needs_in c m f r tile low few is =
      let cut = meet tile (area nodes m f) in
      let w = tile_wide side r tile is in
      let h = tile_high side r tile is in
      needed_in c f (end_of nodes m f cut) tile low (omega (arith, w)) (omega (arith, h))
      (wider nodes ok cut tile (end_of nodes m f cut) (IsWithin-meet_first tile (area nodes m f)) (ends_found nodes ok m f cut few))

  clip_needs_in : (interest : Bounds) (c : ℕ) (frames : List ℤ) (clip : Option ℕ) → c < count
      → ((m : ℕ) → clip ≡ Some m → m ≤ 1024)
      → All (IsNeedIn nodes count side) (clip_needs (end_of nodes) (area nodes) side interest c frames clip)
  clip_needs_in interest c frames None low few = All-nil (IsNeedIn nodes count side)
  clip_needs_in interest c frames (Some m) low few =
      all_flat (IsNeedIn nodes count side) (frame_needs (end_of nodes) (area nodes) side interest c m) frames (λ f i.
      let r = meet interest (area nodes m f) in
      all_flat (IsNeedIn nodes count side) (tile_needs (end_of nodes) (area nodes) c m f) (tiles_of side r) (λ tile j.
      tile_needs_in c m f r tile low (few m refl) (all_in (IsTileOf side r) (tiles_of side r) tile (All-tiles_of side r some) j)))

-- so is each need of an effect's region
pub needs_in : (nodes : Nodes) → AreNodes nodes → (side : ℕ) → 0 < side → (n : ℕ) (o : EffectNode) → IsEffectNode n o → (t : ℤ) (r : Bounds)
    → All (IsNeedIn nodes (length o.clips) side) (node_needs (end_of nodes) (area nodes) side (Effect o) t r)
needs_in nodes ok side some n o i t r =
    all_flat (IsNeedIn nodes (length o.clips) side) (needs_at (end_of nodes) (area nodes) side o t r) (range_with_len 0 (length o.clips)) (λ c j.
    let low = range_below 0 (length o.clips) c j in
    let few = i.few in
    clip_needs_in nodes ok (length o.clips) side some (o.meaning.roi (o.values t) r c) c (clip_frames o t c) (clip_node o c) (omega (arith, low))
    (λ m is. let before = i.earlier c m is in omega (arith, few, before)))
