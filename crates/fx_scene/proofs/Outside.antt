-- Values keep their form, areas stay near, and outside its area a value is zero.
use Rattle.std.proofs.Common.{◌≡◌, ℕ, zero, suc, ◌<◌, ◌≤◌, ◌+◌, ◌*◌, ℤ, pos, neg_ℤ, ◌+ℤ◌, ◌≤ℤ◌, List, [], ◌∷◌, map, length, get_or, Bool, true, false, cond, refl, arith, sym, ap, ◌∙◌, subst, Option, Some, None, is_some, slice_index_or, inl, inr, ◌⊎◌}
use Rattle.std.proofs.lemmas.Int.{ints, clamps}
use Rattle.std.proofs.lemmas.Bool.{cases_Bool, cases_lt}
use Rattle.std.proofs.lemmas.List.{get_or_past, length-map}
use Rattle.std.proofs.lemmas.List.FromFn.{get_or-map-range_with_len, length-map-range_with_len}
use Rattle.std.proofs.lemmas.List.Elements.{All-nil, All-cons, All-head, All-tail, All-map}
use Rattle.std.specs.List.{range_with_len, All, AllZip, Contains}
use Rattle.fx_base.specs.Bounds.{Bounds, IsRect, none}
use Rattle.fx_base.specs.Rect.{Holds, within, hull, is_empty, IsNear, IsUpTo}
use Rattle.fx_base.proofs.RectLemmas.{IsWithin-hull_first, IsWithin-hull_second, IsProper-from_test, IsRect-proper, IsProper-hull, hull-first_empty, hull-second_empty, is_empty-holds, Holds-from_inside, IsInside-from_holds, IsProper-from_rect}
use Rattle.fx_pixel.specs.declared.Depth.{Depth}
use Rattle.fx_pixel.specs.declared.Components.{Components}
use Rattle.fx_pixel.specs.declared.Pixel.{Pixel}
use Rattle.fx_pixel.specs.Pixel.{zero as zero_pixel, convert, IsOfDepth, components_of}
use Rattle.fx_image.specs.Image.{Image, pixel_at}
use Rattle.fx_effect.specs.Tap.{Tap, tap}
use Rattle.fx_props.specs.Entries.{region_of}
use Rattle.fx_effect.specs.Asked.{AreRegions, IsWindow}
use Rattle.fx_effect.specs.Meaning.{mixed}
use Rattle.fx_effect.specs.Laws.{IsGiven, IsCovered, IsZeroOutside}
use Rattle.fx_scene.specs.Areas.{area, clip_area, clip_areas, hull_with, image_area, node_area, source_area}
use Rattle.fx_scene.specs.Frames.{frames_of}
use Rattle.fx_scene.specs.Nodes.{AreNodes, Effect, EffectNode, IsEffectNode, IsFrameImage, IsNode, Node, Nodes, Source, SourceFrames, clip_node, components_at, depth_at, node_components, node_depth, seen}
use Rattle.fx_scene.specs.Value.{Pixels, clip_value, frame_pixel, node_value, source_pixel, tap_value, value}
use Rattle.fx_scene.proofs.Equations.{area_is, value_is}
use Rattle.fx_scene.proofs.Members.{In, all_from, all_in, frames_have, in_map, in_of, map_same}
use Rattle.fx_scene.proofs.Places.{by_place}
use Rattle.fx_pixel.specs.PixelLaws.{convert_zero, convert_form, zero_form}

-- ---- forms

abbrev pub HasForm : Depth → Components → Pixel → Type 0
HasForm d c p = IsOfDepth d p × (components_of p ≡ c)

abbrev pub Formed : Depth → Components → Pixels → Type 0
Formed d c v = (t x y : ℤ) → HasForm d c (v t x y)

frame_formed : (r : SourceFrames) (f : ℤ) (o : Option Image) → ((image : Image) → o ≡ Some image → IsFrameImage image) → (x y : ℤ) → HasForm r.depth r.components (frame_pixel r o x y)
frame_formed r f None h x y = zero_form r.depth r.components
frame_formed r f (Some image) h x y = convert_form image.depth r.depth r.components (pixel_at image x y) ((h image refl).fit.depth x y)

source_formed : (r : SourceFrames) → ((f : ℤ) (image : Image) → r.frames f ≡ Some image → IsFrameImage image) → (o : Option ℤ) (x y : ℤ) → HasForm r.depth r.components (source_pixel r o x y)
source_formed r h None x y = zero_form r.depth r.components
source_formed r h (Some f) x y = frame_formed r f (r.frames f) (h f) x y

clip_formed : (nodes : Nodes) (values : ℕ → Pixels) (to : Depth) (c : Components) (o : Option ℕ) → ((m : ℕ) → o ≡ Some m → Formed (depth_at nodes m) (components_at nodes m) (values m)) → Formed to c (clip_value (depth_at nodes) values to c o)
clip_formed nodes values to c None h t x y = zero_form to c
clip_formed nodes values to c (Some m) h t x y = convert_form (depth_at nodes m) to c (values m t x y) (h m refl t x y).0

abbrev pub AllFormed : Nodes → ℕ → (ℕ → Pixels) → Type 0
AllFormed nodes k values = (m : ℕ) → m < k → Formed (depth_at nodes m) (components_at nodes m) (values m)

tap_formed : (nodes : Nodes) (k : ℕ) (values : ℕ → Pixels) (o : EffectNode) → IsEffectNode k o → AllFormed nodes k values → (p : Tap) → HasForm o.depth (seen o p.clip) (tap_value (depth_at nodes) values o p)
tap_formed nodes k values o i h p = clip_formed nodes values o.depth (seen o p.clip) (clip_node o p.clip) (λ m e. h m (i.earlier p.clip m e)) p.frame p.x p.y

-- what a law is given
pub given : (nodes : Nodes) (k : ℕ) (values : ℕ → Pixels) (o : EffectNode) → IsEffectNode k o → AllFormed nodes k values → (t : ℤ) → IsGiven o.meaning.shape o.context (o.values t) o.depth o.components (tap_value (depth_at nodes) values o)
given nodes k values o i h t = record { lawful = i.lawful t; supported = i.supported; depth_is = λ p. (tap_formed nodes k values o i h p).0; components_are = λ p. (tap_formed nodes k values o i h p).1 }

node_formed : (nodes : Nodes) (k : ℕ) (values : ℕ → Pixels) (node : Node) → IsNode k node → AllFormed nodes k values → Formed (node_depth node) (node_components node) (node_value (depth_at nodes) values node)
node_formed nodes k values (Source r) i h t x y = source_formed r i (r.named t) x y
node_formed nodes k values (Effect o) i h t x y = i.laws.pixel o.context (o.values t) o.depth o.components (tap_value (depth_at nodes) values o) x y (given nodes k values o i h t)

-- a node's value is of its depth and components
pub value_formed : (nodes : Nodes) → AreNodes nodes → (n : ℕ) → Formed (depth_at nodes n) (components_at nodes n) (value nodes n)
value_formed nodes ok = by_place (λ n. Formed (depth_at nodes n) (components_at nodes n) (value nodes n)) (λ n h.
    subst (λ (v : Pixels). Formed (depth_at nodes n) (components_at nodes n) v) (sym (value_is nodes ok n)) (node_formed nodes n (value nodes) (nodes n) (ok n) h))

-- ---- areas

unfoldable pub limit : ℕ → ℕ
limit n = 8192 + 32768 * n

-- a rectangle up to n
abbrev pub IsRegion : ℕ → Bounds → Type 0
IsRegion n r = IsRect r × IsUpTo n r

none_region : (n : ℕ) → IsRegion n none
none_region n = (inl refl, record { left = (omega (arith, ints), omega (arith, ints)); bottom = (omega (arith, ints), omega (arith, ints)); right = (omega (arith, ints), omega (arith, ints)); top = (omega (arith, ints), omega (arith, ints)) })

more_up : (a b : ℕ) (r : Bounds) → a ≤ b → IsUpTo a r → IsUpTo b r
more_up a b r l h =
    let p1 = h.left.0 in let p2 = h.left.1 in let p3 = h.bottom.0 in let p4 = h.bottom.1 in let p5 = h.right.0 in let p6 = h.right.1 in let p7 = h.top.0 in let p8 = h.top.1 in
    record { left = (omega (arith, ints), omega (arith, ints)); bottom = (omega (arith, ints), omega (arith, ints)); right = (omega (arith, ints), omega (arith, ints)); top = (omega (arith, ints), omega (arith, ints)) }

hull_by : (n : ℕ) (a b : Bounds) (p q : Bool) → is_empty a ≡ p → is_empty b ≡ q → IsRegion n a → IsRegion n b → IsRegion n (hull a b)
hull_by n a b true q e f h k = rw e k
hull_by n a b false true e f h k = rw (e, f) h
hull_by n a b false false e f h k =
    let u = h.1 in let v = k.1 in
    let p1 = u.left.0 in let p2 = u.left.1 in let p3 = u.bottom.0 in let p4 = u.bottom.1 in let p5 = u.right.0 in let p6 = u.right.1 in let p7 = u.top.0 in let p8 = u.top.1 in
    let q1 = v.left.0 in let q2 = v.left.1 in let q3 = v.bottom.0 in let q4 = v.bottom.1 in let q5 = v.right.0 in let q6 = v.right.1 in let q7 = v.top.0 in let q8 = v.top.1 in
    let rect = IsRect-proper (hull a b) (IsProper-hull a b (IsProper-from_test a e) (IsProper-from_test b f)) in
    (rect, rw (e, f) (record { left = (omega (arith, ints, clamps), omega (arith, ints, clamps)); bottom = (omega (arith, ints, clamps), omega (arith, ints, clamps)); right = (omega (arith, ints, clamps), omega (arith, ints, clamps)); top = (omega (arith, ints, clamps), omega (arith, ints, clamps)) }))

hull_all_region : (n : ℕ) (A : ℤ → Bounds) (fs : List ℤ) (a : Bounds) → IsRegion n a → ((f : ℤ) → IsRegion n (A f)) → IsRegion n (hull_with a (map A fs))
hull_all_region n A [] a h k = h
hull_all_region n A (f ∷ fs) a h k = hull_all_region n A fs (hull a (A f)) (hull_by n a (A f) (is_empty a) (is_empty (A f)) refl refl h (k f)) k

clip_region : (n : ℕ) (areas : ℕ → ℤ → Bounds) (spans : List (ℤ × ℤ)) (o : Option ℕ) → ((m : ℕ) → o ≡ Some m → (t : ℤ) → IsRegion n (areas m t)) → IsRegion n (clip_area areas spans o)
clip_region n areas spans None h = none_region n
clip_region n areas spans (Some m) h = hull_all_region n (areas m) (frames_of spans) none (none_region n) (h m refl)

image_region : (n : ℕ) (o : Option Image) → ((image : Image) → o ≡ Some image → IsFrameImage image) → 8192 ≤ n → IsRegion n (image_area o)
image_region n None h l = none_region n
image_region n (Some image) h l = ((h image refl).bounds, more_up 8192 n image.rect l (h image refl).near)

source_region : (n : ℕ) (r : SourceFrames) → ((f : ℤ) (image : Image) → r.frames f ≡ Some image → IsFrameImage image) → 8192 ≤ n → (o : Option ℤ) → IsRegion n (source_area r o)
source_region n r h l None = none_region n
source_region n r h l (Some f) = image_region n (r.frames f) (h f) l

window_of : (n : ℕ) (r : Bounds) → n ≤ 1073741823 → IsRegion n r → IsWindow r
window_of n r l h =
    let u = h.1 in let p1 = u.left.0 in let p2 = u.bottom.0 in let p3 = u.right.1 in let p4 = u.top.1 in
    record { bounds = h.0; near = record { left = omega (arith, ints); right = omega (arith, ints); bottom = omega (arith, ints); top = omega (arith, ints) } }

-- the areas of the clips, as the laws take them
abbrev clip_at : (areas : ℕ → ℤ → Bounds) (o : EffectNode) (t : ℤ) → ℕ → Bounds
clip_at areas o t c = clip_area areas (o.meaning.spans (o.values t) c) (clip_node o c)

pub clip_areas_at : (areas : ℕ → ℤ → Bounds) (o : EffectNode) (t : ℤ) (c : ℕ) → region_of (clip_areas areas o t) c ≡ clip_area areas (o.meaning.spans (o.values t) c) (clip_node o c)
clip_areas_at areas o t c = elim (cases_lt c (length o.clips)) [
  | inl l ↦ get_or-map-range_with_len (λ j. clip_area areas (o.meaning.spans (o.values t) j) (clip_node o j)) 0 (length o.clips) c c none l (omega arith)
  | inr g ↦
      get_or_past (clip_areas areas o t) c none (omega (arith, length-map-range_with_len (λ j. clip_area areas (o.meaning.spans (o.values t) j) (clip_node o j)) 0 (length o.clips)))
      ∙ ap (clip_area areas (o.meaning.spans (o.values t) c)) (sym (get_or_past o.clips c None g))
]

unconnected : (areas : ℕ → ℤ → Bounds) (spans : List (ℤ × ℤ)) (o : Option ℕ) → is_some o ≡ false → clip_area areas spans o ≡ none
unconnected areas spans None e = refl
unconnected areas spans (Some m) e = absurd cc

abbrev pub IsClipRegion : Bool → Bounds → Type 0
IsClipRegion connected r = IsWindow r × (connected ≡ false → r ≡ none)

zero-add : (a : ℕ) → a ≡ 0 + a
zero-add a = omega arith

add-zero : (a : ℕ) → a + 0 ≡ a
add-zero a = omega arith

moved : (a j : ℕ) → a + suc j ≡ a + 1 + j
moved a j = omega arith

zip_from : (clips : List (Option ℕ)) (a : ℕ) (F : ℕ → Bounds) → ((j : ℕ) → j < length clips → IsClipRegion (is_some (get_or clips j None)) (F (a + j))) → AllZip IsClipRegion (map is_some clips) (map F (range_with_len a (length clips)))
zip_from [] a F h = tt
zip_from (c ∷ cs) a F h = (subst (λ (n : ℕ). IsClipRegion (is_some c) (F n)) (add-zero a) (h 0 (omega arith)), zip_from cs (a + 1) F (λ j low. subst (λ (n : ℕ). IsClipRegion (is_some (get_or cs j None)) (F n)) (moved a j) (h (suc j) (omega arith))))

project_up : (k : ℕ) (o : EffectNode) → IsEffectNode k o → (t : ℤ) → IsUpTo (8192 + 32768 * k) (o.values t).project
project_up k o i t =
    let p = (i.lawful t).project in
    let a = p.left in let b = p.bottom in let c = p.wide in let d = p.high in
    record { left = (omega (arith, ints), omega (arith, ints)); bottom = (omega (arith, ints), omega (arith, ints)); right = (omega (arith, ints), omega (arith, ints)); top = (omega (arith, ints), omega (arith, ints)) }

pub regions_are : (nodes : Nodes) (k : ℕ) (areas : ℕ → ℤ → Bounds) (o : EffectNode) → IsEffectNode k o → ((m : ℕ) → m < k → (t : ℤ) → IsRegion (limit (m + 1)) (areas m t)) → (t : ℤ) → AreRegions (o.values t) (clip_areas areas o t) × All (IsUpTo (limit k)) ((o.values t).project ∷ clip_areas areas o t)
unfolding limit
regions_are nodes k areas o i h t =
    let small : (c : ℕ) → IsRegion (8192 + 32768 * k) (clip_at areas o t c) = λ c. clip_region (8192 + 32768 * k) areas (o.meaning.spans (o.values t) c) (clip_node o c) (λ m e u.
    let low = i.earlier c m e in ((h m low u).0, more_up (8192 + 32768 * (m + 1)) (8192 + 32768 * k) (areas m u) (omega arith) (h m low u).1)) in
    let few = i.few in (
      subst (λ (flags : List Bool). AllZip IsClipRegion flags (clip_areas areas o t)) (sym (i.connected t))
          (zip_from o.clips 0 (clip_at areas o t) (λ c low. subst (λ (n : ℕ). IsClipRegion (is_some (get_or o.clips c None)) (clip_at areas o t n)) (zero-add c) (window_of (8192 + 32768 * k) (clip_at areas o t c) (omega arith) (small c), λ e. unconnected areas (o.meaning.spans (o.values t) c) (clip_node o c) e))),
      All-cons (IsUpTo (8192 + 32768 * k)) (o.values t).project (clip_areas areas o t) (project_up k o i t) (All-map (IsUpTo (8192 + 32768 * k)) (clip_at areas o t) (range_with_len 0 (length o.clips)) (all_from (λ c. IsUpTo (8192 + 32768 * k) (clip_at areas o t c)) (range_with_len 0 (length o.clips)) (λ c n. (small c).1))),
    )

node_region : (nodes : Nodes) (k : ℕ) (areas : ℕ → ℤ → Bounds) (node : Node) → IsNode k node → ((m : ℕ) → m < k → (t : ℤ) → IsRegion (limit (m + 1)) (areas m t)) → (t : ℤ) → IsRegion (limit (k + 1)) (node_area areas node t)
unfolding limit
node_region nodes k areas (Source r) i h t = source_region (8192 + 32768 * (k + 1)) r i (omega arith) (r.named t)
node_region nodes k areas (Effect o) i h t =
    let are = regions_are nodes k areas o i h t in (
      i.laws.region_is_rect o.context (o.values t) (clip_areas areas o t) (i.lawful t) are.0,
      more_up (8192 + 32768 * k + 32768) (8192 + 32768 * (k + 1)) (node_area areas (Effect o) t) (omega arith) (i.laws.region_near o.context (o.values t) (clip_areas areas o t) (8192 + 32768 * k) (i.lawful t) are.0 are.1),
    )

-- the areas of a thousand nodes stay far below 2 ^ 30
pub area_region : (nodes : Nodes) → AreNodes nodes → (n : ℕ) (t : ℤ) → IsRegion (limit (n + 1)) (area nodes n t)
area_region nodes ok = by_place (λ n. (t : ℤ) → IsRegion (limit (n + 1)) (area nodes n t)) (λ n h t.
    subst (λ (a : ℤ → Bounds). IsRegion (limit (n + 1)) (a t)) (sym (area_is nodes ok n)) (node_region nodes n (area nodes) (nodes n) (ok n) h t))

-- so they are windows
pub area_window : (nodes : Nodes) → AreNodes nodes → (n : ℕ) (t : ℤ) → n ≤ 1024 → IsWindow (area nodes n t)
unfolding limit
area_window nodes ok n t few = window_of (8192 + 32768 * (n + 1)) (area nodes n t) (omega arith) (area_region nodes ok n t)

-- the areas of an effect's clips
pub clip_regions : (nodes : Nodes) → AreNodes nodes → (k : ℕ) (o : EffectNode) → IsEffectNode k o → (t : ℤ) → AreRegions (o.values t) (clip_areas (area nodes) o t)
clip_regions nodes ok k o i t = (regions_are nodes k (area nodes) o i (λ m l u. area_region nodes ok m u) t).0

-- ---- zero outside

not_in_by : (r : Bounds) (x y : ℤ) (b : Bool) → within r x y ≡ b → (Holds r x y → ⊥) → b ≡ false
not_in_by r x y true e h = absurd (h e)
not_in_by r x y false e h = refl

pub not_in : (r : Bounds) (x y : ℤ) → (Holds r x y → ⊥) → within r x y ≡ false
not_in r x y h = not_in_by r x y (within r x y) refl h

pub not_within : (r : Bounds) (x y : ℤ) → within r x y ≡ false → Holds r x y → ⊥
not_within r x y e h = cc

hull_first : (rs : List Bounds) (a : Bounds) (x y : ℤ) → Holds a x y → Holds (hull_with a rs) x y
hull_first [] a x y w = w
hull_first (q ∷ rs) a x y w = hull_first rs (hull a q) x y (IsWithin-hull_first a q x y w)

hull_later : (rs : List Bounds) (a r : Bounds) (x y : ℤ) → In rs r → Holds r x y → Holds (hull_with a rs) x y
hull_later [] a r x y h w = absurd h
hull_later (q ∷ rs) a r x y h w = elim h [
  | inl e ↦ hull_first rs (hull a q) x y (IsWithin-hull_second a q x y (subst (λ (z : Bounds). Holds z x y) (sym e) w))
  | inr i ↦ hull_later rs (hull a q) r x y i w
]

abbrev pub ZeroOutside : Components → Pixels → (ℤ → Bounds) → Type 0
ZeroOutside c v a = (t x y : ℤ) → (Holds (a t) x y → ⊥) → v t x y ≡ zero_pixel c

at_zero : (image : Image) (x y : ℤ) → (Holds image.rect x y → ⊥) → pixel_at image x y ≡ zero_pixel image.components
at_zero image x y h = rw (not_in image.rect x y h) refl

frame_zero : (r : SourceFrames) (o : Option Image) (x y : ℤ) → (Holds (image_area o) x y → ⊥) → frame_pixel r o x y ≡ zero_pixel r.components
frame_zero r None x y h = refl
frame_zero r (Some image) x y h = ap (convert image.depth r.depth r.components) (at_zero image x y h) ∙ convert_zero image.depth r.depth image.components r.components

source_zero : (r : SourceFrames) (o : Option ℤ) (x y : ℤ) → (Holds (source_area r o) x y → ⊥) → source_pixel r o x y ≡ zero_pixel r.components
source_zero r None x y h = refl
source_zero r (Some f) x y h = frame_zero r (r.frames f) x y h

-- the window of one pixel
abbrev pub dot : ℤ → ℤ → Bounds
dot x y = record { x1 = x; y1 = y; x2 = x +ℤ pos 1; y2 = y +ℤ pos 1 }

pub in_dot : (x y : ℤ) → Holds (dot x y) x y
in_dot x y = Holds-from_inside (dot x y) x y (record { left = omega (arith, ints); right = omega (arith, ints); bottom = omega (arith, ints); top = omega (arith, ints) })

-- a tap's value is zero outside the hull of its clip's areas, where its frame is one of the clip's
clip_zero : (nodes : Nodes) (to : Depth) (c : Components) (values : ℕ → Pixels) (areas : ℕ → ℤ → Bounds) (spans : List (ℤ × ℤ)) (o : Option ℕ) (f x y : ℤ)
    → ((m : ℕ) → o ≡ Some m → ZeroOutside (components_at nodes m) (values m) (areas m)) → In (frames_of spans) f
    → (Holds (clip_area areas spans o) x y → ⊥) → clip_value (depth_at nodes) values to c o f x y ≡ zero_pixel c
clip_zero nodes to c values areas spans None f x y h i out = refl
clip_zero nodes to c values areas spans (Some m) f x y h i out =
    ap (convert (depth_at nodes m) to c) (h m refl f x y (λ w. out (hull_later (map (areas m) (frames_of spans)) none (areas m f) x y (in_map (areas m) (frames_of spans) f i) w)))
    ∙ convert_zero (depth_at nodes m) to (components_at nodes m) c

-- the frame is one of the frames of the tap's clip
abbrev pub InFrames : EffectNode → ℤ → Tap → Type 0
InFrames o t p = In (frames_of (o.meaning.spans (o.values t) p.clip)) p.frame

abbrev pub Covered : EffectNode → ℤ → Bounds → Tap → Type 0
Covered o t w = IsCovered (length (o.values t).connected) (o.meaning.spans (o.values t)) (o.meaning.roi (o.values t) w)

pub in_frames : (o : EffectNode) (t : ℤ) (w : Bounds) (p : Tap) → Covered o t w p → InFrames o t p
in_frames o t w p c = frames_have (o.meaning.spans (o.values t) p.clip) c.span p.frame (in_of (o.meaning.spans (o.values t) p.clip) c.span c.listed) (c.at_frame.0) (c.at_frame.1)

-- the value of a tap, put to zero outside its clip's region
abbrev pub masked : Nodes → (ℕ → Pixels) → List Bounds → EffectNode → Tap → Pixel
masked nodes values regions o p = cond (within (region_of regions p.clip) p.x p.y) (tap_value (depth_at nodes) values o p) (zero_pixel (seen o p.clip))

masked_form : (d : Depth) (k : Components) (b : Bool) (p : Pixel) → HasForm d k p → HasForm d k (cond b p (zero_pixel k))
masked_form d k true p h = h
masked_form d k false p h = zero_form d k

masked_given : (nodes : Nodes) (k : ℕ) (values : ℕ → Pixels) (o : EffectNode) → IsEffectNode k o → AllFormed nodes k values → (regions : List Bounds) (t : ℤ) → IsGiven o.meaning.shape o.context (o.values t) o.depth o.components (masked nodes values regions o)
masked_given nodes k values o i h regions t =
    let form : (p : Tap) → HasForm o.depth (seen o p.clip) (masked nodes values regions o p) = λ p. masked_form o.depth (seen o p.clip) (within (region_of regions p.clip) p.x p.y) (tap_value (depth_at nodes) values o p) (tap_formed nodes k values o i h p) in
    record { lawful = i.lawful t; supported = i.supported; depth_is = λ p. (form p).0; components_are = λ p. (form p).1 }

masked_by : (nodes : Nodes) (values : ℕ → Pixels) (r : Bounds) (o : EffectNode) (p : Tap) (b : Bool) → within r p.x p.y ≡ b → ((Holds r p.x p.y → ⊥) → tap_value (depth_at nodes) values o p ≡ zero_pixel (seen o p.clip)) → tap_value (depth_at nodes) values o p ≡ cond (within r p.x p.y) (tap_value (depth_at nodes) values o p) (zero_pixel (seen o p.clip))
masked_by nodes values r o p true e h = rw e refl
masked_by nodes values r o p false e h = rw e (h (not_within r p.x p.y e))

tap_masked : (nodes : Nodes) (k : ℕ) (values : ℕ → Pixels) (areas : ℕ → ℤ → Bounds) (o : EffectNode) → IsEffectNode k o → ((m : ℕ) → m < k → ZeroOutside (components_at nodes m) (values m) (areas m)) → (t : ℤ) (p : Tap) → InFrames o t p → tap_value (depth_at nodes) values o p ≡ masked nodes values (clip_areas areas o t) o p
tap_masked nodes k values areas o i h t p f =
    masked_by nodes values (region_of (clip_areas areas o t) p.clip) o p (within (region_of (clip_areas areas o t) p.clip) p.x p.y) refl
    (λ out. clip_zero nodes o.depth (seen o p.clip) values areas (o.meaning.spans (o.values t) p.clip) (clip_node o p.clip) p.frame p.x p.y (λ m e. h m (i.earlier p.clip m e)) f
    (subst (λ (r : Bounds). Holds r p.x p.y → ⊥) (clip_areas_at areas o t p.clip) out))

effect_zero : (nodes : Nodes) (k : ℕ) (values : ℕ → Pixels) (areas : ℕ → ℤ → Bounds) (o : EffectNode) → IsEffectNode k o → AllFormed nodes k values → ((t : ℤ) → AreRegions (o.values t) (clip_areas areas o t)) → ((m : ℕ) → m < k → ZeroOutside (components_at nodes m) (values m) (areas m)) → ZeroOutside o.components (node_value (depth_at nodes) values (Effect o)) (node_area areas (Effect o))
effect_zero nodes k values areas o i g a h t x y out =
    let regions = clip_areas areas o t in
    let taps = o.meaning.taps (o.values t) x y in
    let all : All (Covered o t (dot x y)) taps = i.laws.interest_holds_taps o.context (o.values t) (dot x y) x y (i.lawful t) (in_dot x y) in
    ap (o.meaning.mix (o.values t) o.components _ x y) (map_same (tap_value (depth_at nodes) values o) (masked nodes values regions o) (InFrames o t) (λ p f. tap_masked nodes k values areas o i h t p f) taps
    (λ p n. in_frames o t (dot x y) p (all_in (Covered o t (dot x y)) taps p all n)))
    ∙ i.laws.zero_outside_region o.context (o.values t) regions o.depth o.components (masked nodes values regions o) x y (masked_given nodes k values o i g regions t) (a t) (λ p away. rw (not_in (region_of regions p.clip) p.x p.y away) refl) out

-- outside the area the value is zero
pub outside_zero : (nodes : Nodes) → AreNodes nodes → (n : ℕ) → ZeroOutside (components_at nodes n) (value nodes n) (area nodes n)
outside_zero nodes ok = by_place (λ n. ZeroOutside (components_at nodes n) (value nodes n) (area nodes n)) (λ n h.
    subst (λ (v : Pixels). ZeroOutside (components_at nodes n) v (area nodes n)) (sym (value_is nodes ok n))
    (subst (λ (a : ℤ → Bounds). ZeroOutside (components_at nodes n) (node_value (depth_at nodes) (value nodes) (nodes n)) a) (sym (area_is nodes ok n))
    (node_zero n h (nodes n) (ok n))))
  where
    node_zero : (n : ℕ) → ((m : ℕ) → m < n → ZeroOutside (components_at nodes m) (value nodes m) (area nodes m)) → (node : Node) → IsNode n node → ZeroOutside (node_components node) (node_value (depth_at nodes) (value nodes) node) (node_area (area nodes) node)
    node_zero n h (Source r) i t x y out = source_zero r (r.named t) x y out
    node_zero n h (Effect o) i t x y out = effect_zero nodes n (value nodes) (area nodes) o i (λ m l. value_formed nodes ok m) (λ t. (regions_are nodes n (area nodes) o i (λ m l u. area_region nodes ok m u) t).0) h t x y out
