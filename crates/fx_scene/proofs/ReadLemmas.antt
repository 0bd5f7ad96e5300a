-- What is read of each clip.
use Rattle.std.proofs.Common.{◌≡◌, ℕ, ◌<◌, ◌≤◌, ℤ, ◌≤ℤ◌, List, [], ◌∷◌, map, length, get_or, refl, ap, sym, ◌∙◌, All, arith}
use Rattle.std.proofs.lemmas.Int.{ints}
use Rattle.std.proofs.lemmas.List.{get_or-map, length-map}
use Rattle.std.proofs.lemmas.List.FromFn.{get_or-map-range_with_len, length-map-range_with_len}
use Rattle.std.specs.List.{range_with_len}
use Rattle.std.specs.declared.alloc.Global.{Global}
use Rattle.std.specs.declared.vec.Vec.{Vec}
use Rattle.fx_base.specs.Rect.{IsFrame}
use Rattle.fx_effect.specs.Laws.{IsNearSpan}
use Rattle.fx_scene.specs.Frames.{frames_of, items_of, IsSmallSpan}
use Rattle.fx_scene.proofs.Members.{all_in, all_from}

abbrev pub span_items : Vec (ℤ × ℤ) Global → List (ℤ × ℤ)
span_items v = v.items

-- the frames of spans that are listed
abbrev pub frames_in_vec : Vec (ℤ × ℤ) Global → List ℤ
frames_in_vec v = frames_of v.items

map_map : {A B C : Type 0} (f : B → C) (g : A → B) (xs : List A) → map f (map g xs) ≡ map (λ x. f (g x)) xs
map_map f g [] = refl
map_map f g (x ∷ xs) = ap (λ ys. f (g x) ∷ ys) (map_map f g xs)

-- the frames of all spans
pub all_reads : (F : ℕ → List (ℤ × ℤ)) (count : ℕ) (spans : List (Vec (ℤ × ℤ) Global)) (reads : List (Vec ℤ Global))
    → map items_of reads ≡ map frames_in_vec spans → map span_items spans ≡ map F (range_with_len 0 count)
    → map items_of reads ≡ map (λ c. frames_of (F c)) (range_with_len 0 count)
all_reads F count spans reads a b =
    a ∙ sym (map_map frames_of span_items spans) ∙ ap (map frames_of) b
    ∙ map_map frames_of F (range_with_len 0 count)

-- the spans of a clip that are listed
pub span_at : (F : ℕ → List (ℤ × ℤ)) (count : ℕ) (spans : List (Vec (ℤ × ℤ) Global)) (i : ℕ) (s : Vec (ℤ × ℤ) Global)
    → map span_items spans ≡ map F (range_with_len 0 count) → i < length spans → s ≡ get_or spans i s → s.items ≡ F i
span_at F count spans i s are low there =
    let long : length spans ≡ count =
    sym (length-map spans span_items) ∙ ap (λ (fs : List (List (ℤ × ℤ))). length fs) are
    ∙ length-map-range_with_len F 0 count in
    ap span_items there ∙ sym (get_or-map span_items spans i s s.items low)
    ∙ ap (λ (fs : List (List (ℤ × ℤ))). get_or fs i s.items) are
    ∙ get_or-map-range_with_len F 0 count i i s.items (omega (arith, long, low)) (omega arith)

near_small : (t : ℤ) (span : ℤ × ℤ) → IsFrame t → IsNearSpan t span → IsSmallSpan span
near_small t span near h =
    let a = near.0 in
    let b = near.1 in
    let p = h.first_after in
    let q = h.first_before in
    let r = h.last_after in
    let s = h.last_before in
    record {
      first_low = omega (arith, ints);
      first_high = omega (arith, ints);
      last_low = omega (arith, ints);
      last_high = omega (arith, ints);
    }

pub small_spans : (t : ℤ) (spans : List (ℤ × ℤ)) → IsFrame t → All (IsNearSpan t) spans → All IsSmallSpan spans
small_spans t spans near h =
    all_from IsSmallSpan spans (λ span i. near_small t span near (all_in (IsNearSpan t) spans span h i))
