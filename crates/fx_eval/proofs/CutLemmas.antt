-- Pieces of a region.
use Rattle.std.proofs.Common.{◌≡◌, ◌≤◌, ◌<◌, ◌+◌, ◌*◌, ℕ, ℤ, pos, neg_ℤ, ◌+ℤ◌, ◌≤ℤ◌, ◌<ℤ◌, Bool, true, false, ◌||◌, List, [], ◌∷◌, ◌++◌, refl, sym, ap, ◌∙◌, subst, arith}
use Rattle.std.proofs.lemmas.Int.{ints, clamps}
use Rattle.std.proofs.lemmas.Bool.{cases_Bool, or_right}
use Rattle.std.proofs.lemmas.List.Elements.{All-nil, All-cons, All-append}
use Rattle.std.proofs.Math.Nat.{add-mul}
use Rattle.std.specs.Int.{int_min, int_gap}
use Rattle.std.specs.Int.Signed.{lt_z}
use Rattle.std.specs.List.{All}
use mathlib.Core.Logic.{◌⊎◌, inl, inr}
use Rattle.fx_base.specs.Bounds.{Bounds, IsRect, none}
use Rattle.fx_base.specs.Rect.{Holds, within, rect_of}
use Rattle.fx_base.proofs.RectLemmas.{Holds-from_inside, IsInside-from_holds}
use Rattle.fx_image.proofs.ImageLaws.{gap_is}
use Rattle.fx_eval.specs.Cuts.{AddsUpTo, Cover, IsCut, IsNearSpan, along, has_place}

lt_is : (a b : ℤ) → a <ℤ b → lt_z a b ≡ true
lt_is a b h = grind (arith, ints)

lt_or : (a b : ℤ) → (a <ℤ b) ⊎ (b ≤ℤ a)
lt_or a b = elim (cases_Bool (lt_z a b)) [ inl e ↦ inl (lt_of a b e) | inr e ↦ inr (ge_of a b e) ]
  where
    lt_of : (a b : ℤ) → lt_z a b ≡ true → a <ℤ b
    lt_of a b e = grind (arith, ints)

    ge_of : (a b : ℤ) → lt_z a b ≡ false → b ≤ℤ a
    ge_of a b e = grind (arith, ints)

place_left : (rs : List Bounds) (r : Bounds) (x y : ℤ) → has_place rs x y ≡ true → has_place (rs ++ r ∷ []) x y ≡ true
place_left [] r x y h = absurd cc
place_left (q ∷ rs) r x y h = left_by (within q x y) (has_place rs x y) (has_place (rs ++ r ∷ []) x y) (place_left rs r x y) h
  where
    left_by : (b u v : Bool) → (u ≡ true → v ≡ true) → b || u ≡ true → b || v ≡ true
    left_by true u v k h = refl
    left_by false u v k h = k h

place_last : (rs : List Bounds) (r : Bounds) (x y : ℤ) → Holds r x y → has_place (rs ++ r ∷ []) x y ≡ true
place_last [] r x y h = rw h refl
place_last (q ∷ rs) r x y h = or_right (within q x y) (has_place (rs ++ r ∷ []) x y) (place_last rs r x y h)

cut_is : (r : Bounds) → r.x1 <ℤ r.x2 → r.y1 <ℤ r.y2 → r.x2 ≤ℤ (r.x1 +ℤ pos 4096) → r.y2 ≤ℤ (r.y1 +ℤ pos 4096) → neg_ℤ (pos 1073741824) ≤ℤ r.x1 → r.x2 ≤ℤ pos 1073741824 → neg_ℤ (pos 1073741824) ≤ℤ r.y1 → r.y2 ≤ℤ pos 1073741824 → IsCut r
cut_is r wide high thin low a b c d =
    let across = gap_is r.x1 r.x2 (omega (arith, ints)) in
    let up = gap_is r.y1 r.y2 (omega (arith, ints)) in
    record {
      some = λ e. let p = ap (λ (q : Bounds). q.x1) e in let q = ap (λ (q : Bounds). q.x2) e in omega (arith, ints);
      bounds = inr (wide, high);
      near = record { left = omega (arith, ints); right = b; bottom = omega (arith, ints); top = d };
      wide = omega (arith, ints);
      high = omega (arith, ints);
    }

-- one more piece of a row
pub row_step : (x1 x2 to bottom top left right : ℤ) (old cuts new : List Bounds) (r : Bounds) → IsNearSpan x1 x2 → IsNearSpan bottom top → bottom <ℤ top → top ≤ℤ (bottom +ℤ pos 4096) → x1 ≤ℤ left → left <ℤ x2 → right ≡ int_min (left +ℤ pos 4096) x2 → to ≤ℤ (left +ℤ pos 4096) → r ≡ rect_of left bottom right top → new ≡ cuts ++ r ∷ [] → AddsUpTo x1 x2 left bottom top old cuts → AddsUpTo x1 x2 to bottom top old new
row_step x1 x2 to bottom top left right old cuts new r wide high rises small from low ends next is pushed done =
    let w1 = wide.low in let w2 = wide.high in let h1 = high.low in let h2 = high.high in
    let proper : left <ℤ right = omega (arith, ints, clamps) in
    let same : r ≡ record { x1 = left; y1 = bottom; x2 = right; y2 = top } = is ∙ (rw (lt_is left right proper, lt_is bottom top rises) refl) in
    let piece : IsCut r = subst IsCut (sym same) (cut_is (record { x1 = left; y1 = bottom; x2 = right; y2 = top }) proper rises (omega (arith, ints, clamps)) small (omega (arith, ints)) (omega (arith, ints, clamps)) h1 h2) in
    subst (λ (rs : List Bounds). AddsUpTo x1 x2 to bottom top old rs) (sym pushed) (record {
      small = λ a. All-append IsCut cuts (r ∷ []) (done.small a) (All-cons IsCut r [] piece (All-nil IsCut));
      keeps = λ x y h. place_left cuts r x y (done.keeps x y h);
      covers = λ x y a b c d e. elim (lt_or x left) [
        | inl f ↦ place_left cuts r x y (done.covers x y a b f d e)
        | inr f ↦ place_last cuts r x y (subst (λ (q : Bounds). Holds q x y) (sym same) (Holds-from_inside (record { x1 = left; y1 = bottom; x2 = right; y2 = top }) x y (record { left = f; right = omega (arith, ints, clamps); bottom = d; top = e })))
      ];
    })

pub row_none : (x1 x2 bottom top to : ℤ) (old : List Bounds) → to ≤ℤ x1 → AddsUpTo x1 x2 to bottom top old old
row_none x1 x2 bottom top to old low = record { small = λ a. a; keeps = λ x y h. h; covers = λ x y a b c d e. absurd (omega (arith, ints)) }

pub row_whole : (x1 x2 bottom top to : ℤ) (old new : List Bounds) → x2 ≤ℤ to → AddsUpTo x1 x2 to bottom top old new → AddsUpTo x1 x2 x2 bottom top old new
row_whole x1 x2 bottom top to old new past done = record { small = done.small; keeps = done.keeps; covers = λ x y a b c d e. done.covers x y a b (omega (arith, ints)) d e }

pub rect_rises : (r : Bounds) → IsRect r → (r.x1 ≤ℤ r.x2) × (r.y1 ≤ℤ r.y2)
rect_rises r h = elim h [
  | inl e ↦ let p1 = ap (λ (q : Bounds). q.x1) e in let p2 = ap (λ (q : Bounds). q.x2) e in let p3 = ap (λ (q : Bounds). q.y1) e in let p4 = ap (λ (q : Bounds). q.y2) e in (omega (arith, ints), omega (arith, ints))
  | inr p ↦ let a = p.0 in let b = p.1 in (omega (arith, ints), omega (arith, ints))
]

-- the rows so far
pub record Rows (r : Bounds) (to : ℤ) (cuts : List Bounds) : Type 0 where
  pub small : All IsCut cuts
  pub covers : (x y : ℤ) → Holds r x y → y <ℤ to → has_place cuts x y ≡ true

pub rows_none : (r : Bounds) (to : ℤ) (cuts : List Bounds) → to ≤ℤ r.y1 → cuts ≡ [] → Rows r to cuts
rows_none r to cuts low none = subst (Rows r to) (sym none) (record { small = All-nil IsCut; covers = λ x y h b. let at = (IsInside-from_holds r x y h).bottom in absurd (omega (arith, ints)) })

pub rows_step : (r : Bounds) (bottom top to : ℤ) (old new : List Bounds) → top ≡ int_min (bottom +ℤ pos 4096) r.y2 → to ≤ℤ (bottom +ℤ pos 4096) → Rows r bottom old → AddsUpTo r.x1 r.x2 r.x2 bottom top old new → Rows r to new
rows_step r bottom top to old new ends next done row =
    record {
      small = row.small done.small;
      covers = λ x y h b. elim (lt_or y bottom) [
        | inl f ↦ row.keeps x y (done.covers x y h f)
        | inr f ↦ let at = IsInside-from_holds r x y h in let t = at.top in row.covers x y at.left at.right at.right f (omega (arith, ints, clamps))
      ];
    }

pub rows_whole : (r : Bounds) (to : ℤ) (cuts : List Bounds) → r.y2 ≤ℤ to → Rows r to cuts → Cover cuts r
rows_whole r to cuts past done x y h = let at = (IsInside-from_holds r x y h).top in done.covers x y h (omega (arith, ints))

-- ---- how many

count_of : (gap n : ℕ) → gap ≤ n * 4096 → n * 4096 < gap + 4096 → n ≡ along gap
count_of gap n a b = omega arith

pub count_is : (from to : ℤ) (n : ℕ) → from ≤ℤ to → to ≤ℤ (from +ℤ pos (n * 4096)) → (from +ℤ pos (n * 4096)) <ℤ (to +ℤ pos 4096)
    → n ≡ along (int_gap from to)
count_is from to n rises a b =
    let g = gap_is from to rises in count_of (int_gap from to) n (omega (arith, ints)) (omega (arith, ints))

one_mul : (c : ℕ) → 1 * c ≡ c
one_mul c = omega arith

-- one more row of so many
pub count_more : (j c old new : ℕ) → old ≡ j * c → new ≡ old + c → new ≡ (j + 1) * c
count_more j c old new is e =
    e ∙ ap (λ (k : ℕ). k + c) is ∙ sym (add-mul j 1 c ∙ ap (λ (k : ℕ). j * c + k) (one_mul c))
