-- The sides of an area, whose ends are words.
use Rattle.std.proofs.Common.{◌≡◌, ◌∙◌, ◌≤◌, ◌<◌, ◌+◌, ◌*◌, inl, inr, ℕ, ℤ, pos, negsuc, ◌≤ℤ◌, ◌<ℤ◌, ap, sym, subst}
use Rattle.std.proofs.Common.{arith, w64, to_z, of_z, Fits, FitsSigned}
use Rattle.std.specs.Int.{int_gap}
use Rattle.std.proofs.Math.Nat.{mul-le-mul_right}
use Rattle.std.proofs.lemmas.Int.{ints, to_z-of_z}
use Rattle.fx_base.specs.Bounds.{Bounds, IsRect}
use Rattle.fx_base.specs.Rect.{columns, rows, IsNear, IsStep}
use Rattle.fx_base.proofs.RectLaws.{gap_is}
use Rattle.fx_pixel.specs.declared.Components.{Components}
use Rattle.fx_pixel.specs.declared.Components.TheVariants as components
use Rattle.fx_pixel.specs.Pixel.{count}
use Rattle.fx_area.specs.Gathered.{IsProperArea}
use Rattle.fx_area.proofs.AreaLaws.{fits_far}

-- an end of it is a word
pub fits_end : (x : ℤ) → IsStep 1073741888 x → FitsSigned w64 x
fits_end x near = fits_far x (omega (arith, ints, near.0)) (omega (arith, ints, near.1))

gap_same : (x y : ℤ) (n : ℕ) → FitsSigned w64 x → FitsSigned w64 y
    → n ≡ int_gap (to_z w64 (of_z w64 x)) (to_z w64 (of_z w64 y)) → n ≡ int_gap x y
gap_same x y n p q is =
    is ∙ ap (λ z. int_gap z (to_z w64 (of_z w64 y))) (to_z-of_z w64 x p) ∙ ap (int_gap x) (to_z-of_z w64 y q)

-- what `offset` answers for its sides
pub columns_are : (r area : Bounds) (n : ℕ) → r ≡ area → IsProperArea area
    → n ≡ int_gap (to_z w64 (of_z w64 r.x1)) (to_z w64 (of_z w64 r.x2)) → n ≡ columns area
columns_are r area n same is gap =
    gap_same area.x1 area.x2 n (fits_end area.x1 is.near.left) (fits_end area.x2 is.near.right)
    (subst (λ (b : Bounds). n ≡ int_gap (to_z w64 (of_z w64 b.x1)) (to_z w64 (of_z w64 b.x2))) same gap)

pub rows_are : (r area : Bounds) (n : ℕ) → r ≡ area → IsProperArea area
    → n ≡ int_gap (to_z w64 (of_z w64 r.y1)) (to_z w64 (of_z w64 r.y2)) → n ≡ rows area
rows_are r area n same is gap =
    gap_same area.y1 area.y2 n (fits_end area.y1 is.near.bottom) (fits_end area.y2 is.near.top)
    (subst (λ (b : Bounds). n ≡ int_gap (to_z w64 (of_z w64 b.y1)) (to_z w64 (of_z w64 b.y2))) same gap)

-- what it asks of them
in_words : (x y : ℤ) → FitsSigned w64 x → FitsSigned w64 y → x ≤ℤ y → to_z w64 (of_z w64 x) ≤ℤ to_z w64 (of_z w64 y)
in_words x y p q order =
    subst (λ z. z ≤ℤ to_z w64 (of_z w64 y)) (sym (to_z-of_z w64 x p))
    (subst (λ z. x ≤ℤ z) (sym (to_z-of_z w64 y q)) order)

pub columns_ordered : (r area : Bounds) → r ≡ area → IsProperArea area
    → to_z w64 (of_z w64 r.x1) ≤ℤ to_z w64 (of_z w64 r.x2)
columns_ordered r area same is =
    subst (λ (b : Bounds). to_z w64 (of_z w64 b.x1) ≤ℤ to_z w64 (of_z w64 b.x2)) (sym same)
    (in_words area.x1 area.x2 (fits_end area.x1 is.near.left) (fits_end area.x2 is.near.right)
    (omega (arith, ints, is.wide)))

pub rows_ordered : (r area : Bounds) → r ≡ area → IsProperArea area
    → to_z w64 (of_z w64 r.y1) ≤ℤ to_z w64 (of_z w64 r.y2)
rows_ordered r area same is =
    subst (λ (b : Bounds). to_z w64 (of_z w64 b.y1) ≤ℤ to_z w64 (of_z w64 b.y2)) (sym same)
    (in_words area.y1 area.y2 (fits_end area.y1 is.near.bottom) (fits_end area.y2 is.near.top)
    (omega (arith, ints, is.high)))

-- the lower end of a side that isn't far
pub low_end : (x y : ℤ) → negsuc 1073741823 ≤ℤ x → x <ℤ y → y ≤ℤ pos 1073741824 → to_z w64 (of_z w64 x) ≡ x
low_end x y low some high = to_z-of_z w64 x (fits_far x (omega (arith, ints, low)) (omega (arith, ints, some, high)))

-- ---- the same of rectangles that are near

-- a side whose ends are in order, as words
in_order : (x y : ℤ) → negsuc 1073741823 ≤ℤ x → x ≤ℤ y → y ≤ℤ pos 1073741824 → FitsSigned w64 x × FitsSigned w64 y
in_order x y low order high = (
  fits_far x (omega (arith, ints, low)) (omega (arith, ints, order, high)),
  fits_far y (omega (arith, ints, low, order)) (omega (arith, ints, high)),
)

-- what `offset` asks, and what it answers
pub order_near : (r rect : Bounds) → r ≡ rect → IsNear rect → rect.x1 ≤ℤ rect.x2
    → to_z w64 (of_z w64 r.x1) ≤ℤ to_z w64 (of_z w64 r.x2)
order_near r rect same near order =
    let fits = in_order rect.x1 rect.x2 near.left order near.right in
    subst (λ (b : Bounds). to_z w64 (of_z w64 b.x1) ≤ℤ to_z w64 (of_z w64 b.x2)) (sym same)
    (subst (λ z. z ≤ℤ to_z w64 (of_z w64 rect.x2)) (sym (to_z-of_z w64 rect.x1 fits.0))
    (subst (λ z. rect.x1 ≤ℤ z) (sym (to_z-of_z w64 rect.x2 fits.1)) order))

pub columns_near : (r rect : Bounds) (n : ℕ) → r ≡ rect → IsNear rect → rect.x1 ≤ℤ rect.x2
    → n ≡ int_gap (to_z w64 (of_z w64 r.x1)) (to_z w64 (of_z w64 r.x2)) → n ≡ columns rect
columns_near r rect n same near order gap =
    let fits = in_order rect.x1 rect.x2 near.left order near.right in
    gap_same rect.x1 rect.x2 n fits.0 fits.1
    (subst (λ (b : Bounds). n ≡ int_gap (to_z w64 (of_z w64 b.x1)) (to_z w64 (of_z w64 b.x2))) same gap)

pub ordered : (x y : ℤ) → x <ℤ y → x ≤ℤ y
ordered x y less = omega (arith, ints, less)

pub rect_ordered : (rect : Bounds) → IsRect rect → rect.x1 ≤ℤ rect.x2
rect_ordered rect (inl is) = subst (λ (b : Bounds). b.x1 ≤ℤ b.x2) (sym is) (omega (arith, ints))
rect_ordered rect (inr proper) = ordered rect.x1 rect.x2 proper.0

-- a rectangle that has a row has a column
none_there : (y : ℤ) → pos 0 ≤ℤ y → y <ℤ pos 0 → ⊥
none_there y low high = omega (arith, ints, low, high)

pub row_wide : (rect : Bounds) (y : ℤ) → IsRect rect → rect.y1 ≤ℤ y → y <ℤ rect.y2 → rect.x1 <ℤ rect.x2
row_wide rect y (inl is) low high =
    absurd (none_there y (subst (λ (b : Bounds). b.y1 ≤ℤ y) is low) (subst (λ (b : Bounds). y <ℤ b.y2) is high))
row_wide rect y (inr proper) low high = proper.0

pub few_columns : (rect : Bounds) → IsNear rect → rect.x1 ≤ℤ rect.x2 → columns rect ≤ 2147483648
few_columns rect near order = omega (arith, ints, gap_is rect.x1 rect.x2 order, near.left, near.right)

-- how many samples a pixel has
pub step_is : (c : Components) (k : ℕ) → k ≡ count c → (0 < k) × (k ≤ 4)
step_is components.Rgba k is = (omega (arith, is), omega (arith, is))
step_is components.Alpha k is = (omega (arith, is), omega (arith, is))

-- a line of so many more pixels fits, and so do its samples
pub line_fits : (rect : Bounds) (n h : ℕ) → n ≡ columns rect → IsNear rect → rect.x1 ≤ℤ rect.x2 → h ≤ 64
    → Fits w64 (n + 2 * h)
line_fits rect n h is near order few = record { fits = omega (arith, is, few_columns rect near order, few) }

few_samples : (w k : ℕ) → w ≤ 2147483776 → k ≤ 4 → w * k < 18446744073709551616
few_samples w k wide few = omega (arith, mul-le-mul_right k wide, few)

pub samples_fit : (rect : Bounds) (c : Components) (n h k : ℕ) → n ≡ columns rect → k ≡ count c → IsNear rect
    → rect.x1 ≤ℤ rect.x2 → h ≤ 64 → Fits w64 ((n + 2 * h) * k)
samples_fit rect c n h k is step near order few =
    let wide : n + 2 * h ≤ 2147483776 = omega (arith, is, few_columns rect near order, few) in
    record { fits = few_samples (n + 2 * h) k wide (step_is c k step).1 }
