-- The sides of a near rectangle, whose ends are words, and how many samples a row of it has.
use Rattle.std.proofs.Common.{◌≡◌, ◌∙◌, ◌≤◌, ◌<◌, ◌*◌, ℕ, ℤ, pos, negsuc, ◌≤ℤ◌, ap, sym, subst, arith}
use Rattle.std.proofs.Common.{w32, w64, to_z, of_z, Fits, FitsSigned}
use Rattle.std.specs.Int.{int_gap}
use Rattle.std.proofs.Math.Nat.{mul-le-mul_right}
use Rattle.std.proofs.lemmas.Int.{ints, to_z-of_z}
use Rattle.fx_base.specs.Bounds.{Bounds}
use Rattle.fx_base.specs.Rect.{columns, IsNear}
use Rattle.fx_base.proofs.RectLaws.{gap_is}
use Rattle.fx_pixel.specs.declared.Depth.{Depth}
use Rattle.fx_pixel.specs.declared.Depth.TheVariants.{Byte, Short}
use Rattle.fx_pixel.specs.declared.Components.{Components}
use Rattle.fx_pixel.specs.declared.Components.TheVariants as components
use Rattle.fx_pixel.specs.Pixel.{count, size}

fits_far : (x : ℤ) → negsuc 4294967295 ≤ℤ x → x ≤ℤ pos 4294967296 → FitsSigned w64 x
fits_far x low high = grind (arith, ints)

-- a side whose ends are in order, as words
in_order : (x y : ℤ) → negsuc 1073741823 ≤ℤ x → x ≤ℤ y → y ≤ℤ pos 1073741824 → FitsSigned w64 x × FitsSigned w64 y
in_order x y low order high = (
  fits_far x (omega (arith, ints, low)) (omega (arith, ints, order, high)),
  fits_far y (omega (arith, ints, low, order)) (omega (arith, ints, high)),
)

-- what `offset` asks, and what it answers
pub order_near : (r rect : Bounds) → r ≡ rect → IsNear rect → rect.x1 ≤ℤ rect.x2
    → to_z w64 (of_z w64 r.x1) ≤ℤ to_z w64 (of_z w64 r.x2)
order_near r rect same near order =
    let fits = in_order rect.x1 rect.x2 near.left order near.right in
    subst (λ (b : Bounds). to_z w64 (of_z w64 b.x1) ≤ℤ to_z w64 (of_z w64 b.x2)) (sym same)
    (subst (λ z. z ≤ℤ to_z w64 (of_z w64 rect.x2)) (sym (to_z-of_z w64 rect.x1 fits.0))
    (subst (λ z. rect.x1 ≤ℤ z) (sym (to_z-of_z w64 rect.x2 fits.1)) order))

pub columns_near : (r rect : Bounds) (n : ℕ) → r ≡ rect → IsNear rect → rect.x1 ≤ℤ rect.x2
    → n ≡ int_gap (to_z w64 (of_z w64 r.x1)) (to_z w64 (of_z w64 r.x2)) → n ≡ columns rect
columns_near r rect n same near order gap =
    let fits = in_order rect.x1 rect.x2 near.left order near.right in
    subst (λ (b : Bounds). n ≡ int_gap (to_z w64 (of_z w64 b.x1)) (to_z w64 (of_z w64 b.x2))) same gap
    ∙ ap (λ z. int_gap z (to_z w64 (of_z w64 rect.x2))) (to_z-of_z w64 rect.x1 fits.0)
    ∙ ap (int_gap rect.x1) (to_z-of_z w64 rect.x2 fits.1)

few_columns : (rect : Bounds) → IsNear rect → rect.x1 ≤ℤ rect.x2 → columns rect ≤ 2147483648
few_columns rect near order = omega (arith, ints, gap_is rect.x1 rect.x2 order, near.left, near.right)

few_count : (c : Components) → count c ≤ 4
few_count components.Rgba = omega arith
few_count components.Alpha = omega arith

few_samples : (w k : ℕ) → w ≤ 2147483648 → k ≤ 4 → w * k < 18446744073709551616
few_samples w k wide few = omega (arith, mul-le-mul_right k wide, few)

-- the samples of a row of it are few
pub samples_fit : (rect : Bounds) (c : Components) (n k : ℕ) → n ≡ columns rect → k ≡ count c → IsNear rect
    → rect.x1 ≤ℤ rect.x2 → Fits w64 (n * k)
samples_fit rect c n k is step near order = record {
  fits = few_samples n k (omega (arith, is, few_columns rect near order)) (omega (arith, step, few_count c));
}

-- no more than its bytes
no_more : (d : Depth) (w m : ℕ) → w * (m * size d) < 4294967296 → w * m < 4294967296
no_more Byte w m few = omega (arith, few)
no_more Short w m few = omega (arith, few)

pub samples_small : (d : Depth) (n w k m r : ℕ) → n ≡ w → k ≡ m → r ≡ w * (m * size d) → r < 4294967296
    → Fits w32 (n * k)
samples_small d n w k m r p q is few = record {
  fits = rw (p, q) (no_more d w m (subst (λ b. b < 4294967296) is few));
}

-- how long a row is, by its samples
pub row_long : (long n w k m s : ℕ) → long ≡ w * (m * s) → n ≡ w → k ≡ m → long ≡ n * k * s
row_long long n w k m s is p q = rw (p, q) (is ∙ omega arith)

pub cells_long : (long cells w m s : ℕ) → long ≡ w * (m * s) → cells ≡ w * m → long ≡ cells * s
cells_long long cells w m s is p = rw p (is ∙ omega arith)
