-- Columns on the left of an edge.
use Rattle.std.proofs.Common.{◌≡◌, ◌≤◌, ◌<◌, ℕ, ◌+◌, ◌-◌, ◌*◌, ℤ, pos, ◌≤ℤ◌, ◌<ℤ◌, Bool, true, false, List, take, drop, ap, sym, arith, ◌∙◌, nat_lt, if◌then◌else◌}
use Rattle.std.proofs.Math.Nat.{mul-le-mul_right}
use Rattle.fx_image.proofs.PixelLaws.{pixel_of_run}
use Rattle.fx_pixel.specs.declared.Pixel.{Pixel}
use Rattle.std.specs.Int.{int_gap}
use Rattle.std.specs.Int.Signed.{lt_z}
use Rattle.std.proofs.lemmas.Int.{ints}
use Rattle.std.proofs.lemmas.Bool.Decides.{nat_tests}
use Rattle.fx_base.specs.Rect.{columns}
use Rattle.fx_base.proofs.RectLaws.{gap_is}
use Rattle.fx_base.proofs.RectLemmas.{same_test}
use Rattle.fx_pixel.specs.declared.Depth.{Depth}
use Rattle.fx_pixel.specs.declared.Depth.TheVariants as depths
use Rattle.fx_pixel.specs.declared.Components.{Components}
use Rattle.fx_pixel.specs.declared.Components.TheVariants as components
use Rattle.fx_pixel.specs.Pixel.{count, size}
use Rattle.fx_image.specs.Stored.{pixel_size, pixel_in}

-- a column before the edge, by its place
pub place_before : (a x e : ℤ) → a ≤ℤ x → a ≤ℤ e → nat_lt (int_gap a x) (int_gap a e) ≡ lt_z x e
place_before a x e left low =
    let p = gap_is a x left in
    let q = gap_is a e low in
    same_test (nat_lt (int_gap a x) (int_gap a e)) (lt_z x e) (λ h. grind (arith, ints, nat_tests)) (λ h. grind (arith, ints, nat_tests))

-- where the edge is on the left of all
pub none_before : (n : ℕ) (a x e : ℤ) → a ≤ℤ x → e ≤ℤ a → nat_lt n 0 ≡ lt_z x e
none_before n a x e left low =
    same_test (nat_lt n 0) (lt_z x e) (λ h. grind (arith, ints, nat_tests)) (λ h. grind (arith, ints, nat_tests))

-- and where it is on the right of all
pub all_before : (a x b e : ℤ) → a ≤ℤ x → x <ℤ b → b ≤ℤ e → nat_lt (int_gap a x) (int_gap a b) ≡ lt_z x e
all_before a x b e left right high =
    let p = gap_is a x left in
    let q = gap_is a b (omega (arith, ints)) in
    same_test (nat_lt (int_gap a x) (int_gap a b)) (lt_z x e) (λ h. grind (arith, ints, nat_tests)) (λ h. grind (arith, ints, nat_tests))

pub gap_up_to : (a e b : ℤ) → a ≤ℤ e → e ≤ℤ b → int_gap a e ≤ int_gap a b
gap_up_to a e b low high = let p = gap_is a e low in let q = gap_is a b (omega (arith, ints)) in omega (arith, ints, p, q)

-- what is chosen by a test
pub chosen : (b : Bool) (i n : ℕ) (p q r : Pixel) → nat_lt i n ≡ b → (i < n → r ≡ p) → (n ≤ i → r ≡ q) → r ≡ (if b then p else q)
chosen true i n p q r is first second = first (grind (arith, nat_tests))
chosen false i n p q r is first second = second (grind (arith, nat_tests))

pub plus_zero : (n : ℕ) → 0 + n ≡ n
plus_zero n = omega arith

pub minus_zero : (n : ℕ) → n - 0 ≡ n
minus_zero n = omega arith

-- a pixel in the front of a row
pub pixel_in_front : (d : Depth) (c : Components) (row : List ℕ) (n count i : ℕ) → n ≡ count * pixel_size d c → i < count
    → pixel_in d c (take n (drop 0 row)) i ≡ pixel_in d c row i
pixel_in_front d c row n count i is low =
    let none : 0 * pixel_size d c ≡ 0 = omega arith in
    let room : i * pixel_size d c + pixel_size d c ≤ n = omega (arith, is, mul-le-mul_right (pixel_size d c) low) in
    ap (λ m. pixel_in d c (take n (drop m row)) i) (sym none) ∙ pixel_of_run d c row n 0 i room ∙ ap (pixel_in d c row) (plus_zero i)
