-- Remainders of sums of products.
use Rattle.std.proofs.Common.{◌≡◌, ◌≤◌, ◌<◌, ℕ, suc, ◌+◌, ◌-◌, ◌*◌, ◌/◌, ◌%◌, ℤ, pos, negsuc, ◌+ℤ◌, ◌*ℤ◌, ◌≤ℤ◌, neg_ℤ, ap, sym, refl, arith, ◌∙◌}
use Rattle.std.specs.Int.{int_rem_euclid}
use Rattle.std.specs.Int.RustNames.{unsigned_abs}
use Rattle.std.proofs.lemmas.Int.{ints, int_rem_euclid_is}
use Rattle.std.proofs.lemmas.Nat.{div-add-mod', mod_below}
use Rattle.fx_gen.specs.Grain.{wrapped, mixed_in}

-- a product and some multiples of 2^32 are the product of the remainder and some others
pub record IsAlike (z : ℤ) (m : ℕ) : Type 0 where
  pub less : ℕ
  pub more : ℕ
  pub same : z +ℤ pos (less * 4294967296) ≡ pos (m + more * 4294967296)

back : (m k r : ℕ) → m + r ≡ k → neg_ℤ (pos m) +ℤ pos k ≡ pos r
back m k r is = omega (arith, ints)

-- with 2^32 as a variable
above : (n a size : ℕ) → n * a + 0 * size ≡ n % size * a + n / size * a * size
above n a size = omega (arith, ap (λ t. t * a) (div-add-mod' n size))

under : (n a size : ℕ) → 0 < size → suc n * a + (size - 1 - n % size) * a ≡ (n / size + 1) * a * size
under n a size some =
    let whole : suc n + (size - 1 - n % size) ≡ (n / size + 1) * size =
    omega (arith, div-add-mod' n size, mod_below n size some) in
    omega (arith, ap (λ t. t * a) whole)

product_alike : (z : ℤ) (a : ℕ) → IsAlike (z *ℤ pos a) (wrapped z * a)
product_alike (pos n) a =
    record { less = 0; more = n / 4294967296 * a; same = ap pos (above n a 4294967296) }
product_alike (negsuc n) a =
    let rest = 4294967296 - 1 - n % 4294967296 in
    record {
      less = (n / 4294967296 + 1) * a;
      more = 0;
      same = back (suc n * a) ((n / 4294967296 + 1) * a * 4294967296) (rest * a + 0 * 4294967296)
          (omega (arith, under n a 4294967296 (omega arith)));
    }

sum_alike : (x y : ℤ) (m n : ℕ) → IsAlike x m → IsAlike y n → IsAlike (x +ℤ y) (m + n)
sum_alike x y m n first second =
    record {
      less = first.less + second.less;
      more = first.more + second.more;
      same = omega (arith, ints, first.same, second.same);
    }

itself : (z : ℤ) → pos 0 ≤ℤ z → IsAlike z (unsigned_abs z)
itself (pos n) some = record { less = 0; more = 0; same = refl }
itself (negsuc n) some = absurd (omega (arith, ints))

multiples : (m k : ℕ) → (m + k * 4294967296) % 4294967296 ≡ m % 4294967296
multiples m k = omega arith

alike_wraps : (z : ℤ) (m : ℕ) → IsAlike z m → wrapped z ≡ m % 4294967296
alike_wraps z m alike =
    ap unsigned_abs
    (int_rem_euclid_is z (pos 4294967296) 4294967296 alike.less (m + alike.more * 4294967296) (omega arith) refl
    alike.same)
    ∙ multiples m alike.more

-- the remainder of the sum, by the remainders
pub mixed_is : (seed x y t : ℤ) → pos 0 ≤ℤ seed
    → (wrapped x * 73856093 + wrapped y * 19349663 + wrapped t * 83492791 + unsigned_abs seed) % 4294967296
    ≡ mixed_in seed x y t
mixed_is seed x y t some =
    let columns = product_alike x 73856093 in
    let rows = product_alike y 19349663 in
    let frames = product_alike t 83492791 in
    let places = sum_alike _ _ _ _ columns rows in
    let moments = sum_alike _ _ _ _ places frames in
    sym (alike_wraps _ _ (sum_alike _ _ _ _ moments (itself seed some)))
