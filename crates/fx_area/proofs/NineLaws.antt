-- Sixteen sums of nine samples of 8 bits at once.
use Rattle.std.proofs.Common.{◌≡◌, refl, ◌≤◌, ◌<◌, ◌⊎◌, inl, inr, ℕ, zero, suc, ◌+◌, ◌-◌, ◌*◌, ◌/◌, ◌%◌, ◌^◌, min, Bool, true, false, cond, ltb, ltb-true, ltb-false, ℤ, pos, negsuc, ◌+ℤ◌, ◌-ℤ◌, ◌*ℤ◌, List, [], ◌∷◌, map, length, get_or, replicate, ap, sym, subst, ◌∙◌, arith, w32, w64, of_z, to_z}
use Rattle.std.proofs.lemmas.Int.{ints}
use Rattle.std.proofs.lemmas.Nat.{mul-le, le-div}
use Rattle.std.proofs.lemmas.Bool.{cases_lt}
use lib.Lanes.{zip2, sel_l, top}
use Rattle.fx_base.specs.Rect.{IsStep}
use Rattle.fx_kernel.specs.Samples.{rounded, clamped}
use Rattle.fx_kernel.specs.SampleLaws.{rounded_bound, rounded_zero}
use Rattle.fx_kernel.proofs.FactorLaws.{by_factor, excess}
use Rattle.fx_area.specs.Convolve3.{rounded_z}
use Rattle.fx_area.specs.ConvolveRows.{IsDivisor}
use Rattle.fx_area.proofs.ConvolveLaws.{clamped_low, clamped_between, clamped_high}

abbrev added : ℕ → ℕ → ℕ
added a b = (a + b) % 2 ^ 32

abbrev times : ℕ → ℕ → ℕ
times a b = a * b % 2 ^ 32

abbrev same : ℕ → ℕ
same a = a

-- ---- sums of three products, with the bias

pub one_product : (k : ℤ) (s : ℕ) → IsStep 256 k → s ≤ 255
    → pos ((times s (of_z w32 k) + 65280) % 2 ^ 32) ≡ (k *ℤ pos s) +ℤ pos 65280
one_product (pos k) s near few =
    let low : k ≤ 256 = omega (arith, ints, near.1) in
    let is : of_z w32 (pos k) ≡ k = omega (arith, ints, low) in
    rw is (omega (arith, ints, mul-le s k 255 256 few low))
one_product (negsuc n) s near few =
    let low : suc n ≤ 256 = omega (arith, ints, near.0) in
    let is : of_z w32 (negsuc n) + suc n ≡ 4294967296 = omega (arith, ints, low) in
    omega (arith, ints, ap (λ z. s * z) is, mul-le s (suc n) 255 256 few low)

product_near : (k : ℤ) (s : ℕ) → IsStep 256 k → s ≤ 255 → IsStep 65280 (k *ℤ pos s)
product_near (pos k) s near few =
    let low : k ≤ 256 = omega (arith, ints, near.1) in
    (omega (arith, ints), omega (arith, ints, mul-le k s 256 255 low few))
product_near (negsuc n) s near few =
    let low : suc n ≤ 256 = omega (arith, ints, near.0) in
    (omega (arith, ints, mul-le (suc n) s 256 255 low few), omega (arith, ints))

sum_is : (x y z : ℕ) (a b c : ℤ) → x < 4294967296 → y < 4294967296 → z < 4294967296
    → IsStep 65280 a → IsStep 65280 b → IsStep 65280 c
    → pos ((x + 65280) % 2 ^ 32) ≡ a +ℤ pos 65280 → pos ((y + 65280) % 2 ^ 32) ≡ b +ℤ pos 65280
    → pos ((z + 65280) % 2 ^ 32) ≡ c +ℤ pos 65280
    → pos (added (added (added 195840 x) y) z) ≡ ((a +ℤ b) +ℤ c) +ℤ pos 195840
sum_is x y z a b c fx fy fz na nb nc p q r = omega (arith, ints, na.0, na.1, nb.0, nb.1, nc.0, nc.1)

mod_low : (a : ℕ) → a % 2 ^ 32 < 4294967296
mod_low a = omega arith

pub one_sum : (a b c : ℤ) (s t u : ℕ) → IsStep 256 a → IsStep 256 b → IsStep 256 c → s ≤ 255 → t ≤ 255 → u ≤ 255
    → pos (added (added (added 195840 (times s (of_z w32 a))) (times t (of_z w32 b))) (times u (of_z w32 c)))
    ≡ (((a *ℤ pos s) +ℤ (b *ℤ pos t)) +ℤ (c *ℤ pos u)) +ℤ pos 195840
one_sum a b c s t u na nb nc fs ft fu =
    sum_is (times s (of_z w32 a)) (times t (of_z w32 b)) (times u (of_z w32 c)) (a *ℤ pos s) (b *ℤ pos t) (c *ℤ pos u)
    (mod_low (s * of_z w32 a)) (mod_low (t * of_z w32 b)) (mod_low (u * of_z w32 c))
    (product_near a s na fs) (product_near b t nb ft) (product_near c u nc fu)
    (one_product a s na fs) (one_product b t nb ft) (one_product c u nc fu)

abbrev pub sums : ℕ → ℕ → ℕ → ℕ → List ℕ → List ℕ → List ℕ → List ℕ
sums n a b c xs ys zs =
    zip2 added
    (zip2 added (zip2 added (replicate n 195840) (zip2 times xs (replicate n a))) (zip2 times ys (replicate n b)))
    (zip2 times zs (replicate n c))

pub sum_at : (n a b c : ℕ) (xs ys zs : List ℕ) (i : ℕ) → length xs ≡ n → length ys ≡ n → length zs ≡ n → i < n
    → get_or (sums n a b c xs ys zs) i 0
    ≡ added (added (added 195840 (times (get_or xs i 0) a)) (times (get_or ys i 0) b)) (times (get_or zs i 0) c)
sum_at zero a b c xs ys zs i p q r low = absurd (omega arith)
sum_at (suc n) a b c [] ys zs i p q r low = absurd (omega arith)
sum_at (suc n) a b c (x ∷ xs) [] zs i p q r low = absurd (omega arith)
sum_at (suc n) a b c (x ∷ xs) (y ∷ ys) [] i p q r low = absurd (omega arith)
sum_at (suc n) a b c (x ∷ xs) (y ∷ ys) (z ∷ zs) zero p q r low = refl
sum_at (suc n) a b c (x ∷ xs) (y ∷ ys) (z ∷ zs) (suc i) p q r low =
    sum_at n a b c xs ys zs i (omega arith) (omega arith) (omega arith) (omega arith)

pub sums_long : (n a b c : ℕ) (xs ys zs : List ℕ) → length xs ≡ n → length ys ≡ n → length zs ≡ n
    → length (sums n a b c xs ys zs) ≡ n
sums_long zero a b c xs ys zs p q r = refl
sums_long (suc n) a b c [] ys zs p q r = absurd (omega arith)
sums_long (suc n) a b c (x ∷ xs) [] zs p q r = absurd (omega arith)
sums_long (suc n) a b c (x ∷ xs) (y ∷ ys) [] p q r = absurd (omega arith)
sums_long (suc n) a b c (x ∷ xs) (y ∷ ys) (z ∷ zs) p q r =
    ap suc (sums_long n a b c xs ys zs (omega arith) (omega arith) (omega arith))

-- ---- sums without the bias, divided

abbrev below : ℕ → ℕ → ℕ
below a b = cond (ltb a b) (2 ^ 32 - 1) 0

abbrev less : ℕ → ℕ → ℕ
less a b = (a + (2 ^ 32 - b)) % 2 ^ 32

one_over : (t b : ℕ) → t < 4294967296 → b < 4294967296 → less (cond (top 31 (below t b)) b t) b ≡ t - b
one_over t b low small = go (ltb t b) refl
  where
    go : (v : Bool) → ltb t b ≡ v → less (cond (top 31 (cond v (2 ^ 32 - 1) 0)) b t) b ≡ t - b
    go true e = omega (arith, ltb-true _ _ e)
    go false e = omega (arith, ltb-false _ _ e)

one_least : (a b : ℕ) → cond (top 31 (below a b)) a b ≡ min a b
one_least a b = go (ltb a b) refl
  where
    go : (v : Bool) → ltb a b ≡ v → cond (top 31 (cond v (2 ^ 32 - 1) 0)) a b ≡ min a b
    go true e = omega (arith, ltb-true _ _ e)
    go false e = omega (arith, ltb-false _ _ e)

abbrev over : ℕ → ℕ
over t = less (cond (top 31 (below t 587520)) 587520 t) 587520

abbrev capped : ℕ → ℕ → ℕ
capped m t = cond (top 31 (below (over t) m)) (over t) m

abbrev quotient : ℕ → ℕ → ℕ → ℕ
quotient q factor a = added (added a a) q * factor % 2 ^ 64 / 2 ^ 42

module _ (q factor : ℕ) (is : IsDivisor q) (reciprocal : factor ≡ 4398046511104 / (2 * q) + 1) where
  capped_is : (t : ℕ) → t ≤ 1175040 → capped (255 * q) t ≡ min (t - 587520) (255 * q)
  capped_is t low =
      one_least (over t) (255 * q) ∙ ap (λ a. min a (255 * q)) (one_over t 587520 (omega arith) (omega arith))

  one_quotient : (a : ℕ) → a ≤ 255 * q → quotient q factor a ≡ rounded a q
  one_quotient a low =
      let p : ℕ = 2 * a + q in
      let d : ℕ = 2 * q in
      let k : ℕ = 4398046511104 in
      let some : 0 < d = omega (arith, is.some) in
      let whole = excess d k some in
      let sum : added (added a a) q ≡ p = omega (arith, is.few) in
      let few : p ≤ 511 * q = omega arith in
      let rest : d - k % d ≤ d = omega arith in
      let room = mul-le p (k / d + 1) (511 * q) (k / d + 1) few (omega arith) in
      let product : p * (k / d + 1) % 2 ^ 64 ≡ p * (k / d + 1) = omega (arith, room, ap (λ z. 511 * z) whole, is.few) in
      let square = mul-le q q 65536 65536 is.few is.few in
      let small : p * (d - k % d) < k = omega (arith, mul-le p (d - k % d) (511 * q) d few rest, square) in
      rw (sum, reciprocal, product) (by_factor p d (k / d + 1) (d - k % d) k some whole small)

  greatest_is : rounded (255 * q) q ≡ 255
  greatest_is =
      let most = rounded_bound (255 * q) q 255 is.some (omega arith) in
      let least = le-div 255 (2 * (255 * q) + q) (2 * q) (omega (arith, is.some)) (omega arith) in
      omega (arith, most, least)

  mean_is : (t : ℕ) → rounded (min (t - 587520) (255 * q)) q ≡ clamped 255 (rounded_z (pos t -ℤ pos 587520) q)
  mean_is t = by (cases_lt t 587521)
    where
      low_is : t < 587521 → min (t - 587520) (255 * q) ≡ 0
      low_is low = omega arith

      size : 587521 ≤ t → pos t -ℤ pos 587520 ≡ pos (t - 587520)
      size high = omega (arith, ints)

      further : 587521 ≤ t → (t - 587520 < 255 * q) ⊎ (255 * q ≤ t - 587520)
          → rounded (min (t - 587520) (255 * q)) q ≡ clamped 255 (rounded_z (pos (t - 587520)) q)
      further high (inl few) =
          let n = t - 587520 in
          let least : min n (255 * q) ≡ n = omega arith in
          rw least (clamped_between 255 q n (rounded_bound n q 255 is.some (omega arith)))
      further high (inr many) =
          let n = t - 587520 in
          let least : min n (255 * q) ≡ 255 * q = omega arith in
          rw least (greatest_is ∙ clamped_high 255 q n is.some many)

      by : (t < 587521) ⊎ (587521 ≤ t)
          → rounded (min (t - 587520) (255 * q)) q ≡ clamped 255 (rounded_z (pos t -ℤ pos 587520) q)
      by (inl low) =
          ap (λ a. rounded a q) (low_is low) ∙ rounded_zero q is.some
          ∙ clamped_low 255 q (pos t -ℤ pos 587520) is.some (omega (arith, ints))
      by (inr high) = rw (size high) (further high (cases_lt (t - 587520) (255 * q)))

  pub one_mean : (t : ℕ) → t ≤ 1175040
      → quotient q factor (capped (255 * q) t) ≡ clamped 255 (rounded_z (pos t -ℤ pos 587520) q)
  one_mean t low =
      ap (quotient q factor) (capped_is t low) ∙ one_quotient (min (t - 587520) (255 * q)) (omega arith) ∙ mean_is t

abbrev overs : ℕ → List ℕ → List ℕ
overs n ts =
    zip2 less (sel_l (map (top 31) (zip2 below ts (replicate n 587520))) (replicate n 587520) ts) (replicate n 587520)

abbrev caps : ℕ → ℕ → List ℕ → List ℕ
caps n m ts = sel_l (map (top 31) (zip2 below (overs n ts) (replicate n m))) (overs n ts) (replicate n m)

abbrev pub quotients : ℕ → ℕ → ℕ → List ℕ → List ℕ
quotients n q factor ts =
    zip2 (λ a b. a / 2 ^ b) (zip2 (λ a b. a * b % 2 ^ 64)
    (map same (zip2 added (zip2 added (caps n (255 * q) ts) (caps n (255 * q) ts)) (replicate n q)))
    (replicate n factor)) (replicate n 42)

pub quotient_at : (n q factor : ℕ) (ts : List ℕ) (i : ℕ) → length ts ≡ n → i < n
    → get_or (map same (quotients n q factor ts)) i 0 ≡ quotient q factor (capped (255 * q) (get_or ts i 0))
quotient_at zero q factor ts i long low = absurd (omega arith)
quotient_at (suc n) q factor [] i long low = absurd (omega arith)
quotient_at (suc n) q factor (t ∷ ts) zero long low = refl
quotient_at (suc n) q factor (t ∷ ts) (suc i) long low = quotient_at n q factor ts i (omega arith) (omega arith)

-- the numbers may have been widened before
pub sum_of : (a b c : ℤ) (u v w s t z s' t' z' : ℕ) → u ≡ of_z w32 a → v ≡ of_z w32 b → w ≡ of_z w32 c → IsStep 256 a
    → IsStep 256 b → IsStep 256 c → s ≤ 255 → t ≤ 255 → z ≤ 255 → s ≡ s' → t ≡ t' → z ≡ z'
    → pos (added (added (added 195840 (times s u)) (times t v)) (times z w))
    ≡ (((a *ℤ pos s') +ℤ (b *ℤ pos t')) +ℤ (c *ℤ pos z')) +ℤ pos 195840
sum_of a b c u v w s t z s' t' z' p q r na nb nc fs ft fz is it iz =
    rw (p, q, r, ← is, ← it, ← iz) (one_sum a b c s t z na nb nc fs ft fz)

pub number_is : (k : ℤ) → IsStep 256 k → of_z w32 (to_z w32 (of_z w32 (to_z w64 (of_z w64 k)))) ≡ of_z w32 k
number_is k near = omega (arith, ints, near.0, near.1)

pub quotients_long : (n q factor : ℕ) (ts : List ℕ) → length ts ≡ n → length (map same (quotients n q factor ts)) ≡ n
quotients_long zero q factor [] long = refl
quotients_long zero q factor (t ∷ ts) long = absurd (omega arith)
quotients_long (suc n) q factor [] long = absurd (omega arith)
quotients_long (suc n) q factor (t ∷ ts) long = ap suc (quotients_long n q factor ts (omega arith))

pub quotients_plain : (n q factor : ℕ) (ts : List ℕ) → map same (quotients n q factor ts) ≡ quotients n q factor ts
quotients_plain n q factor ts = same_list (quotients n q factor ts)
  where
    same_list : (xs : List ℕ) → map same xs ≡ xs
    same_list [] = refl
    same_list (x ∷ xs) = ap (λ r. x ∷ r) (same_list xs)

near_few : (x y z : ℤ) (n : ℕ) → IsStep 65280 x → IsStep 65280 y → IsStep 65280 z
    → pos n ≡ ((x +ℤ y) +ℤ z) +ℤ pos 195840 → n ≤ 391680
near_few x y z n p q r is = omega (arith, ints, p.0, p.1, q.0, q.1, r.0, r.1, is)

-- no sum with the bias is more than twice the bias
pub sum_few : (a b c : ℤ) (s t z s' t' z' n : ℕ) → IsStep 256 a → IsStep 256 b → IsStep 256 c → s ≤ 255 → t ≤ 255
    → z ≤ 255 → s ≡ s' → t ≡ t' → z ≡ z'
    → pos n ≡ (((a *ℤ pos s') +ℤ (b *ℤ pos t')) +ℤ (c *ℤ pos z')) +ℤ pos 195840 → n ≤ 391680
sum_few a b c s t z s' t' z' n na nb nc fs ft fz is it iz sum =
    near_few (a *ℤ pos s') (b *ℤ pos t') (c *ℤ pos z') n (product_near a s' na (omega (arith, fs, is)))
    (product_near b t' nb (omega (arith, ft, it))) (product_near c z' nc (omega (arith, fz, iz))) sum

-- ---- sums of three sums, with three times the bias

abbrev pub nines : List ℕ → List ℕ → List ℕ → List ℕ
nines xs ys zs = zip2 added (zip2 added xs ys) zs

nine_at : (n : ℕ) (xs ys zs : List ℕ) (i : ℕ) → length xs ≡ n → length ys ≡ n → length zs ≡ n → i < n
    → get_or (nines xs ys zs) i 0 ≡ added (added (get_or xs i 0) (get_or ys i 0)) (get_or zs i 0)
nine_at zero xs ys zs i p q r low = absurd (omega arith)
nine_at (suc n) [] ys zs i p q r low = absurd (omega arith)
nine_at (suc n) (x ∷ xs) [] zs i p q r low = absurd (omega arith)
nine_at (suc n) (x ∷ xs) (y ∷ ys) [] i p q r low = absurd (omega arith)
nine_at (suc n) (x ∷ xs) (y ∷ ys) (z ∷ zs) zero p q r low = refl
nine_at (suc n) (x ∷ xs) (y ∷ ys) (z ∷ zs) (suc i) p q r low =
    nine_at n xs ys zs i (omega arith) (omega arith) (omega arith) (omega arith)

nine_few : (x y z : ℕ) → x ≤ 391680 → y ≤ 391680 → z ≤ 391680 → added (added x y) z ≤ 1175040
nine_few x y z p q r = omega arith

nine_is : (x y z : ℕ) (a b c : ℤ) → x ≤ 391680 → y ≤ 391680 → z ≤ 391680 → pos x ≡ a +ℤ pos 195840
    → pos y ≡ b +ℤ pos 195840 → pos z ≡ c +ℤ pos 195840 → pos (added (added x y) z) -ℤ pos 587520 ≡ (a +ℤ b) +ℤ c
nine_is x y z a b c fx fy fz p q r = omega (arith, ints, p, q, r)

module _ (xs ys zs : List ℕ) (i : ℕ) (lx : length xs ≡ 16) (ly : length ys ≡ 16) (lz : length zs ≡ 16) (low : i < 16)
    (fx : get_or xs i 0 ≤ 391680) (fy : get_or ys i 0 ≤ 391680) (fz : get_or zs i 0 ≤ 391680) where
  pub nines_few : get_or (nines xs ys zs) i 0 ≤ 1175040
  nines_few =
      subst (λ t. t ≤ 1175040) (sym (nine_at 16 xs ys zs i lx ly lz low))
      (nine_few (get_or xs i 0) (get_or ys i 0) (get_or zs i 0) fx fy fz)

  -- without the bias
  pub nines_are : (a b c : ℤ) → pos (get_or xs i 0) ≡ a +ℤ pos 195840 → pos (get_or ys i 0) ≡ b +ℤ pos 195840
      → pos (get_or zs i 0) ≡ c +ℤ pos 195840 → pos (get_or (nines xs ys zs) i 0) -ℤ pos 587520 ≡ (a +ℤ b) +ℤ c
  nines_are a b c p q r =
      ap (λ t. pos t -ℤ pos 587520) (nine_at 16 xs ys zs i lx ly lz low)
      ∙ nine_is (get_or xs i 0) (get_or ys i 0) (get_or zs i 0) a b c fx fy fz p q r
