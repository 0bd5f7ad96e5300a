-- Samples of 8 bits in vectors, lane by lane.
use Rattle.std.proofs.Common.{◌≡◌, refl, ◌≤◌, ◌<◌, ◌⊎◌, inl, inr, ℕ, zero, suc, ◌+◌, ◌-◌, ◌*◌, ◌/◌, ◌%◌, ◌^◌, List, [], ◌∷◌, map, length, get_or, slice_index, replicate, ap, ◌∙◌, arith, w8, Fits}
use Rattle.std.proofs.Math.Nat.{mul-le-mul_right}
use Rattle.std.proofs.lemmas.Bool.{cases_lt}
use Rattle.std.proofs.lemmas.Simd.{get_or-put_chunk_below, get_or-put_chunk_at}
use lib.Lanes.{zip2, Each1, put_chunk}
use Rattle.fx_kernel.specs.Blends.{blended}
use Rattle.fx_kernel.specs.BlendLaws.{blended_bound}

-- ---- rows of which several samples at once are written

-- with n more that are written there are so many more
pub lanes_next : (want : ℕ → ℕ) (row made : List ℕ) (first n : ℕ) → length made ≡ n → first + n ≤ length row
    → ((k : ℕ) → k < first → slice_index row k ≡ want k)
    → ((i : ℕ) → i < n → slice_index made i ≡ want (first + i))
    → (k : ℕ) → k < first + n → slice_index (put_chunk first row made) k ≡ want k
lanes_next want row made first n long room done new k below = by (cases_lt k first)
  where
    is : first ≤ k → first + (k - first) ≡ k
    is behind = omega arith

    by : (k < first) ⊎ (first ≤ k) → slice_index (put_chunk first row made) k ≡ want k
    by (inl before) = get_or-put_chunk_below first row made k 0 before ∙ done k before
    by (inr behind) =
        rw (is behind) at (get_or-put_chunk_at first row made (k - first) 0 (omega arith) (omega arith)
        ∙ new (k - first) (omega arith))

-- ---- blends, in lanes of 32 bits

abbrev same : ℕ → ℕ
same a = a

abbrev added : ℕ → ℕ → ℕ
added a b = (a + b) % 2 ^ 32

abbrev times : ℕ → ℕ → ℕ
times a b = a * b % 2 ^ 32

abbrev pub blends : ℕ → ℕ → ℕ → List ℕ → List ℕ → List ℕ
blends n back level xs ys =
    zip2 (λ a b. a / 2 ^ b) (zip2 added
    (zip2 added (zip2 times (map same xs) (replicate n back)) (zip2 times (map same ys) (replicate n level)))
    (replicate n 32768)) (replicate n 16)

one_blend : (level a b : ℕ) → level ≤ 65536 → a ≤ 255 → b ≤ 255
    → added (added (times a (65536 - level)) (times b level)) 32768 / 2 ^ 16 ≡ blended level a b
one_blend level a b low few many =
    let first = mul-le-mul_right (65536 - level) few in
    let second = mul-le-mul_right level many in
    omega arith

pub blend_at : (n level : ℕ) (xs ys : List ℕ) (i : ℕ) → level ≤ 65536 → length xs ≡ n → length ys ≡ n → i < n
    → Each1 (Fits w8) xs → Each1 (Fits w8) ys
    → get_or (map same (blends n (65536 - level) level xs ys)) i 0 ≡ blended level (get_or xs i 0) (get_or ys i 0)
blend_at zero level xs ys i low p q inside f g = absurd (omega arith)
blend_at (suc n) level [] ys i low p q inside f g = absurd (omega arith)
blend_at (suc n) level (x ∷ xs) [] i low p q inside f g = absurd (omega arith)
blend_at (suc n) level (x ∷ xs) (y ∷ ys) zero low p q inside f g =
    let few = f.0.fits in
    let many = g.0.fits in
    one_blend level x y low (omega arith) (omega arith)
blend_at (suc n) level (x ∷ xs) (y ∷ ys) (suc i) low p q inside f g =
    blend_at n level xs ys i low (omega arith) (omega arith) (omega arith) f.1 g.1

pub blends_long : (n back level : ℕ) (xs ys : List ℕ) → length xs ≡ n → length ys ≡ n
    → length (map same (blends n back level xs ys)) ≡ n
blends_long zero back level [] ys p q = refl
blends_long zero back level (x ∷ xs) ys p q = absurd (omega arith)
blends_long (suc n) back level [] ys p q = absurd (omega arith)
blends_long (suc n) back level (x ∷ xs) [] p q = absurd (omega arith)
blends_long (suc n) back level (x ∷ xs) (y ∷ ys) p q = ap suc (blends_long n back level xs ys (omega arith) (omega arith))

pub blends_fit : (n level : ℕ) (xs ys : List ℕ) → level ≤ 65536 → Each1 (Fits w8) xs → Each1 (Fits w8) ys
    → Each1 (Fits w8) (blends n (65536 - level) level xs ys)
blends_fit zero level [] ys low f g = tt
blends_fit zero level (x ∷ xs) [] low f g = tt
blends_fit zero level (x ∷ xs) (y ∷ ys) low f g = tt
blends_fit (suc n) level [] ys low f g = tt
blends_fit (suc n) level (x ∷ xs) [] low f g = tt
blends_fit (suc n) level (x ∷ xs) (y ∷ ys) low f g =
    let first = f.0.fits in
    let second = g.0.fits in
    let few : x ≤ 255 = omega arith in
    let many : y ≤ 255 = omega arith in (
      record { fits = omega (arith, one_blend level x y low few many, blended_bound level x y 255 low few many) },
      blends_fit n level xs ys low f.1 g.1,
    )
