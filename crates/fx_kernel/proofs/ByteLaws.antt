-- Samples in vectors, lane by lane: comparisons, and of 8 bits products and the a of each pixel.
use Rattle.std.proofs.Common.{◌≡◌, refl, ◌≤◌, ◌<◌, ℕ, zero, suc, ◌+◌, ◌*◌, ◌/◌, ◌%◌, ◌^◌, ◌-◌, min, max, Bool, true, false, cond, ltb, ltb-true, ltb-false, List, [], ◌∷◌, map, length, get_or, replicate, ◌++◌, ap, ◌∙◌, arith, w8, Fits}
use Rattle.std.proofs.lemmas.Nat.{mul-le}
use Rattle.std.specs.List.{range_with_len}
use Rattle.std.proofs.lemmas.List.{get_or_append_left}
use Rattle.std.proofs.lemmas.List.FromFn.{get_or-map-range_with_len}
use lib.Lanes.{zip2, sel_l, top, Each1}
use Rattle.fx_kernel.specs.Samples.{rounded}
use Rattle.fx_kernel.specs.Blends.{product}
use Rattle.fx_kernel.specs.BlendLaws.{product_bound}
use Rattle.fx_kernel.specs.Lanes.{alpha_place}

-- ---- two lanes, whose highest bit is that of `sign`

abbrev pub lane_below : ℕ → ℕ → ℕ → ℕ
lane_below greatest a b = cond (ltb a b) greatest 0

-- what a vector has of two others by a comparison of two
abbrev pub lanes_chosen : ℕ → ℕ → List ℕ → List ℕ → List ℕ → List ℕ → List ℕ
lanes_chosen sign greatest xs ys us vs = sel_l (map (top sign) (zip2 (lane_below greatest) xs ys)) us vs

-- a comparison shows in the highest bit of its lane
pub record IsMask (sign greatest : ℕ) : Type 0 where
  pub on : top sign greatest ≡ true
  pub off : top sign 0 ≡ false

lane_least : (sign greatest a b : ℕ) → IsMask sign greatest → cond (top sign (lane_below greatest a b)) a b ≡ min a b
lane_least sign greatest a b mask = go (ltb a b) refl
  where
    go : (t : Bool) → ltb a b ≡ t → cond (top sign (cond t greatest 0)) a b ≡ min a b
    go true e = ap (λ t. cond t a b) mask.on ∙ omega (arith, ltb-true _ _ e)
    go false e = ap (λ t. cond t a b) mask.off ∙ omega (arith, ltb-false _ _ e)

lane_most : (sign greatest a b : ℕ) → IsMask sign greatest → cond (top sign (lane_below greatest a b)) b a ≡ max a b
lane_most sign greatest a b mask = go (ltb a b) refl
  where
    go : (t : Bool) → ltb a b ≡ t → cond (top sign (cond t greatest 0)) b a ≡ max a b
    go true e = ap (λ t. cond t b a) mask.on ∙ omega (arith, ltb-true _ _ e)
    go false e = ap (λ t. cond t b a) mask.off ∙ omega (arith, ltb-false _ _ e)

pub lanes_least : (sign greatest : ℕ) (xs ys : List ℕ) (i : ℕ) → IsMask sign greatest → i < length xs → i < length ys
    → get_or (lanes_chosen sign greatest xs ys xs ys) i 0 ≡ min (get_or xs i 0) (get_or ys i 0)
lanes_least sign greatest [] ys i mask p q = absurd (omega arith)
lanes_least sign greatest (x ∷ xs) [] i mask p q = absurd (omega arith)
lanes_least sign greatest (x ∷ xs) (y ∷ ys) zero mask p q = lane_least sign greatest x y mask
lanes_least sign greatest (x ∷ xs) (y ∷ ys) (suc i) mask p q =
    lanes_least sign greatest xs ys i mask (omega arith) (omega arith)

pub lanes_most : (sign greatest : ℕ) (xs ys : List ℕ) (i : ℕ) → IsMask sign greatest → i < length xs → i < length ys
    → get_or (lanes_chosen sign greatest xs ys ys xs) i 0 ≡ max (get_or xs i 0) (get_or ys i 0)
lanes_most sign greatest [] ys i mask p q = absurd (omega arith)
lanes_most sign greatest (x ∷ xs) [] i mask p q = absurd (omega arith)
lanes_most sign greatest (x ∷ xs) (y ∷ ys) zero mask p q = lane_most sign greatest x y mask
lanes_most sign greatest (x ∷ xs) (y ∷ ys) (suc i) mask p q =
    lanes_most sign greatest xs ys i mask (omega arith) (omega arith)

-- ---- two lanes of bytes

abbrev pub below : ℕ → ℕ → ℕ
below a b = lane_below 255 a b

abbrev pub chosen : List ℕ → List ℕ → List ℕ → List ℕ → List ℕ
chosen xs ys us vs = lanes_chosen 7 255 xs ys us vs

abbrev pub less : ℕ → ℕ → ℕ
less a b = (a + (2 ^ 8 - b)) % 2 ^ 8

byte_mask : IsMask 7 255
byte_mask = record { on = refl; off = refl }

pub one_least : (a b : ℕ) → cond (top 7 (below a b)) a b ≡ min a b
one_least a b = lane_least 7 255 a b byte_mask

pub one_most : (a b : ℕ) → cond (top 7 (below a b)) b a ≡ max a b
one_most a b = lane_most 7 255 a b byte_mask

pub least_at : (xs ys : List ℕ) (i : ℕ) → i < length xs → i < length ys
    → get_or (chosen xs ys xs ys) i 0 ≡ min (get_or xs i 0) (get_or ys i 0)
least_at xs ys i p q = lanes_least 7 255 xs ys i byte_mask p q

pub most_at : (xs ys : List ℕ) (i : ℕ) → i < length xs → i < length ys
    → get_or (chosen xs ys ys xs) i 0 ≡ max (get_or xs i 0) (get_or ys i 0)
most_at xs ys i p q = lanes_most 7 255 xs ys i byte_mask p q

-- ---- at each lane

pub lane_low : (xs : List ℕ) (i : ℕ) → Each1 (Fits w8) xs → get_or xs i 0 ≤ 255
lane_low [] i fits = omega arith
lane_low (x ∷ xs) zero fits = let low = fits.0.fits in omega arith
lane_low (x ∷ xs) (suc i) fits = lane_low xs i fits.1

-- ---- products

abbrev same : ℕ → ℕ
same a = a

-- what is rounded of the products, in lanes of 16 bits
abbrev pub sums : ℕ → List ℕ → List ℕ → List ℕ
sums n xs ys =
    zip2 (λ a b. (a + b) % 2 ^ 16) (zip2 (λ a b. (a * b) % 2 ^ 16) (map same xs) (map same ys)) (replicate n 127)

abbrev pub quotients : ℕ → List ℕ → List ℕ → List ℕ
quotients n xs ys = zip2 (λ a b. a / b) (sums n xs ys) (replicate n 255)

-- a quotient by 255 in 16 bits is rounded as any other
by_255 : (p : ℕ) → p ≤ 65025 → (p % 2 ^ 16 + 127) % 2 ^ 16 / 255 ≡ rounded p 255
by_255 p few = omega arith

one_product : (a b : ℕ) → a ≤ 255 → b ≤ 255 → (a * b % 2 ^ 16 + 127) % 2 ^ 16 / 255 ≡ product 255 a b
one_product a b few low = by_255 (a * b) (mul-le a b 255 255 few low)

product_low : (a b : ℕ) → a ≤ 255 → b ≤ 255 → product 255 a b ≤ 255
product_low a b few low = product_bound 255 a b (omega arith) few low

pub product_at : (n : ℕ) (xs ys : List ℕ) (i : ℕ) → length xs ≡ n → length ys ≡ n → i < n → Each1 (Fits w8) xs
    → Each1 (Fits w8) ys → get_or (map same (quotients n xs ys)) i 0 ≡ product 255 (get_or xs i 0) (get_or ys i 0)
product_at zero xs ys i p q low f g = absurd (omega arith)
product_at (suc n) [] ys i p q low f g = absurd (omega arith)
product_at (suc n) (x ∷ xs) [] i p q low f g = absurd (omega arith)
product_at (suc n) (x ∷ xs) (y ∷ ys) zero p q low f g =
    one_product x y (lane_low (x ∷ xs) 0 f) (lane_low (y ∷ ys) 0 g)
product_at (suc n) (x ∷ xs) (y ∷ ys) (suc i) p q low f g =
    product_at n xs ys i (omega arith) (omega arith) (omega arith) f.1 g.1

pub quotients_long : (n : ℕ) (xs ys : List ℕ) → length xs ≡ n → length ys ≡ n
    → length (map same (quotients n xs ys)) ≡ n
quotients_long zero [] ys p q = refl
quotients_long zero (x ∷ xs) ys p q = absurd (omega arith)
quotients_long (suc n) [] ys p q = absurd (omega arith)
quotients_long (suc n) (x ∷ xs) [] p q = absurd (omega arith)
quotients_long (suc n) (x ∷ xs) (y ∷ ys) p q = ap suc (quotients_long n xs ys (omega arith) (omega arith))

pub quotients_fit : (n : ℕ) (xs ys : List ℕ) → Each1 (Fits w8) xs → Each1 (Fits w8) ys
    → Each1 (Fits w8) (quotients n xs ys)
quotients_fit n [] ys f g = tt
quotients_fit n (x ∷ xs) [] f g = tt
quotients_fit zero (x ∷ xs) (y ∷ ys) f g = tt
quotients_fit (suc n) (x ∷ xs) (y ∷ ys) f g =
    let few = lane_low (x ∷ xs) 0 f in
    let low = lane_low (y ∷ ys) 0 g in
    (record { fits = omega (arith, one_product x y few low, product_low x y few low) }, quotients_fit n xs ys f.1 g.1)

-- ---- the a of each pixel

pub alphas_at : (xs : List ℕ) (i : ℕ) → length xs ≡ 32 → i < 32
    → get_or (map (λ j. get_or (xs ++ xs) (alpha_place j) 0) (range_with_len 0 32)) i 0 ≡ get_or xs (alpha_place i) 0
alphas_at xs i long inside =
    get_or-map-range_with_len (λ j. get_or (xs ++ xs) (alpha_place j) 0) 0 32 i i 0 inside (omega arith)
    ∙ get_or_append_left xs xs 0 (alpha_place i) (omega arith)
