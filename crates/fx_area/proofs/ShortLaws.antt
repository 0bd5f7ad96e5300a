-- Samples of 16 bits in vectors, lane by lane, and rows of which 16 at once are written.
use Rattle.std.proofs.Common.{◌≡◌, refl, ◌≤◌, ◌<◌, ◌⊎◌, inl, inr, ℕ, ◌+◌, ◌-◌, ◌*◌, ◌/◌, ◌%◌, min, max, List, [], ◌∷◌, map, length, get_or, ◌++◌, ap, subst, ◌∙◌, arith}
use Rattle.std.specs.List.{range_with_len}
use Rattle.std.proofs.lemmas.Bool.{cases_lt}
use Rattle.std.proofs.lemmas.List.{get_or_append_left}
use Rattle.std.proofs.lemmas.List.FromFn.{get_or-map-range_with_len}
use Rattle.std.proofs.lemmas.Simd.{length-chunk, get_or-chunk, get_or-put_chunk_below, get_or-put_chunk_at, get_or-put_chunk_above}
use lib.Lanes.{chunk, put_chunk, number_l}
use Rattle.fx_pixel.specs.declared.Depth.TheVariants.{Short}
use Rattle.fx_image.specs.Stored.{sample_in}
use Rattle.fx_kernel.proofs.ByteLaws.{IsMask, lanes_chosen, lanes_least, lanes_most}
use Rattle.fx_area.specs.declared.extreme.Extreme.{Extreme}
use Rattle.fx_area.specs.Extreme.{pick}

-- ---- the least and the greatest at each lane

short_mask : IsMask 15 65535
short_mask = record { on = refl; off = refl }

pub least_at : (xs ys : List ℕ) (i : ℕ) → i < length xs → i < length ys
    → get_or (lanes_chosen 15 65535 xs ys xs ys) i 0 ≡ min (get_or xs i 0) (get_or ys i 0)
least_at xs ys i p q = lanes_least 15 65535 xs ys i short_mask p q

pub most_at : (xs ys : List ℕ) (i : ℕ) → i < length xs → i < length ys
    → get_or (lanes_chosen 15 65535 xs ys ys xs) i 0 ≡ max (get_or xs i 0) (get_or ys i 0)
most_at xs ys i p q = lanes_most 15 65535 xs ys i short_mask p q

-- ---- the two bytes of a sample

abbrev pub partner : ℕ → ℕ
partner i = 2 * (i / 2) + 1 - i % 2

pub swapped_at : (xs : List ℕ) (i : ℕ) → length xs ≡ 32 → i < 32
    → get_or (map (λ j. get_or (xs ++ xs) (partner j) 0) (range_with_len 0 32)) i 0 ≡ get_or xs (partner i) 0
swapped_at xs i long inside =
    get_or-map-range_with_len (λ j. get_or (xs ++ xs) (partner j) 0) 0 32 i i 0 inside (omega arith)
    ∙ get_or_append_left xs xs 0 (partner i) (omega arith)

abbrev pub AreSwapped : List ℕ → List ℕ → Type 0
AreSwapped xs ys = (i : ℕ) → i < 32 → get_or ys i 0 ≡ get_or xs (partner i) 0

swapped_even : (xs ys : List ℕ) (i : ℕ) → AreSwapped xs ys → i < 16 → get_or ys (2 * i) 0 ≡ get_or xs (2 * i + 1) 0
swapped_even xs ys i swapped low = swapped (2 * i) (omega arith) ∙ ap (λ k. get_or xs k 0) (omega arith)

swapped_odd : (xs ys : List ℕ) (i : ℕ) → AreSwapped xs ys → i < 16 → get_or ys (2 * i + 1) 0 ≡ get_or xs (2 * i) 0
swapped_odd xs ys i swapped low = swapped (2 * i + 1) (omega arith) ∙ ap (λ k. get_or xs k 0) (omega arith)

pair_is : (zs : List ℕ) → length zs ≡ 2 → number_l 256 zs ≡ get_or zs 0 0 + 256 * get_or zs 1 0
pair_is [] long = absurd (omega arith)
pair_is (x ∷ []) long = absurd (omega arith)
pair_is (x ∷ y ∷ []) long = omega arith
pair_is (x ∷ y ∷ z ∷ zs) long = absurd (omega arith)

-- a lane that is made of two bytes, once they are swapped
pub lane_of_bytes : (xs ys : List ℕ) (i : ℕ) → AreSwapped xs ys → length ys ≡ 32 → i < 16
    → number_l 256 (chunk (2 * i) 2 ys) ≡ sample_in Short xs i
lane_of_bytes xs ys i swapped long low =
    let pair = chunk (2 * i) 2 ys in
    let first : get_or pair 0 0 ≡ get_or ys (2 * i) 0 = get_or-chunk (2 * i) 2 ys 0 0 (omega arith) ∙ ap (λ k. get_or ys k 0) (omega arith) in
    let second : get_or pair 1 0 ≡ get_or ys (2 * i + 1) 0 = get_or-chunk (2 * i) 2 ys 1 0 (omega arith) in
    let is = pair_is pair (length-chunk (2 * i) 2 ys (omega arith)) in
    omega (arith, is, first, second, swapped_even xs ys i swapped low, swapped_odd xs ys i swapped low)

-- the two bytes that a lane is made into, once they are swapped
pub bytes_of_lane : (s : ℕ) (xs ys : List ℕ) (i : ℕ) → s < 65536 → AreSwapped xs ys → i < 16
    → get_or xs (2 * i) 0 ≡ s % 256 → get_or xs (2 * i + 1) 0 ≡ s / 256 % 256 → sample_in Short ys i ≡ s
bytes_of_lane s xs ys i few swapped low first second =
    omega (arith, swapped_even xs ys i swapped low, swapped_odd xs ys i swapped low)

-- ---- rows

same_sample : (xs ys : List ℕ) (i j : ℕ) → get_or xs (2 * i) 0 ≡ get_or ys (2 * j) 0
    → get_or xs (2 * i + 1) 0 ≡ get_or ys (2 * j + 1) 0 → sample_in Short xs i ≡ sample_in Short ys j
same_sample xs ys i j first second = omega arith

loaded : (start at : ℕ) (row : List ℕ) (i : ℕ) → start ≡ 2 * at → i < 16
    → sample_in Short (chunk start 32 row) i ≡ sample_in Short row (at + i)
loaded start at row i is low =
    same_sample (chunk start 32 row) row i (at + i)
    (get_or-chunk start 32 row (2 * i) 0 (omega arith) ∙ ap (λ k. get_or row k 0) (omega arith))
    (get_or-chunk start 32 row (2 * i + 1) 0 (omega arith) ∙ ap (λ k. get_or row k 0) (omega arith))

stored_before : (block : ℕ) (row made : List ℕ) (k : ℕ) → k < 16 * block
    → sample_in Short (put_chunk (32 * block) row made) k ≡ sample_in Short row k
stored_before block row made k low =
    same_sample (put_chunk (32 * block) row made) row k k
    (get_or-put_chunk_below (32 * block) row made (2 * k) 0 (omega arith))
    (get_or-put_chunk_below (32 * block) row made (2 * k + 1) 0 (omega arith))

stored_inside : (block : ℕ) (row made : List ℕ) (i : ℕ) → length made ≡ 32 → 32 * block + 32 ≤ length row → i < 16
    → sample_in Short (put_chunk (32 * block) row made) (16 * block + i) ≡ sample_in Short made i
stored_inside block row made i long room low =
    let new = put_chunk (32 * block) row made in
    same_sample new made (16 * block + i) i
    (ap (λ k. get_or new k 0) (omega arith) ∙ get_or-put_chunk_at (32 * block) row made (2 * i) 0 (omega arith) (omega arith))
    (ap (λ k. get_or new k 0) (omega arith) ∙ get_or-put_chunk_at (32 * block) row made (2 * i + 1) 0 (omega arith) (omega arith))

pub stored_behind : (block : ℕ) (row made : List ℕ) (k : ℕ) → length made ≡ 32 → 16 * (block + 1) ≤ k
    → sample_in Short (put_chunk (32 * block) row made) k ≡ sample_in Short row k
stored_behind block row made k long high =
    same_sample (put_chunk (32 * block) row made) row k k
    (get_or-put_chunk_above (32 * block) row made (2 * k) 0 (omega arith))
    (get_or-put_chunk_above (32 * block) row made (2 * k + 1) 0 (omega arith))

-- the samples of the second row are picked of those of the first, and of those that are `shift` behind them
abbrev pub Picked : Extreme → ℕ → List ℕ → List ℕ → ℕ → Type 0
Picked e shift old new k = sample_in Short new k ≡ pick e (sample_in Short old k) (sample_in Short old (k + shift))

-- with 16 more that are written there are so many more
pub block_picked : (e : Extreme) (shift block : ℕ) (old row made : List ℕ) → length made ≡ 32 → 32 * block + 32 ≤ length row
    → ((k : ℕ) → k < 16 * block → Picked e shift old row k)
    → ((k : ℕ) → 16 * block ≤ k → sample_in Short row k ≡ sample_in Short old k)
    → ((i : ℕ) → i < 16 → sample_in Short made i ≡ pick e (sample_in Short (chunk (32 * block) 32 row) i) (sample_in Short (chunk (32 * block + 2 * shift) 32 row) i))
    → (k : ℕ) → k < 16 * (block + 1) → Picked e shift old (put_chunk (32 * block) row made) k
block_picked e shift block old row made long room done left new k low = by (cases_lt k (16 * block))
  where
    inside : (i : ℕ) → i < 16 → Picked e shift old (put_chunk (32 * block) row made) (16 * block + i)
    inside i few =
        let here = loaded (32 * block) (16 * block) row i (omega arith) few ∙ left (16 * block + i) (omega arith) in
        let there = loaded (32 * block + 2 * shift) (16 * block + shift) row i (omega arith) few ∙ left (16 * block + shift + i) (omega arith) ∙ ap (sample_in Short old) (omega arith) in
        stored_inside block row made i long room few ∙ new i few
        ∙ ap (λ a. pick e a (sample_in Short (chunk (32 * block + 2 * shift) 32 row) i)) here
        ∙ ap (pick e (sample_in Short old (16 * block + i))) there

    is : 16 * block ≤ k → 16 * block + (k - 16 * block) ≡ k
    is behind = omega arith

    by : (k < 16 * block) ⊎ (16 * block ≤ k) → Picked e shift old (put_chunk (32 * block) row made) k
    by (inl before) = stored_before block row made k before ∙ done k before
    by (inr behind) = subst (λ n. Picked e shift old (put_chunk (32 * block) row made) n) (is behind) (inside (k - 16 * block) (omega arith))

-- samples up to `first`, and then the others
pub rest_picked : (e : Extreme) (shift first : ℕ) (old mid new : List ℕ)
    → ((k : ℕ) → k < first → Picked e shift old mid k)
    → ((k : ℕ) → first ≤ k → sample_in Short mid k ≡ sample_in Short old k)
    → ((k : ℕ) → k < first → sample_in Short new k ≡ sample_in Short mid k)
    → (s : ℕ) → (first ≤ s → Picked e shift mid new s) → Picked e shift old new s
rest_picked e shift first old mid new done left kept s more = by (cases_lt s first)
  where
    by : (s < first) ⊎ (first ≤ s) → Picked e shift old new s
    by (inl before) = kept s before ∙ done s before
    by (inr behind) =
        more behind ∙ ap (λ a. pick e a (sample_in Short mid (s + shift))) (left s behind)
        ∙ ap (pick e (sample_in Short old s)) (left (s + shift) (omega arith))
