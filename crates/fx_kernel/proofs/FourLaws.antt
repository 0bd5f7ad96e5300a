-- Four sums in lanes of 64 bits: what they gain and lose, and their means.
use Rattle.std.proofs.Common.{◌≡◌, ◌≤◌, ◌<◌, ◌⊎◌, inl, inr, subst, ℕ, zero, suc, ◌+◌, ◌-◌, ◌*◌, ◌/◌, ◌%◌, ◌^◌, List, [], ◌∷◌, map, length, get_or, slice_index, replicate, ap, ◌∙◌, arith, w8, Fits, bit_and}
use Rattle.std.proofs.lemmas.Nat.{mul-le, and_mask}
use Rattle.std.proofs.lemmas.Simd.{get_or-zip2, length-zip2, get_or-chunk, length-chunk, get_or-put_chunk_below, get_or-put_chunk_at, Each1-from_get_or}
use lib.Lanes.{zip2, chunk, put_chunk, Each1}
use Rattle.std.proofs.lemmas.Bool.{cases_lt}
use Rattle.fx_kernel.specs.Window.{AreSmall, window, strided}
use Rattle.fx_kernel.specs.Factor.{HasByteFactor}
use Rattle.fx_kernel.specs.Samples.{rounded}
use Rattle.fx_kernel.specs.SampleLaws.{rounded_bound}
use Rattle.fx_kernel.proofs.FactorLaws.{by_factor, excess}
use Rattle.fx_kernel.proofs.WindowLaws.{sum_more, sum_enough, sum_next, sum_fits}

abbrev same : ℕ → ℕ
same a = a

abbrev added : ℕ → ℕ → ℕ
added a b = (a + b) % 2 ^ 64

abbrev taken : ℕ → ℕ → ℕ
taken a b = (a + (2 ^ 64 - b)) % 2 ^ 64

abbrev times : ℕ → ℕ → ℕ
times a b = a * b % 2 ^ 64

-- ---- with the cells from a place on

abbrev pub gained : List ℕ → List ℕ → ℕ → List ℕ
gained sums cells at = zip2 added sums (chunk at 4 cells)

abbrev pub lost : List ℕ → List ℕ → ℕ → List ℕ
lost sums cells at = zip2 taken sums (chunk at 4 cells)

module _ (sums cells : List ℕ) (at : ℕ) (long : length sums ≡ 4) (room : at + 4 ≤ length cells) where
  cells_long : length (chunk at 4 cells) ≡ 4
  cells_long = length-chunk at 4 cells room

  pub gained_long : length (gained sums cells at) ≡ 4
  gained_long = length-zip2 added sums (chunk at 4 cells) (omega (arith, cells_long)) ∙ long

  pub lost_long : length (lost sums cells at) ≡ 4
  lost_long = length-zip2 taken sums (chunk at 4 cells) (omega (arith, cells_long)) ∙ long

  pub gained_at : (k place : ℕ) → k < 4 → at + k ≡ place → slice_index sums k + slice_index cells place < 18446744073709551616
      → slice_index (gained sums cells at) k ≡ slice_index sums k + slice_index cells place
  gained_at k place few is fits =
      let cell : slice_index (chunk at 4 cells) k ≡ slice_index cells place = get_or-chunk at 4 cells k 0 few ∙ ap (slice_index cells) is in
      get_or-zip2 added sums (chunk at 4 cells) k 0 0 0 (omega arith) (omega (arith, cells_long)) ∙ omega (arith, cell)

  pub lost_at : (k place sum : ℕ) → k < 4 → at + k ≡ place → slice_index sums k ≡ sum → slice_index cells place ≤ sum → sum < 18446744073709551616
      → slice_index (lost sums cells at) k ≡ sum - slice_index cells place
  lost_at k place sum few is value enough fits =
      let cell : slice_index (chunk at 4 cells) k ≡ slice_index cells place = get_or-chunk at 4 cells k 0 few ∙ ap (slice_index cells) is in
      get_or-zip2 taken sums (chunk at 4 cells) k 0 0 0 (omega arith) (omega (arith, cells_long)) ∙ omega (arith, cell, value)

-- the sums of four windows, which move by one pixel
module _ (cells sums : List ℕ) (i count more : ℕ) (long : length sums ≡ 4) (value : (k : ℕ) → k < 4 → slice_index sums k ≡ window (strided cells 4 (k + 4 * i)) more)
    (there : i < count) (whole : 4 * (count + more) ≡ length cells) (few : more ≤ 128) (small : AreSmall cells) where
  room : 4 * i + 4 * more + 4 ≤ length cells
  room = omega arith

  wider_at : (k : ℕ) → k < 4 → slice_index (gained sums cells (4 * i + 4 * more)) k ≡ slice_index sums k + slice_index cells ((k + 4 * i) + 4 * more)
  wider_at k low =
      gained_at sums cells (4 * i + 4 * more) long room k ((k + 4 * i) + 4 * more) low (omega arith) (sum_fits cells 4 (k + 4 * i) more (slice_index sums k) (value k low) few small)

  pub windows_wider : (k : ℕ) → k < 4 → slice_index (gained sums cells (4 * i + 4 * more)) k ≡ window (strided cells 4 (k + 4 * i)) (more + 1)
  windows_wider k low = wider_at k low ∙ sum_more cells 4 (k + 4 * i) more (slice_index sums k) (value k low)

  pub windows_long : length (lost (gained sums cells (4 * i + 4 * more)) cells (4 * i)) ≡ 4
  windows_long = lost_long (gained sums cells (4 * i + 4 * more)) cells (4 * i) (gained_long sums cells (4 * i + 4 * more) long room) (omega (arith, room))

  pub windows_next : (k : ℕ) → k < 4 → slice_index (lost (gained sums cells (4 * i + 4 * more)) cells (4 * i)) k ≡ window (strided cells 4 (k + 4 * (i + 1))) more
  windows_next k low =
      let s = k + 4 * i in
      let sum = slice_index sums k in
      let is = value k low in
      lost_at (gained sums cells (4 * i + 4 * more)) cells (4 * i) (gained_long sums cells (4 * i + 4 * more) long room) (omega (arith, room))
      k s (sum + slice_index cells (s + 4 * more)) low (omega arith) (wider_at k low) (sum_enough cells 4 s more sum is) (sum_fits cells 4 s more sum is few small)
      ∙ sum_next cells 4 s more sum is (k + 4 * (i + 1)) (omega arith)

-- with one pixel more that is written there is one more
pub pixels_next : (want : ℕ → ℕ) (row made : List ℕ) (i : ℕ) → length made ≡ 4 → 4 * i + 4 ≤ length row
    → ((j k : ℕ) → j < i → k < 4 → slice_index row (k + 4 * j) ≡ want (k + 4 * j))
    → ((k : ℕ) → k < 4 → slice_index made k ≡ want (k + 4 * i))
    → (j k : ℕ) → j < i + 1 → k < 4 → slice_index (put_chunk (4 * i) row made) (k + 4 * j) ≡ want (k + 4 * j)
pixels_next want row made i long room done new j k below low = by (cases_lt j i)
  where
    here : slice_index (put_chunk (4 * i) row made) (k + 4 * i) ≡ want (k + 4 * i)
    here =
        ap (slice_index (put_chunk (4 * i) row made)) (omega arith) ∙ get_or-put_chunk_at (4 * i) row made k 0 (omega arith) (omega arith) ∙ new k low

    is : i ≤ j → i ≡ j
    is behind = omega arith

    by : (j < i) ⊎ (i ≤ j) → slice_index (put_chunk (4 * i) row made) (k + 4 * j) ≡ want (k + 4 * j)
    by (inl before) = get_or-put_chunk_below (4 * i) row made (k + 4 * j) 0 (omega arith) ∙ done j k before low
    by (inr behind) = subst (λ n. slice_index (put_chunk (4 * i) row made) (k + 4 * n) ≡ want (k + 4 * n)) (is behind) here

-- ---- means of bytes

abbrev masked : ℕ → ℕ → ℕ
masked a b = bit_and a b

abbrev pub quotients : ℕ → ℕ → ℕ → ℕ → List ℕ → List ℕ
quotients n count factor shift xs =
    zip2 (λ a b. a / 2 ^ b) (zip2 times (zip2 masked (zip2 added (zip2 added xs xs) (replicate n count)) (replicate n 4294967295)) (replicate n factor)) (replicate n shift)

mask_small : (a : ℕ) → a < 4294967296 → bit_and a 4294967295 ≡ a
mask_small a small = and_mask a 32 ∙ omega arith

module _ (count factor shift : ℕ) (some : 0 < count) (few : count ≤ 65536) (is : HasByteFactor count factor shift) where
  product_small : (p e : ℕ) → p ≤ count * 511 → e ≤ 2 * count → p * e < 2 ^ shift
  product_small p e low high = omega (arith, mul-le p e (count * 511) (2 * count) low high, is.room)

  one_quotient : (x : ℕ) → x ≤ count * 255 → times (masked (added (added x x) count) 4294967295) factor / 2 ^ shift ≡ rounded x count
  one_quotient x low =
      let p = 2 * x + count in
      let d = 2 * count in
      let k = 2 ^ shift in
      let least : p ≤ count * 511 = omega arith in
      let sum : added (added x x) count ≡ p = omega arith in
      let mask : masked p 4294967295 ≡ p = mask_small p (omega arith) in
      let fits : p * factor ≤ 33488896 * 4294967295 = mul-le p factor 33488896 4294967295 (omega arith) (omega (arith, is.short)) in
      let product : times p factor ≡ p * factor = omega (arith, fits) in
      let some_more : 0 < d = omega arith in
      let most : d - k % d ≤ d = omega arith in
      rw (sum, mask, product, is.value)
      (by_factor p d (k / d + 1) (d - k % d) k some_more (excess d k some_more) (product_small p (d - k % d) least most))

  quotient_at : (n : ℕ) (xs : List ℕ) (k : ℕ) → length xs ≡ n → k < n → Each1 (λ x. x ≤ count * 255) xs
      → get_or (map same (quotients n count factor shift xs)) k 0 ≡ rounded (get_or xs k 0) count
  quotient_at zero xs k long inside low = absurd (omega arith)
  quotient_at (suc n) [] k long inside low = absurd (omega arith)
  quotient_at (suc n) (x ∷ xs) zero long inside low = one_quotient x low.0
  quotient_at (suc n) (x ∷ xs) (suc k) long inside low = quotient_at n xs k (omega arith) (omega arith) low.1

  quotients_fit : (n : ℕ) (xs : List ℕ) → Each1 (λ x. x ≤ count * 255) xs → Each1 (Fits w8) (quotients n count factor shift xs)
  quotients_fit n [] low = tt
  quotients_fit zero (x ∷ xs) low = tt
  quotients_fit (suc n) (x ∷ xs) low =
      (record { fits = omega (arith, one_quotient x low.0, rounded_bound x count 255 some low.0) }, quotients_fit n xs low.1)

-- of four sums, by a mean whose count is this one
module _ (count factor shift mean : ℕ) (sums : List ℕ) (view : count ≡ mean) (some : 0 < count) (few : count ≤ 65536)
    (has : HasByteFactor mean factor shift) (long : length sums ≡ 4) (low : (k : ℕ) → k < 4 → slice_index sums k ≤ mean * 255) where
  is : HasByteFactor count factor shift
  is = rw view has

  all_low : Each1 (λ x. x ≤ count * 255) sums
  all_low = Each1-from_get_or (λ x. x ≤ count * 255) sums 0 (λ k inside. rw view (low k (omega (arith, inside, long))))

  pub four_fit : Each1 (Fits w8) (quotients 4 count factor shift sums)
  four_fit = quotients_fit count factor shift some few is 4 sums all_low

  pub four_means : (k : ℕ) → k < 4 → get_or (map same (quotients 4 count factor shift sums)) k 0 ≡ rounded (get_or sums k 0) mean
  four_means k inside = quotient_at count factor shift some few is 4 sums k long inside all_low ∙ ap (rounded (get_or sums k 0)) view
