-- Rows that were made as blocks of zeros.
use Rattle.std.proofs.Common.{ℕ, zero, suc, ◌≡◌, ◌≤◌, ◌<◌, ◌+◌, ◌-◌, ◌*◌, ◌/◌, ◌%◌, min, List, [], ◌++◌, ◌∷◌, length, take, drop, replicate, slice_index_or, refl, sym, ap, arith, ◌∙◌, ◌⊎◌, inl, inr}
use Rattle.std.proofs.Math.Nat.{sub-zero}
use Rattle.std.proofs.lemmas.Bool.{cases_lt}
use Rattle.std.proofs.lemmas.Nat.{mod_below, div-add-mod', div_below}
use Rattle.std.proofs.lemmas.List.{length_push, get_or_append_left, get_or_push, length-replicate, take-replicate, drop-replicate}
use Rattle.fx_image.proofs.RowsLaws.{rows_apart}

-- row y, by its block and its place there
pub place_of : (y step height : ℕ) → 0 < step → y < height → (y % step < step) × (y % step < height - (y / step) * step)
place_of y step height pos h = (mod_below y step pos, omega (arith, div-add-mod' y step))

pub get_push : {X : Type 0} (bands : List X) (b : X) (k : ℕ) (d c : X) → ((k < length bands) → slice_index_or bands k d ≡ c) → (k ≡ length bands → b ≡ c) → k < length bands + 1 → (k < length bands) ⊎ (length bands ≤ k) → slice_index_or (bands ++ b ∷ []) k d ≡ c
get_push bands b k d c old new low (inl h) = get_or_append_left bands (b ∷ []) d k h ∙ old h
get_push bands b k d c old new low (inr h) = let e : k ≡ length bands = omega arith in get_or_push bands b d k (sym e) ∙ new e

-- the first n blocks of an image, all zero
abbrev pub ZeroSoFar : ℕ → ℕ → ℕ → List (List ℕ) → ℕ → Type 0
ZeroSoFar pitch height step blocks n = (length blocks ≡ n) × ((k : ℕ) → k < n → slice_index_or blocks k [] ≡ replicate (min step (height - k * step) * pitch) 0)

pub zero_block : (n : ℕ) → ◌++◌ {A = ℕ} (take n []) (replicate (n - 0) 0) ≡ replicate {A = ℕ} n 0
zero_block zero = refl
zero_block (suc n) = ap (λ k. replicate {A = ℕ} k 0) (sub-zero (suc n))

pub zero_more : (pitch height step : ℕ) (blocks : List (List ℕ)) (n : ℕ) → ZeroSoFar pitch height step blocks n → ZeroSoFar pitch height step (blocks ++ replicate (min step (height - n * step) * pitch) 0 ∷ []) (n + 1)
zero_more pitch height step blocks n done = (
  rw (length_push blocks (replicate (min step (height - n * step) * pitch) 0), done.0) refl,
  λ k low. get_push blocks _ k [] _ (λ h. done.1 k (omega (arith, done.0))) (λ q. rw (q, done.0) refl) (omega (arith, done.0)) (cases_lt k (length blocks)),
)

pub zero_all : (pitch height step : ℕ) (blocks : List (List ℕ)) (n : ℕ) → 0 < step → height ≤ n * step → ZeroSoFar pitch height step blocks n → (y : ℕ) → y < height
    → (y / step < length blocks) × ((y % step) * pitch + pitch ≤ length (slice_index_or blocks (y / step) [])) × (take pitch (drop ((y % step) * pitch) (slice_index_or blocks (y / step) [])) ≡ replicate pitch 0)
zero_all pitch height step blocks n pos enough done y low =
    let k : y / step < n = div_below y step n pos (omega arith) in
    let place = place_of y step height pos low in
    let rows = min step (height - (y / step) * step) in
    let fits : (y % step) * pitch + pitch ≤ rows * pitch = rows_apart (y % step) rows pitch (omega (arith, place)) in
    rw (done.1 (y / step) k, done.0, drop-replicate {X = ℕ} ((y % step) * pitch) (rows * pitch) 0)
    (k, rw (length-replicate {A = ℕ} (rows * pitch) 0) fits, take-replicate {X = ℕ} pitch (rows * pitch - (y % step) * pitch) 0 (omega arith))
