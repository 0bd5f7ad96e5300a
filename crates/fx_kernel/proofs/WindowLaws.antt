-- Windows of cells that move by one.
use Rattle.std.proofs.Common.{◌≡◌, ◌≢◌, ◌≤◌, ◌<◌, ℕ, zero, suc, ◌+◌, ◌-◌, ◌*◌, inl, inr, List, length, slice_index, ap, arith, add-one}
use Rattle.std.proofs.Math.Nat.{mul-le-mul_left}
use Rattle.std.proofs.lemmas.Bool.{cases_lt}
use Rattle.std.proofs.lemmas.Nat.{same_from_place}
use Rattle.std.proofs.lemmas.List.{places}
use Rattle.fx_pixel.specs.declared.Depth.{Depth}
use Rattle.fx_pixel.specs.declared.Depth.TheVariants.{Byte, Short}
use Rattle.fx_pixel.specs.Pixel.{size}
use Rattle.fx_kernel.specs.Window.{AreSmall, window, strided}

next_place : (cells : List ℕ) (step s n : ℕ) → slice_index cells ((s + step) + step * n) ≡ slice_index cells (s + step * suc n)
next_place cells step s n = ap (slice_index cells) (omega arith)

-- it loses its first cell and gains the next
pub window_slides : (cells : List ℕ) (step s n : ℕ) → window (strided cells step (s + step)) n + slice_index cells s ≡ window (strided cells step s) n + slice_index cells (s + step * n)
window_slides cells step s zero = let e : slice_index cells (s + step * 0) ≡ slice_index cells s = ap (slice_index cells) (omega arith) in omega (arith, e)
window_slides cells step s (suc n) = omega (arith, window_slides cells step s n, next_place cells step s n)

small_cell : (cells : List ℕ) (s : ℕ) → AreSmall cells → slice_index cells s ≤ 4294967296
small_cell cells s small =
    elim (cases_lt s (length cells)) [
      | inl low ↦ omega (arith, small.small s low)
      | inr high ↦ let none : slice_index cells s ≡ 0 = grind (arith, places) in omega (arith, none)
    ]

pub window_small : (cells : List ℕ) (step s n : ℕ) → AreSmall cells → window (strided cells step s) n ≤ n * 4294967296
window_small cells step s zero small = omega arith
window_small cells step s (suc n) small = omega (arith, window_small cells step s n small, small_cell cells (s + step * n) small)

pub window_more : (f : ℕ → ℕ) (n : ℕ) → window f (n + 1) ≡ window f n + f n
window_more f n = ap (window f) (add-one n)

pub place_apart : (first step k i : ℕ) → 0 < step → k < i → first + step * k ≢ first + step * i
place_apart first step k i some low e = absurd (omega (arith, mul-le-mul_left step low))

-- a place of the row, and the last cell of its window
pub last_cell : (first step i count more n : ℕ) → first < step → i < count → (count + more) * step ≡ n → first + step * i + step * more < n
last_cell first step i count more n low there is = omega (arith, mul-le-mul_left step there)

-- one more mean
module _ (cells : List ℕ) (step s more sum : ℕ) (value : sum ≡ window (strided cells step s) more) where
  pub sum_more : sum + slice_index cells (s + step * more) ≡ window (strided cells step s) (more + 1)
  sum_more = rw (window_more (strided cells step s) more) (omega arith)

  pub sum_enough : slice_index cells s ≤ sum + slice_index cells (s + step * more)
  sum_enough = omega (arith, window_slides cells step s more)

  pub sum_next : (t : ℕ) → t ≡ s + step → (sum + slice_index cells (s + step * more)) - slice_index cells s ≡ window (strided cells step t) more
  sum_next t is = rw is (omega (arith, window_slides cells step s more))

  pub sum_fits : more ≤ 128 → AreSmall cells → sum + slice_index cells (s + step * more) < 18446744073709551616
  sum_fits few small = let most : more * 4294967296 ≤ 549755813888 = omega arith in omega (arith, window_small cells step s more small, small_cell cells (s + step * more) small, most)

-- a sample lies in its row
pub room_for : (d : Depth) (s n long : ℕ) → s < n → long ≡ n * size d → size d * s + size d ≤ long
room_for Byte s n long low is = omega arith
room_for Short s n long low is = omega arith

-- places of other samples of the pixels
pub other_sample : (step k first i j : ℕ) → k < first → first < step → k + step * i ≢ first + step * j
other_sample step k first i j low high e = let same = same_from_place i k j first step (omega arith) high (omega arith) in absurd (omega (arith, same.1))
