-- The sums of a box.
use Rattle.std.proofs.Common.{◌≡◌, ◌≤◌, ◌<◌, ℕ, ◌+◌, ◌*◌, ◌/◌, ◌%◌, ℤ, pos, ◌+ℤ◌, ◌-ℤ◌, List, length, map, slice_index, refl, ap, sym, subst, arith, ◌∙◌}
use Rattle.std.specs.List.{sum_by}
use Rattle.std.proofs.lemmas.Int.{ints}
use Rattle.std.proofs.lemmas.Nat.{div-mul-add, mod-mul-add}
use Rattle.fx_base.specs.Bounds.{Bounds}
use Rattle.fx_base.specs.Rect.{columns}
use Rattle.fx_pixel.specs.declared.Components.{Components}
use Rattle.fx_pixel.specs.declared.Components.TheVariants as components
use Rattle.fx_pixel.specs.Pixel.{count}
use Rattle.fx_effect.specs.Tap.{tap}
use Rattle.fx_effect.specs.Given.{Given, input_pixel}
use Rattle.fx_kernel.specs.Samples.{nth, sum_of}
use Rattle.fx_kernel.specs.Around.{around, square}
use Rattle.fx_kernel.specs.AroundLaws.{sum_by-map, sum_by-same, sum_square}
use Rattle.fx_kernel.specs.Sums.{AreSums}
use Rattle.fx_kernel.specs.Window.{window, strided}
use Rattle.fx_kernel.specs.SumLaws.{more_sums, slid_sums, first_in_sum, window_is, window_bound, sums_bound}
use Rattle.fx_area.specs.BoxRows.{box_sample, line_width}

-- sample n of pixel i + t of a row
cell_low : (c : Components) (w h i n t : ℕ) → i < w → n < count c → t < 2 * h + 1 → n + count c * i + count c * t < (w + 2 * h) * count c
cell_low components.Rgba w h i n t low few less = omega arith
cell_low components.Alpha w h i n t low few less = omega arith

place_is : (w i n t : ℕ) → n + w * i + w * t ≡ (i + t) * w + n
place_is w i n t = omega arith

cell_column : (c : Components) (i n t : ℕ) → n < count c → (n + count c * i + count c * t) / count c ≡ i + t
cell_column c i n t few = ap (λ s. s / count c) (place_is (count c) i n t) ∙ div-mul-add (i + t) (count c) n few

cell_sample : (c : Components) (i n t : ℕ) → n < count c → (n + count c * i + count c * t) % count c ≡ n
cell_sample c i n t few = ap (λ s. s % count c) (place_is (count c) i n t) ∙ mod-mul-add (i + t) (count c) n few

column_at : (a : ℤ) (h i t : ℕ) → (a -ℤ pos h) +ℤ pos (i + t) ≡ ((a +ℤ pos i) -ℤ pos h) +ℤ pos t
column_at a h i t = omega (arith, ints)

module _ (given : Given) (frame : ℤ) (h v m : ℕ) (c : Components) (rect : Bounds) (y : ℤ) (cells : List ℕ) (sums : AreSums cells (box_sample given frame h c rect) (y -ℤ pos v) (2 * v + 1) m) (long : length cells ≡ line_width h rect * count c) where
  -- one term of a cell's sum
  term_is : (i n t : ℕ) → n < count c → (j : ℤ) → box_sample given frame h c rect (n + count c * i + count c * t) j ≡ nth (input_pixel given (tap 0 frame (((rect.x1 +ℤ pos i) -ℤ pos h) +ℤ pos t) j)) n
  term_is i n t few j = rw (cell_column c i n t few, cell_sample c i n t few, column_at rect.x1 h i t) refl

  cell_is : (i n t : ℕ) → i < columns rect → n < count c → t < 2 * h + 1 → slice_index cells (n + count c * i + count c * t) ≡ sum_by (λ j. nth (input_pixel given (tap 0 frame (((rect.x1 +ℤ pos i) -ℤ pos h) +ℤ pos t) j)) n) (around y v)
  cell_is i n t low few less =
      sums.sums (n + count c * i + count c * t) (rw long (cell_low c (columns rect) h i n t low few less))
      ∙ sum_by-same (box_sample given frame h c rect (n + count c * i + count c * t)) (λ j. nth (input_pixel given (tap 0 frame (((rect.x1 +ℤ pos i) -ℤ pos h) +ℤ pos t) j)) n) (around y v) (term_is i n t few)

  -- the sum of a window of cells is that of the square
  pub box_window : (i n : ℕ) → i < columns rect → n < count c → window (strided cells (count c) (n + count c * i)) (2 * h + 1) ≡ sum_of n (map (input_pixel given) (square (tap 0 frame) h v (rect.x1 +ℤ pos i) y))
  box_window i n low few =
      window_is (strided cells (count c) (n + count c * i)) (λ a. sum_by (λ j. nth (input_pixel given (tap 0 frame a j)) n) (around y v)) ((rect.x1 +ℤ pos i) -ℤ pos h) (2 * h + 1) (λ t less. cell_is i n t low few less)
      ∙ sym (sum_by-map (λ p. nth p n) (input_pixel given) (square (tap 0 frame) h v (rect.x1 +ℤ pos i) y) ∙ sum_square (λ t. nth (input_pixel given t) n) (tap 0 frame) h v (rect.x1 +ℤ pos i) y)

  pub box_bound : (i n : ℕ) → i < columns rect → n < count c → window (strided cells (count c) (n + count c * i)) (2 * h + 1) ≤ (2 * h + 1) * ((2 * v + 1) * m)
  box_bound i n low few =
      window_bound (strided cells (count c) (n + count c * i)) (2 * h + 1) ((2 * v + 1) * m)
      (λ t less. sums_bound cells (box_sample given frame h c rect) (y -ℤ pos v) (2 * v + 1) m sums (n + count c * i + count c * t) (rw long (cell_low c (columns rect) h i n t low few less)))

-- ---- the sums of the next row

module _ (given : Given) (frame : ℤ) (h v m : ℕ) (c : Components) (rect : Bounds) (y : ℤ) where
  abbrev term : ℕ → ℤ → ℕ
  term = box_sample given frame h c rect

  pub with_next : (cells new : List ℕ) (z : ℤ) → z ≡ y +ℤ pos v → length new ≡ length cells → AreSums cells term ((y -ℤ pos 1) -ℤ pos v) (2 * v + 1) m
      → ((s : ℕ) → s < length cells → slice_index new s ≡ slice_index cells s + term s z) → ((s : ℕ) → s < length cells → term s z ≤ m) → AreSums new term ((y -ℤ pos 1) -ℤ pos v) ((2 * v + 1) + 1) m
  with_next cells new z row long sums added few =
      more_sums cells new term ((y -ℤ pos 1) -ℤ pos v) z (2 * v + 1) m (omega (arith, ints, row)) long sums added few

  pub last_enough : (cells : List ℕ) (z : ℤ) → z ≡ (y -ℤ pos 1) -ℤ pos v → AreSums cells term ((y -ℤ pos 1) -ℤ pos v) ((2 * v + 1) + 1) m → (s : ℕ) → s < length cells → term s z ≤ slice_index cells s
  last_enough cells z row sums s low =
      rw row (first_in_sum (term s) ((y -ℤ pos 1) -ℤ pos v) (2 * v + 1) (slice_index cells s) (sums.sums s low))

  pub without_last : (cells new : List ℕ) (z : ℤ) → z ≡ (y -ℤ pos 1) -ℤ pos v → length new ≡ length cells → AreSums cells term ((y -ℤ pos 1) -ℤ pos v) ((2 * v + 1) + 1) m
      → ((s : ℕ) → s < length cells → slice_index new s + term s z ≡ slice_index cells s) → AreSums new term (y -ℤ pos v) (2 * v + 1) m
  without_last cells new z row long sums taken =
      let up : ((y -ℤ pos 1) -ℤ pos v) +ℤ pos 1 ≡ y -ℤ pos v = omega (arith, ints) in
      subst (λ a. AreSums new term a (2 * v + 1) m) up
      (slid_sums cells new term ((y -ℤ pos 1) -ℤ pos v) (2 * v + 1) m long sums
      (λ s low. ap (λ w. slice_index new s + term s w) (sym row) ∙ taken s low))

pub box_product : (h v m w : ℕ) → w ≤ (2 * h + 1) * ((2 * v + 1) * m) → w ≤ ((2 * h + 1) * (2 * v + 1)) * m
box_product h v m w few = omega arith
