-- The pixels of an image after a run of a row was written.
use Rattle.std.proofs.Common.{◌≡◌, ◌≢◌, ◌≤◌, ◌<◌, ◌⊎◌, inl, inr, ℕ, ◌+◌, ◌-◌, ◌*◌, ℤ, pos, ◌+ℤ◌, ◌≤ℤ◌, ◌<ℤ◌, Bool, true, false, List, length, refl, sym, ap, arith, ◌∙◌}
use Rattle.std.specs.Int.{int_gap}
use Rattle.std.proofs.lemmas.Int.{ints, by_lt_z}
use Rattle.std.proofs.Math.Nat.{mul-le-mul_right}
use Rattle.std.proofs.lemmas.List.{length-set}
use Rattle.fx_base.specs.Rect.{within}
use Rattle.fx_pixel.specs.declared.Pixel.{Pixel}
use Rattle.fx_image.specs.Rows.{row_of, written, HasRows}
use Rattle.fx_image.specs.Stored.{Stored, IsStored, SameFrame, pixel_size, pixel_in, shown}
use Rattle.fx_image.specs.Runs.{IsRun, place_of, bytes_of}
use Rattle.fx_image.specs.ImageLending.{with_row, Puts}
use Rattle.fx_image.proofs.RowsLaws.{row_length, row_same, row_other}
use Rattle.fx_image.proofs.PixelLaws.{pixel_inside, pixel_left, pixel_right}
use Rattle.fx_image.proofs.ImageLaws.{gap_is, gap_below, run_fits, row_there, IsPlace, place_from, place_to, run_here}

pub same_frame : (s : Stored) (x y : ℤ) (ws : List ℕ) → SameFrame s (with_row s x y ws)
same_frame s x y ws = record { rect = refl; depth = refl; components = refl; pitch = refl; height = refl; step = refl; blocks = length-set _ _ _ }

module _ (s : Stored) (x y : ℤ) (n : ℕ) (ws : List ℕ) (is : IsStored s) (has : HasRows s.raster) (run : IsRun s x y n) (long : length ws ≡ n * pixel_size s.depth s.components) where
  row_low : int_gap s.rect.y1 y < s.raster.height
  row_low = row_there s x y n is run

  ws_fit : place_of s x + length ws ≤ s.raster.pitch
  ws_fit = rw long (run_fits s x y n is run)

  whole_row : length (bytes_of s y) ≡ s.raster.pitch
  whole_row = row_length s.raster (int_gap s.rect.y1 y) has row_low

  new_row : row_of (with_row s x y ws).raster (int_gap s.rect.y1 y) ≡ written (bytes_of s y) (place_of s x) ws
  new_row = row_same s.raster (int_gap s.rect.y1 y) (place_of s x) ws (has.block_there (int_gap s.rect.y1 y) row_low) (has.row_there (int_gap s.rect.y1 y) row_low) ws_fit

  fits_row : int_gap s.rect.x1 x * pixel_size s.depth s.components + length ws ≤ length (bytes_of s y)
  fits_row = rw whole_row ws_fit

  in_image : (x' : ℤ) → x ≤ℤ x' → x' <ℤ (x +ℤ pos n) → within s.rect x' y ≡ true
  in_image x' from to = place_to s.rect x' y (omega (arith, ints, run.from_left)) (omega (arith, ints, run.to_right)) run.from_bottom run.to_top

  -- the pixels that were written
  pub written_inside : (x' : ℤ) → x ≤ℤ x' → x' <ℤ (x +ℤ pos n) → shown (with_row s x y ws) x' y ≡ pixel_in s.depth s.components ws (int_gap x x')
  written_inside x' from to =
      let left = gap_is s.rect.x1 x run.from_left in
      let there = gap_is s.rect.x1 x' (omega (arith, ints, run.from_left)) in
      let here = gap_is x x' from in
      let step : int_gap s.rect.x1 x' - int_gap s.rect.x1 x ≡ int_gap x x' = omega (arith, ints, left, there, here) in
      let before : int_gap s.rect.x1 x ≤ int_gap s.rect.x1 x' = omega (arith, ints, left, there) in
      let more : int_gap x x' + 1 ≤ n = omega (arith, ints, here) in
      let room : (int_gap s.rect.x1 x' - int_gap s.rect.x1 x) * pixel_size s.depth s.components + pixel_size s.depth s.components ≤ length ws =
      rw (step, long) (omega (arith, mul-le-mul_right (pixel_size s.depth s.components) more)) in
      rw (in_image x' from to, new_row) (pixel_inside s.depth s.components (bytes_of s y) ws (int_gap s.rect.x1 x) (int_gap s.rect.x1 x') fits_row before room ∙ ap (pixel_in s.depth s.components ws) step)

  -- the other pixels of that row
  beside_at : (x' : ℤ) → (x' <ℤ x) ⊎ ((x +ℤ pos n) ≤ℤ x') → IsPlace s.rect x' y → pixel_in s.depth s.components (written (bytes_of s y) (place_of s x) ws) (int_gap s.rect.x1 x') ≡ pixel_in s.depth s.components (bytes_of s y) (int_gap s.rect.x1 x')
  beside_at x' (inl before) place = pixel_left s.depth s.components (bytes_of s y) ws (int_gap s.rect.x1 x) (int_gap s.rect.x1 x') fits_row (gap_below s.rect.x1 x' x place.left before)
  beside_at x' (inr behind) place =
      let left = gap_is s.rect.x1 x run.from_left in
      let there = gap_is s.rect.x1 x' place.left in
      let more : int_gap s.rect.x1 x + n ≤ int_gap s.rect.x1 x' = omega (arith, ints, left, there) in
      pixel_right s.depth s.components (bytes_of s y) ws (int_gap s.rect.x1 x) (int_gap s.rect.x1 x') fits_row (rw long (omega (arith, mul-le-mul_right (pixel_size s.depth s.components) more)))

  beside_by : (x' : ℤ) → (x' <ℤ x) ⊎ ((x +ℤ pos n) ≤ℤ x') → (b : Bool) → within s.rect x' y ≡ b → shown (with_row s x y ws) x' y ≡ shown s x' y
  beside_by x' out false is_in = rw is_in refl
  beside_by x' out true is_in = rw (is_in, new_row) (beside_at x' out (place_from s.rect x' y is_in))

  pub written_beside : (x' : ℤ) → (x' <ℤ x) ⊎ ((x +ℤ pos n) ≤ℤ x') → shown (with_row s x y ws) x' y ≡ shown s x' y
  written_beside x' out = beside_by x' out (within s.rect x' y) refl

  other_by : (x' y' : ℤ) → y' ≢ y → (b : Bool) → within s.rect x' y' ≡ b → shown (with_row s x y ws) x' y' ≡ shown s x' y'
  other_by x' y' ne false is_in = rw is_in refl
  other_by x' y' ne true is_in =
      let place = place_from s.rect x' y' is_in in
      let here = gap_is s.rect.y1 y run.from_bottom in
      let there = gap_is s.rect.y1 y' place.bottom in
      let apart : int_gap s.rect.y1 y' ≢ int_gap s.rect.y1 y = λ same. ne (sym there ∙ ap (λ k. s.rect.y1 +ℤ pos k) same ∙ here) in
      rw is_in (ap (λ row. pixel_in s.depth s.components row (int_gap s.rect.x1 x'))
      (row_other s.raster (int_gap s.rect.y1 y) (place_of s x) ws (int_gap s.rect.y1 y') apart (has.block_there (int_gap s.rect.y1 y) row_low) (has.row_there (int_gap s.rect.y1 y) row_low) ws_fit))

  -- the pixels of other rows
  pub written_other : (x' y' : ℤ) → y' ≢ y → shown (with_row s x y ws) x' y' ≡ shown s x' y'
  written_other x' y' ne = other_by x' y' ne (within s.rect x' y') refl

-- two columns that differ
sides : (x' x : ℤ) → x' ≢ x → (x' <ℤ x) ⊎ ((x +ℤ pos 1) ≤ℤ x')
sides x' x apart = by_lt_z x' x (λ h. inl h) (λ h. inr (by_lt_z x x' (λ k. omega (arith, ints)) (λ k. absurd (apart (omega (arith, ints))))))

same_or_not : (y' y : ℤ) → (y' ≡ y) ⊎ (y' ≢ y)
same_or_not y' y = by_lt_z y' y (λ h. inr (λ e. absurd (omega (arith, ints)))) (λ h. by_lt_z y y' (λ k. inr (λ e. absurd (omega (arith, ints)))) (λ k. inl (omega (arith, ints))))

gap_none : (x : ℤ) → int_gap x x ≡ 0
gap_none x = omega (arith, ints, gap_is x x (omega (arith, ints)))

module _ (s : Stored) (x y : ℤ) (ws : List ℕ) (is : IsStored s) (has : HasRows s.raster) (run : IsRun s x y 1) (long : length ws ≡ 1 * pixel_size s.depth s.components) where
  apart_by : (x' y' : ℤ) → (x' <ℤ x) ⊎ ((x +ℤ pos 1) ≤ℤ x') → (y' ≡ y) ⊎ (y' ≢ y) → shown (with_row s x y ws) x' y' ≡ shown s x' y'
  apart_by x' y' out (inl same) = rw same (written_beside s x y 1 ws is has run long x' out)
  apart_by x' y' out (inr apart) = written_other s x y 1 ws is has run long x' y' apart

  beside_or_above : (x' y' : ℤ) → (x' ≢ x) ⊎ (y' ≢ y) → shown (with_row s x y ws) x' y' ≡ shown s x' y'
  beside_or_above x' y' (inl apart) = apart_by x' y' (sides x' x apart) (same_or_not y' y)
  beside_or_above x' y' (inr apart) = written_other s x y 1 ws is has run long x' y' apart

-- one pixel that was written
pub puts_one : (s : Stored) (x y : ℤ) (p : Pixel) (ws : List ℕ) → IsStored s → HasRows s.raster → within s.rect x y ≡ true → length ws ≡ 1 * pixel_size s.depth s.components → pixel_in s.depth s.components ws 0 ≡ p → Puts x y p s (with_row s x y ws)
puts_one s x y p ws is has inside long there =
    let run = run_here s x y inside in
    record {
      frame = same_frame s x y ws;
      there = written_inside s x y 1 ws is has run long x (omega (arith, ints)) (omega (arith, ints)) ∙ ap (pixel_in s.depth s.components ws) (gap_none x) ∙ there;
      others = beside_or_above s x y ws is has run long;
    }
