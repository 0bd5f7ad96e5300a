-- Runs of pixels in a row of an image.
use Rattle.std.specs.Prelude.{◌≡◌, ℤ, ℕ, pos, ◌+ℤ◌, ◌+◌, ◌*◌, ◌≤ℤ◌, ◌<ℤ◌, List, take, drop}
use Rattle.std.specs.Int.{int_gap}
use Rattle.fx_image.specs.Rows.{row_of}
use Rattle.fx_base.specs.Bounds.{Bounds}
use Rattle.fx_base.specs.Rect.{Holds, columns}
use Rattle.fx_image.specs.Stored.{Stored, pixel_size, pixel_in, shown}

-- row y of the image has n pixels from column x on
pub record IsRun (s : Stored) (x y : ℤ) (n : ℕ) : Type 0 where
  pub from_bottom : s.rect.y1 ≤ℤ y
  pub to_top : y <ℤ s.rect.y2
  pub from_left : s.rect.x1 ≤ℤ x
  pub to_right : (x +ℤ pos n) ≤ℤ s.rect.x2

-- where the pixel at column x begins in its row
abbrev pub place_of : Stored → ℤ → ℕ
place_of s x = int_gap s.rect.x1 x * pixel_size s.depth s.components

-- the bytes of row y
abbrev pub bytes_of : Stored → ℤ → List ℕ
bytes_of s y = row_of s.raster (int_gap s.rect.y1 y)

-- the bytes of those pixels
abbrev pub run_of : Stored → ℤ → ℤ → ℕ → List ℕ
run_of s x y n = take (n * pixel_size s.depth s.components) (drop (place_of s x) (bytes_of s y))

-- how many bytes a row of a rectangle has
abbrev pub row_size : Stored → Bounds → ℕ
row_size s rect = columns rect * pixel_size s.depth s.components

-- the bytes show the image's pixels in row y of the rectangle
abbrev pub ShowsPixels : Stored → Bounds → ℤ → List ℕ → Type 0
ShowsPixels s rect y bytes =
    (x : ℤ) → Holds rect x y → pixel_in s.depth s.components bytes (int_gap rect.x1 x) ≡ shown s x y

-- the bytes show the image's pixels row by row from the bottom, each row from the left
abbrev pub ShowsRows : Stored → List ℕ → Type 0
ShowsRows s bytes =
    (x y : ℤ) → Holds s.rect x y
    → shown s x y ≡ pixel_in s.depth s.components bytes (int_gap s.rect.y1 y * columns s.rect + int_gap s.rect.x1 x)
