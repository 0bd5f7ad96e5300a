-- Images at a fraction of their size: each pixel is the mean of a square block of pixels.
use Rattle.std.specs.Prelude.{◌≡◌, ◌≤◌, ℕ, ◌+◌, ◌-◌, ◌*◌, ◌/◌, ◌^◌, ℤ, pos, ◌*ℤ◌, List, map}
use Rattle.std.specs.List.{flat_map}
use Rattle.fx_base.specs.Bounds.{Bounds}
use Rattle.fx_base.specs.Rect.{Holds, IsNear, columns, rows}
use Rattle.fx_base.specs.Run.{int_run}
use Rattle.fx_pixel.specs.declared.Pixel.{Pixel}
use Rattle.fx_image.specs.Image.{Image, pixel_at}
use Rattle.fx_image.specs.Runs.{row_size}
use Rattle.fx_image.specs.Stored.{SameFrame, Stored, shown}
use Rattle.fx_kernel.specs.Samples.{mean_of}

-- what is rendered at 1/q: a run asks for the whole, a half, a quarter or an eighth
abbrev pub IsScale : ℕ → Type 0
IsScale q = (1 ≤ q) × (q ≤ 8)

-- how many blocks of q it fills, the last perhaps in part
abbrev pub over : ℕ → ℕ → ℕ
over q n = (n + q - 1) / q

-- it starts at the origin, and has a pixel for each block of q by q places
abbrev pub reduced_rect : ℕ → Bounds → Bounds
reduced_rect q r =
    record { x1 = pos 0; y1 = pos 0; x2 = pos (over q (columns r)); y2 = pos (over q (rows r)) }

-- what stands at the places (q*x + i, q*y + j), i and j from 0 to q - 1
abbrev pub block : {X : Type 0} → (ℤ → ℤ → X) → ℕ → ℤ → ℤ → List X
block at q x y = flat_map (λ i. map (at i) (int_run (pos q *ℤ y) q)) (int_run (pos q *ℤ x) q)

-- each sample is the mean over its block, to the nearest and halves up; outside the image the pixels are zero
abbrev pub reduced_pixel : ℕ → Image → ℤ → ℤ → Pixel
reduced_pixel q image x y = mean_of image.components (q * q) (block (pixel_at image) q x y)

-- an image that starts at (0, 0), at 1/q of its size
abbrev pub reduced : ℕ → Image → Image
reduced q image =
    record {
      rect = reduced_rect q image.rect;
      depth = image.depth;
      components = image.components;
      pixel = reduced_pixel q image;
    }

-- it starts at (0, 0), and isn't empty
pub record IsWhole (r : Bounds) : Type 0 where
  pub left : r.x1 ≡ pos 0
  pub bottom : r.y1 ≡ pos 0
  pub wide : 1 ≤ columns r
  pub high : 1 ≤ rows r

-- as every image that is made: near the origin, and with at most 2^31 bytes of pixels
pub record IsMade (image : Stored) : Type 0 where
  pub near : IsNear image.rect
  pub few : rows image.rect * row_size image image.rect ≤ 2 ^ 31

-- each pixel of what the image has become is the mean of its block of another
pub record HasBlocks (q : ℕ) (image : Image) (old new : Stored) : Type 0 where
  pub frame : SameFrame old new
  pub pixels : (x y : ℤ) → Holds old.rect x y → shown new x y ≡ reduced_pixel q image x y
