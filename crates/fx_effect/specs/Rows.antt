-- Rows of bytes that show pixels.
use Rattle.std.specs.Prelude.{◌≡◌, ◌≤◌, ◌<◌, ◌⊎◌, ℕ, ◌+◌, ◌*◌, ℤ, ◌≤ℤ◌, ◌<ℤ◌, List, length}
use Rattle.std.specs.Int.{int_gap}
use Rattle.fx_base.specs.Bounds.{Bounds, IsRect}
use Rattle.fx_base.specs.Rect.{Holds, columns, IsNear}
use Rattle.fx_pixel.specs.declared.Depth.{Depth}
use Rattle.fx_pixel.specs.declared.Components.{Components}
use Rattle.fx_pixel.specs.declared.Pixel.{Pixel}
use Rattle.fx_image.specs.Stored.{pixel_size, pixel_in}

-- the bytes are as many as row y of the rectangle has, which has such a row
pub record IsRow (depth : Depth) (c : Components) (rect : Bounds) (y : ℤ) (bytes : List ℕ) : Type 0 where
  pub bounds : IsRect rect
  pub near : IsNear rect
  pub above : rect.y1 ≤ℤ y
  pub below : y <ℤ rect.y2
  pub long : length bytes ≡ columns rect * pixel_size depth c

-- the bytes show these pixels in row y of the rectangle
abbrev pub ShowsRow : Depth → Components → Bounds → ℤ → (ℤ → ℤ → Pixel) → List ℕ → Type 0
ShowsRow depth c rect y f bytes =
    (x : ℤ) → Holds rect x y → pixel_in depth c bytes (int_gap rect.x1 x) ≡ f x y

-- the bytes are as many as a row of the rectangle has, which has the row y
pub record IsLine (depth : Depth) (c : Components) (rect : Bounds) (y : ℤ) (bytes : List ℕ) : Type 0 where
  pub wide : rect.x1 ≤ℤ rect.x2
  pub above : rect.y1 ≤ℤ y
  pub below : y <ℤ rect.y2
  pub long : length bytes ≡ columns rect * pixel_size depth c

-- each pixel of a row is made of the pixel at its place in another
abbrev pub MakesRow : Depth → Components → (Pixel → Pixel) → List ℕ → List ℕ → Type 0
MakesRow depth c of source row =
    let size = pixel_size depth c in
    (i : ℕ) → i * size + size ≤ length source → pixel_in depth c row i ≡ of (pixel_in depth c source i)

-- the pixels of a row but for `count` of them from `first` on are those of another
abbrev pub SameBeside : Depth → Components → ℕ → ℕ → List ℕ → List ℕ → Type 0
SameBeside depth c first count old new =
    (j : ℕ) → (j < first) ⊎ (first + count ≤ j) → pixel_in depth c new j ≡ pixel_in depth c old j

-- each pixel of a row is made of the pixels at its place in two others
abbrev pub MakesPairs : Depth → Components → (Pixel → Pixel → Pixel) → List ℕ → List ℕ → List ℕ → Type 0
MakesPairs depth c of one other row =
    let size = pixel_size depth c in
    (i : ℕ) → i * size + size ≤ length one
    → pixel_in depth c row i ≡ of (pixel_in depth c one i) (pixel_in depth c other i)
