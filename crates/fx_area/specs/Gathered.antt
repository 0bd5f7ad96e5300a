-- Samples of an area that are picked in place, along one stride and then along another.
use Rattle.std.specs.Prelude.{◌≡◌, ◌≤◌, ◌<◌, ℕ, ◌+◌, ◌-◌, ◌*◌, ℤ, pos, ◌+ℤ◌, ◌<ℤ◌, List, length, map}
use Rattle.std.specs.Int.{int_gap}
use Rattle.fx_base.specs.Bounds.{Bounds}
use Rattle.fx_base.specs.Rect.{columns, rows, IsUpTo}
use Rattle.fx_pixel.specs.declared.Depth.{Depth}
use Rattle.fx_pixel.specs.declared.Components.{Components}
use Rattle.fx_pixel.specs.declared.Pixel.{Pixel}
use Rattle.fx_pixel.specs.Pixel.{count, greatest}
use Rattle.fx_image.specs.Stored.{sample_in, pixel_in}
use Rattle.fx_effect.specs.Given.{Given, input_pixel, row_pixel}
use Rattle.fx_effect.specs.declared.values.Values.{Values}
use Rattle.fx_area.specs.declared.extreme.Extreme.{Extreme}
use Rattle.fx_area.specs.Extreme.{extreme_of, Leads}
use Rattle.fx_area.specs.Erode.{square_taps}

-- v is the least, or the greatest, of the first n terms: what leads it leads each of them, and what leads each of
-- them leads it
pub record IsExtreme (e : Extreme) (f : ℕ → ℕ) (n v : ℕ) : Type 0 where
  pub leads : (b i : ℕ) → i < n → Leads e b v → Leads e b (f i)
  pub led : (b : ℕ) → ((i : ℕ) → i < n → Leads e b (f i)) → Leads e b v

-- each sample that has so many behind it at the stride, of `count` samples in all, is the extreme of those of `old`
abbrev pub AreGathered : Extreme → Depth → ℕ → ℕ → ℕ → List ℕ → List ℕ → Type 0
AreGathered e depth count stride n old new =
    (s : ℕ) → s + stride * (n - 1) < count
    → IsExtreme e (λ i. sample_in depth old (s + stride * i)) n (sample_in depth new s)

-- samples of h rows of w pixels are picked along columns, and then along rows
pub record ArePicked (e : Extreme) (depth : Depth) (c : Components) (w h r : ℕ) (old new : List ℕ) : Type 0 where
  pub middle : List ℕ
  pub along_columns : AreGathered e depth (h * w * count c) (w * count c) (2 * r + 1) old middle
  pub along_rows : AreGathered e depth (h * w * count c) (count c) (2 * r + 1) middle new

-- an area that isn't empty, with coordinates that aren't too great
pub record IsProperArea (area : Bounds) : Type 0 where
  pub wide : area.x1 <ℤ area.x2
  pub high : area.y1 <ℤ area.y2
  pub near : IsUpTo 1073741888 area

-- the bytes show the pixels of Source in the first n rows of the area, row after row
abbrev pub ShowsArea : Given → ℤ → Depth → Components → Bounds → ℕ → List ℕ → Type 0
ShowsArea given frame depth c area n bytes =
    (i j : ℕ) → i < columns area → j < n
    → pixel_in depth c bytes (j * columns area + i)
    ≡ row_pixel given 0 frame (area.x1 +ℤ pos i) (area.y1 +ℤ pos j)

-- rows of `width` pixels, of which those of a rectangle begin the first
pub record IsCopied (rect : Bounds) (left bottom : ℤ) (width size : ℕ) (bytes : List ℕ) : Type 0 where
  pub left_is : rect.x1 ≡ left
  pub bottom_is : rect.y1 ≡ bottom
  pub wide : columns rect ≤ width
  pub long : rows rect * width * size ≤ length bytes

-- the pixel there
abbrev pub area_pixel : ℤ → ℤ → ℕ → Depth → Components → List ℕ → ℤ → ℤ → Pixel
area_pixel left bottom width depth c bytes x y =
    pixel_in depth c bytes (int_gap bottom y * width + int_gap left x)

-- the pixel of either effect
abbrev pub extreme_pixel : Extreme → Values → Given → Depth → Components → ℤ → ℤ → Pixel
extreme_pixel e v given depth c x y =
    extreme_of e c (greatest depth) (map (input_pixel given) (square_taps v x y))
