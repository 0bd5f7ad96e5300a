-- The rows of a render of boxblur.
use Rattle.std.specs.Prelude.{◌≡◌, ◌≤◌, ◌⊎◌, ℕ, ◌+◌, ◌*◌, ℤ, pos, ◌-ℤ◌, ◌≤ℤ◌, ◌<ℤ◌, List, length, map}
use Rattle.fx_base.specs.Bounds.{Bounds}
use Rattle.fx_base.specs.Rect.{columns, IsNear, IsStep}
use Rattle.fx_pixel.specs.declared.Depth.{Depth}
use Rattle.fx_pixel.specs.declared.Components.{Components}
use Rattle.fx_pixel.specs.declared.Pixel.{Pixel}
use Rattle.fx_pixel.specs.Pixel.{greatest, count}
use Rattle.fx_image.specs.Stored.{pixel_size}
use Rattle.fx_kernel.specs.Samples.{mean_of}
use Rattle.fx_kernel.specs.Around.{square}
use Rattle.fx_kernel.specs.Sums.{AreSums}
use Rattle.fx_effect.specs.Tap.{tap}
use Rattle.fx_effect.specs.Given.{Given, ShowsClip, input_pixel}
use Rattle.fx_area.specs.declared.lines.Line.{Line}
use Rattle.fx_area.specs.Rows.{row_sample}
use Rattle.fx_area.specs.Boxblur.{box_count}

-- how many pixels of a row are summed
abbrev pub line_width : ℕ → Bounds → ℕ
line_width h rect = columns rect + 2 * h

-- the pixel at a place
abbrev pub box_pixel : Given → ℤ → ℕ → ℕ → Components → ℤ → ℤ → Pixel
box_pixel given frame h v c x y = mean_of c (box_count h v) (map (input_pixel given) (square (tap 0 frame) h v x y))

-- sample s of the summed pixels of row j
abbrev pub box_sample : Given → ℤ → ℕ → Components → Bounds → ℕ → ℤ → ℕ
box_sample given frame h c rect s j = row_sample given frame c (rect.x1 -ℤ pos h) j s

-- the cells have the sums of the rows that row y is made of
abbrev pub AreColumns : Given → ℤ → ℕ → ℕ → Depth → Components → Bounds → ℤ → List ℕ → Type 0
AreColumns given frame h v depth c rect y cells =
    AreSums cells (box_sample given frame h c rect) (y -ℤ pos v) (2 * v + 1) (greatest depth)

-- before row y: the first one, or those of the row before it
abbrev pub IsReady : Given → ℤ → ℕ → ℕ → Depth → Components → Bounds → ℤ → List ℕ → Type 0
IsReady given frame h v depth c rect y cells =
    (y ≡ rect.y1) ⊎ AreColumns given frame h v depth c rect (y -ℤ pos 1) cells

-- row j is read for a row of the rectangle
pub record IsBoxLine (given : Given) (h : ℕ) (depth : Depth) (c : Components) (rect : Bounds) (j : ℤ)
    (cells bytes : List ℕ) : Type 0 where
  pub source : ShowsClip given 0 depth c
  pub narrow : h ≤ 64
  pub near : IsNear rect
  pub wide : rect.x1 <ℤ rect.x2
  pub row : IsStep 2147483648 j
  pub cell_for_each : length cells ≡ line_width h rect * count c
  pub byte_for_each : length bytes ≡ line_width h rect * pixel_size depth c

-- row y of the rectangle is made
pub record IsBoxRow (given : Given) (h v : ℕ) (depth : Depth) (c : Components) (rect : Bounds) (y : ℤ)
    (cells bytes : List ℕ) : Type 0 where
  pub source : ShowsClip given 0 depth c
  pub narrow : h ≤ 64
  pub flat : v ≤ 64
  pub near : IsNear rect
  pub wide : rect.x1 <ℤ rect.x2
  pub above : rect.y1 ≤ℤ y
  pub below : y <ℤ rect.y2
  pub cell_for_each : length cells ≡ line_width h rect * count c
  pub byte_for_each : length bytes ≡ line_width h rect * pixel_size depth c

-- the pixels of row j that are summed
abbrev pub box_line : ℤ → ℕ → Bounds → ℤ → Line
box_line frame h rect j = record { frame = frame; x = rect.x1 -ℤ pos h; y = j; count = line_width h rect }
