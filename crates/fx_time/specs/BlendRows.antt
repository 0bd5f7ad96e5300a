-- Samples of one row at several frames.
use Rattle.std.specs.Prelude.{ℕ, ◌+◌, ◌*◌, ◌/◌, ◌%◌, ℤ, pos, ◌+ℤ◌, map}
use Rattle.fx_base.specs.Bounds.{Bounds}
use Rattle.fx_pixel.specs.declared.Components.{Components}
use Rattle.fx_pixel.specs.declared.Pixel.{Pixel}
use Rattle.fx_pixel.specs.Pixel.{count}
use Rattle.fx_effect.specs.Given.{Given, input_pixel, row_pixel}
use Rattle.fx_effect.specs.Local.{own_taps}
use Rattle.fx_kernel.specs.Samples.{nth, mean_of}
use Rattle.fx_time.specs.Frameblend.{blend_reads}

-- sample s of row y at a frame
abbrev pub moment_sample : Given → Components → Bounds → ℤ → ℕ → ℤ → ℕ
moment_sample given c rect y s f = nth (row_pixel given 0 f (rect.x1 +ℤ pos (s / count c)) y) (s % count c)

-- the pixel of frameblend at a place
abbrev pub blend_pixel : Given → ℤ → ℕ → Components → ℤ → ℤ → Pixel
blend_pixel given t r c x y = mean_of c (2 * r + 1) (map (input_pixel given) (own_taps (blend_reads t r) x y))
