-- Samples of the clip Source.
use Rattle.std.specs.Prelude.{ℕ, ◌/◌, ◌%◌, ℤ, pos, ◌+ℤ◌}
use Rattle.fx_pixel.specs.declared.Components.{Components}
use Rattle.fx_pixel.specs.Pixel.{count}
use Rattle.fx_kernel.specs.Samples.{nth}
use Rattle.fx_effect.specs.Given.{Given, row_pixel}

-- sample s, counted from column x of row y on, of Source at a frame
abbrev pub row_sample : Given → ℤ → Components → ℤ → ℤ → ℕ → ℕ
row_sample given frame c x y s = nth (row_pixel given 0 frame (x +ℤ pos (s / count c)) y) (s % count c)
