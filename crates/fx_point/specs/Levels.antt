-- What the levels of posterise make of each byte.
use Rattle.std.specs.Prelude.{◌≡◌, ◌≤◌, ◌<◌, ℕ, ◌+◌, ◌/◌, ℤ, pos, List, slice_index}
use Rattle.fx_pixel.specs.declared.Depth.{Depth}
use Rattle.fx_pixel.specs.declared.Depth.TheVariants as depths
use Rattle.fx_pixel.specs.declared.Pixel.{Pixel}
use Rattle.fx_point.specs.Posterise.{posterised, posterised_pixel}

pub record HasLevels (levels : ℤ) (table : List ℕ) : Type 0 where
  pub each : (c : ℕ) → c < 256 → slice_index table c ≡ posterised 255 levels c

-- just above 2^24 over a number
abbrev pub reciprocal : ℕ → ℕ
reciprocal last = 16777216 / last + 1

-- the place of the last level, and what divides by it
pub record HasSteps (levels : ℤ) (last factor : ℕ) : Type 0 where
  pub count : levels ≡ pos (last + 1)
  pub some : 0 < last
  pub few : last ≤ 255
  pub inverse : factor ≡ reciprocal last

-- pixels of bytes are posterised, and others stay
abbrev pub of_depth : ℤ → Depth → Pixel → Pixel
of_depth n depths.Byte p = posterised_pixel n 255 p
of_depth n depths.Short p = p
