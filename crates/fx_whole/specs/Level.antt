-- Brightness along rows of bytes.
use Rattle.std.specs.Prelude.{◌≡◌, ◌<◌, ℕ, zero, suc, max, List, slice_index}
use Rattle.fx_pixel.specs.declared.Depth.{Depth}
use Rattle.fx_pixel.specs.declared.Components.{Components}
use Rattle.fx_image.specs.Stored.{pixel_in}
use Rattle.fx_effect.specs.Given.{Given, input_pixel}
use Rattle.fx_effect.specs.declared.values.Values.{Values}
use Rattle.fx_whole.specs.Autogain.{brightness, scaled}
use Rattle.fx_whole.specs.AutogainLaws.{level_of}
use Rattle.fx_whole.specs.declared.level.Level.{Level}

-- of the brightest of the first n pixels of a row
abbrev pub row_level : Depth → Components → List ℕ → ℕ → ℕ
row_level depth c row zero = 0
row_level depth c row (suc n) = max (row_level depth c row n) (brightness (pixel_in depth c row n))

-- it divides by the level, and by 1 where that is 0, and its table has each sample of byte depth
pub record IsLevel (l : Level) : Type 0 where
  pub divides : l.mean ≡ max l.level 1
  pub bytes : (c : ℕ) → c < 256 → slice_index l.bytes c ≡ scaled 255 l.level c

-- it is that of the project's extent, as the inputs show it
pub record IsLevelOf (v : Values) (given : Given) (l : Level) : Type 0 where
  pub of_extent : l.level ≡ level_of v (input_pixel given)
  pub divides : IsLevel l
