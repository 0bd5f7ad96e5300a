-- Windows of effects' nodes, by what they read.
use Rattle.std.specs.Prelude.{◌≡◌, ℤ}
use Rattle.fx_base.specs.Bounds.{Bounds}
use Rattle.fx_base.specs.Rect.{Holds}
use Rattle.fx_pixel.specs.declared.Depth.{Depth}
use Rattle.fx_pixel.specs.declared.Components.{Components}
use Rattle.fx_image.specs.Stored.{Stored, shown}
use Rattle.fx_effect.specs.Given.{Given}
use Rattle.fx_effect.specs.Meaning.{Meaning, rendered}
use Rattle.fx_effect.specs.declared.values.Values.{Values}

-- the window of an effect's node, by what it reads
pub record IsWindowOf (m : Meaning) (v : Values) (given : Given) (depth : Depth) (c : Components) (region : Bounds)
    (image : Stored) : Type 0 where
  pub rect : image.rect ≡ region
  pub depth_is : image.depth ≡ depth
  pub components_are : image.components ≡ c
  pub pixels : (x y : ℤ) → Holds region x y → shown image x y ≡ rendered m v given depth c x y
