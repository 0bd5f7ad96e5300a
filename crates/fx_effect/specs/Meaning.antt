-- What an effect means: its pixels one at a time, without windows or images, and its answers to the actions.
use Rattle.std.specs.Prelude.{ℕ, ℤ, List, map}
use Rattle.fx_base.specs.Bounds.{Bounds}
use Rattle.fx_pixel.specs.declared.Depth.{Depth}
use Rattle.fx_pixel.specs.declared.Components.{Components}
use Rattle.fx_pixel.specs.declared.Pixel.{Pixel}
use Rattle.fx_pixel.specs.Pixel.{greatest}
use Rattle.fx_effect.specs.Tap.{Tap}
use Rattle.fx_effect.specs.Given.{Given, input_pixel}
use Rattle.fx_effect.specs.Shape.{Shape}
use Rattle.fx_effect.specs.declared.action.Context.{Context}
use Rattle.fx_effect.specs.declared.action.Identity.{Identity}
use Rattle.fx_effect.specs.declared.values.Values.{Values}

pub record Meaning : Type 0 where
  -- what it describes itself as
  pub shape : Shape
  -- what the pixel at a column and a row reads
  pub taps : Values → ℤ → ℤ → List Tap
  -- and what it is, by the components, the greatest sample, the place, and the pixels that it reads
  pub mix : Values → Components → ℕ → ℤ → ℤ → List Pixel → Pixel
  -- the frames that it needs of each input clip: pairs of a first and a last one
  pub spans : Values → ℕ → List (ℤ × ℤ)
  -- its region of definition in a context, by those of its input clips
  pub rod : Context → Values → List Bounds → Bounds
  -- its region of interest on each input clip, by the region that is asked for
  pub roi : Values → Bounds → ℕ → Bounds
  -- over a window, the clip and the frame that it is the same as, or none
  pub same : Values → Bounds → Identity

-- the pixel of an effect, where its taps have these pixels
abbrev pub mixed : Meaning → Values → Depth → Components → (Tap → Pixel) → ℤ → ℤ → Pixel
mixed m v depth c value x y = m.mix v c (greatest depth) x y (map value (m.taps v x y))

-- the pixel of an effect, where its taps read these inputs
abbrev pub rendered : Meaning → Values → Given → Depth → Components → ℤ → ℤ → Pixel
rendered m v given depth c x y = mixed m v depth c (input_pixel given) x y
