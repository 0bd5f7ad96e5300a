-- Windows that were rendered.
use Rattle.std.specs.Prelude.{List, map, All}
use Rattle.fx_base.specs.Bounds.{Bounds}
use Rattle.fx_pixel.specs.declared.Depth.{Depth}
use Rattle.fx_pixel.specs.declared.Components.{Components}
use Rattle.fx_image.specs.Stored.{Stored}
use Rattle.fx_effect.specs.Given.{Given}
use Rattle.fx_effect.specs.Meaning.{Meaning}
use Rattle.fx_effect.specs.declared.values.Values.{Values}
use Rattle.fx_scene.specs.Windows.{IsWindowOf}
use Rattle.fx_eval.specs.Cuts.{Cover, IsCut}
use Rattle.fx_eval.specs.Wholes.{rect_of}

-- windows that together are a region, in pieces
pub record AreWindows (m : Meaning) (v : Values) (given : Given) (depth : Depth) (c : Components) (region : Bounds)
    (images : List Stored) : Type 0 where
  pub each : All (λ image. IsWindowOf m v given depth c image.rect image) images
  pub small : All IsCut (map rect_of images)
  pub cover : Cover (map rect_of images) region
