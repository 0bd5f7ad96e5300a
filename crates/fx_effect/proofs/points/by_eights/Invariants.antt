use Rattle.std.proofs.Common.{◌≡◌, ◌<◌, ◌*◌, ℕ}
use Rattle.fx_pixel.specs.declared.Depth.TheVariants.{Byte}
use Rattle.fx_pixel.specs.declared.Components.TheVariants.{Rgba}
use Rattle.fx_image.specs.Stored.{pixel_in}
use Rattle.fx_effect.proofs.points.by_eights.Given as goal

abbrev pub invariant-loop-block : goal.invariant-loop-block
invariant-loop-block g l =
    (k : ℕ) → k < 8 * l.block → pixel_in Byte Rgba l.row k ≡ g.K.PointKernel.of l.kernel Byte (pixel_in Byte Rgba l.source k)
