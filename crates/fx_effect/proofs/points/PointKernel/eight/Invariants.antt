use Rattle.std.proofs.Common.{◌≡◌, ◌≤◌, ◌<◌, ℕ}
use Rattle.fx_pixel.specs.declared.Depth.TheVariants.{Byte}
use Rattle.fx_pixel.specs.declared.Components.TheVariants.{Rgba}
use Rattle.fx_image.specs.Stored.{pixel_in}
use Rattle.fx_effect.proofs.points.PointKernel.eight.Given as goal

abbrev pub invariant-loop-i : goal.invariant-loop-i
invariant-loop-i g l =
    record {
      done : (k : ℕ) → k < l.i → pixel_in Byte Rgba l.bytes k ≡ g.Self.PointKernel.of l.self Byte (pixel_in Byte Rgba l.initial.bytes k);
      left : (k : ℕ) → l.i ≤ k → pixel_in Byte Rgba l.bytes k ≡ pixel_in Byte Rgba l.initial.bytes k;
    }
