use Rattle.std.proofs.Common.{◌≡◌, ◌≤◌, ◌<◌, ◌*◌, ℕ}
use Rattle.fx_pixel.specs.declared.Depth.TheVariants.{Byte}
use Rattle.fx_pixel.specs.declared.Components.TheVariants.{Rgba}
use Rattle.fx_image.specs.Stored.{pixel_in}
use Rattle.fx_effect.proofs.pairs.pair_eights.Given as goal

abbrev pub invariant-loop-block : goal.invariant-loop-block
invariant-loop-block g l =
    record {
      done : (k : ℕ) → k < 8 * l.block → pixel_in Byte Rgba l.row k ≡ g.K.PairKernel.of l.kernel Byte (pixel_in Byte Rgba l.initial.row k) (pixel_in Byte Rgba l.other k);
      left : (k : ℕ) → 8 * l.block ≤ k → pixel_in Byte Rgba l.row k ≡ pixel_in Byte Rgba l.initial.row k;
    }
