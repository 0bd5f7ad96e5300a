use Rattle.std.proofs.Common.{◌≡◌, ◌<◌, ◌/◌, ℕ, length}
use Rattle.fx_image.specs.Stored.{pixel_size, pixel_in}
use Rattle.fx_effect.proofs.points.each_of.Given as goal

abbrev pub invariant-loop-i : goal.invariant-loop-i
invariant-loop-i g l =
    record {
      until : l.i-end ≡ length l.source / pixel_size l.depth l.components;
      done : (k : ℕ) → k < l.i → pixel_in l.depth l.components l.row k ≡ g.K.PointKernel.of l.kernel l.depth (pixel_in l.depth l.components l.source k);
    }
