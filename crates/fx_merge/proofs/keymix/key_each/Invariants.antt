use Rattle.std.proofs.Common.{◌≡◌, ◌≤◌, ◌<◌, ◌/◌, ℕ, length}
use Rattle.fx_pixel.specs.Pixel.{greatest}
use Rattle.fx_pixel.specs.declared.Components.TheVariants.{Alpha}
use Rattle.fx_image.specs.Stored.{pixel_size, pixel_in}
use Rattle.fx_merge.specs.Keymix.{keyed}
use Rattle.fx_merge.proofs.keymix.key_each.Given as goal

abbrev pub invariant-loop-i : goal.invariant-loop-i
invariant-loop-i l =
    record {
      until : l.i-end ≡ length l.initial.row / pixel_size l.depth l.components;
      done : (k : ℕ) → k < l.i → pixel_in l.depth l.components l.row k ≡ keyed (greatest l.depth) (pixel_in l.depth l.components l.initial.row k) (pixel_in l.depth l.components l.other k) (pixel_in l.depth Alpha l.mask k);
      left : (k : ℕ) → l.i ≤ k → pixel_in l.depth l.components l.row k ≡ pixel_in l.depth l.components l.initial.row k;
    }
