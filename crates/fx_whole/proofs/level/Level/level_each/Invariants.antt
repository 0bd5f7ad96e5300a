use Rattle.std.proofs.Common.{◌≡◌, ◌<◌, ℕ, pos, ◌+ℤ◌, if◌then◌else◌}
use Rattle.fx_base.specs.Rect.{columns, within}
use Rattle.fx_pixel.specs.Pixel.{greatest, zero}
use Rattle.fx_image.specs.Stored.{pixel_in}
use Rattle.fx_whole.specs.Autogain.{levelled}
use Rattle.fx_whole.proofs.level.Level.level_each.Given as goal

abbrev pub invariant-loop-i : goal.invariant-loop-i
invariant-loop-i l =
    record {
      until : l.i-end ≡ columns l.fn.rect;
      left_is : l.left ≡ l.fn.rect.x1;
      done : (k : ℕ) → k < l.i → pixel_in l.depth l.components l.row k ≡ (if within l.keep (l.fn.rect.x1 +ℤ pos k) l.y
          then levelled (greatest l.depth) l.self.level (pixel_in l.depth l.components l.line k) else zero l.components);
    }
