use Rattle.std.proofs.Common.{◌≡◌, ◌<◌, ◌≤◌, ℕ, pos, ◌+ℤ◌, if◌then◌else◌}
use Rattle.fx_base.specs.Rect.{columns, within}
use Rattle.fx_pixel.specs.Pixel.{zero}
use Rattle.fx_image.specs.Stored.{pixel_in}
use Rattle.fx_move.proofs.crop.clear_outside.Given as goal

abbrev pub invariant-loop-i : goal.invariant-loop-i
invariant-loop-i l =
    record {
      until : l.i-end ≡ columns l.fn.rect;
      left_is : l.left ≡ l.fn.rect.x1;
      done : (k : ℕ) → k < l.i → pixel_in l.depth l.components l.row k ≡ (if within l.keep (l.fn.rect.x1 +ℤ pos k) l.y then pixel_in l.depth l.components l.initial.row k else zero l.components);
      rest : (k : ℕ) → l.i ≤ k → pixel_in l.depth l.components l.row k ≡ pixel_in l.depth l.components l.initial.row k;
    }
