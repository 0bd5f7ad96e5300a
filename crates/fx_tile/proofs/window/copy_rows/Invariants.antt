use Rattle.std.proofs.Common.{◌≡◌, ◌≤ℤ◌}
use Rattle.fx_image.specs.Part.{SamePart, WroteRows, narrowed}
use Rattle.fx_effect.specs.Given.{row_pixel}
use Rattle.fx_tile.proofs.window.copy_rows.Given as goal

abbrev pub invariant-loop-y : goal.invariant-loop-y
invariant-loop-y l =
    record {
      until : l.y-end ≡ l.tile.y2;
      above : l.tile.y1 ≤ℤ l.y;
      up_to : l.y ≤ℤ l.y-end;
      same : SamePart l.fn.out l.out;
      written : WroteRows (narrowed l.fn.out l.tile) l.out.image.now l.y (row_pixel l.inputs 0 l.frame);
    }
