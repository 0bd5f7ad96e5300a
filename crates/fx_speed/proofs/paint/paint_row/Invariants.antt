use Rattle.std.proofs.Common.{◌≡◌}
use Rattle.fx_image.specs.Stored.{SameFrame}
use Rattle.fx_speed.proofs.paint.paint_row.Given as goal

abbrev pub invariant-loop-column : goal.invariant-loop-column
invariant-loop-column g l =
    record {
      frame : SameFrame l.initial.image l.image;
      hold : l.hold.gate ≡ l.initial.hold.gate;
    }
