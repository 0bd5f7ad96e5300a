use Rattle.std.proofs.Common.{◌≡◌, map}
use Rattle.std.specs.List.{flat_map}
use Rattle.fx_base.specs.Rect.{rows}
use Rattle.fx_base.specs.Run.{int_run}
use Rattle.fx_effect.specs.Given.{input_pixel}
use Rattle.fx_whole.specs.Autogain.{brightest, row_taps}
use Rattle.fx_whole.proofs.brightest.level_of_rows.Given as goal

abbrev pub invariant-loop-j : goal.invariant-loop-j
invariant-loop-j l =
    record {
      until : l.j-end ≡ rows l.fn.project;
      low_is : l.bottom ≡ l.fn.project.y1;
      level : l.level ≡ brightest (map (input_pixel l.inputs) (flat_map (row_taps l.fn.project l.fn.frame) (int_run l.fn.project.y1 l.j)));
    }
