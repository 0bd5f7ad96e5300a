use Rattle.std.proofs.Common.{◌≡◌}
use Rattle.fx_base.specs.Rect.{columns, rows}
use Rattle.fx_area.specs.Gathered.{ShowsArea}
use Rattle.fx_area.proofs.extreme.fill_area.Given as goal

abbrev pub invariant-loop-j : goal.invariant-loop-j
invariant-loop-j l =
    record {
      until : l.j-end ≡ rows l.fn.area;
      wide_is : l.width ≡ columns l.fn.area;
      shows : ShowsArea l.inputs l.fn.frame l.depth l.components l.fn.area l.j l.bytes;
    }
