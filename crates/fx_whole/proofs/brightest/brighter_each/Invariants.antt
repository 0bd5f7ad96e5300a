use Rattle.std.proofs.Common.{◌≡◌, ◌≤◌, max}
use Rattle.fx_whole.specs.Level.{row_level}
use Rattle.fx_whole.proofs.brightest.brighter_each.Given as goal

abbrev pub invariant-loop-i : goal.invariant-loop-i
invariant-loop-i l =
    record {
      up_to : l.i ≤ l.count;
      most : l.most ≡ max l.level (row_level l.depth l.components l.row l.i);
    }
