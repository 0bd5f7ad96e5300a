use Rattle.std.proofs.Common.{◌≡◌, ◌++◌, negsuc, ◌≤ℤ◌}
use Rattle.fx_base.specs.Grid.{tiles_between}
use Rattle.fx_base.proofs.grid.Grid.add_row.Given as goal

abbrev pub invariant-loop-i : goal.invariant-loop-i
invariant-loop-i l = record {
  low : negsuc 1073741823 ≤ℤ l.i;
  ahead : l.tiles.items ++ tiles_between l.fn.self l.fn.j l.i l.right ≡ l.fn.tiles.items ++ tiles_between l.fn.self l.fn.j l.fn.left l.right;
}
