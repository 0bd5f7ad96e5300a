use Rattle.std.proofs.Common.{◌≡◌, ◌++◌, negsuc, ◌≤ℤ◌}
use Rattle.fx_base.specs.Grid.{tiles_in_rows, tiles_of}
use Rattle.fx_base.proofs.grid.Grid.tiles_of.Given as goal

abbrev pub invariant-loop-j : goal.invariant-loop-j
invariant-loop-j l = record {
  low : negsuc 1073741823 ≤ℤ l.j;
  ahead : l.tiles.items ++ tiles_in_rows l.fn.self l.fn.r l.j l.top ≡ tiles_of l.fn.self l.fn.r;
}
