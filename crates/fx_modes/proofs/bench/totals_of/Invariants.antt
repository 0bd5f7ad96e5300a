use Rattle.std.proofs.Common.{◌≡◌, ◌≤◌, ◌*◌, length, sum, take}
use Rattle.std.specs.List.{flat_map}
use Rattle.fx_outside.specs.Sure.{sure_depot_files}
use Rattle.fx_modes.specs.Steps.{bytes_under}
use Rattle.fx_modes.proofs.bench.totals_of.Given as goal

abbrev pub invariant-loop-name : goal.invariant-loop-name
invariant-loop-name l = record {
  size : l.totals.size ≡ length (flat_map (bytes_under (sure_depot_files l.depot)) (take l.name-index l.names));
  sum : l.totals.sum ≡ sum (flat_map (bytes_under (sure_depot_files l.depot)) (take l.name-index l.names));
  short : l.totals.size ≤ 1073741824 * l.name-index;
  small : l.totals.sum ≤ 255 * l.totals.size;
}
