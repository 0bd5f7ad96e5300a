use Rattle.std.proofs.Common.{◌≡◌, ◌≤◌, ◌+◌, ◌-◌, max, map}
use Rattle.std.specs.List.{range_with_len}
use Rattle.fx_base.specs.Pattern.{name_of}
use Rattle.fx_modes.proofs.bench.names_of.Given as goal

abbrev pub invariant-loop-frame : goal.invariant-loop-frame
invariant-loop-frame l = record {
  from : l.first ≤ l.frame;
  up_to : l.frame ≤ max l.first (l.last + 1);
  until : l.frame-end ≡ l.last + 1;
  names : l.names.items ≡ map (name_of l.file) (range_with_len l.first (l.frame - l.first));
}
