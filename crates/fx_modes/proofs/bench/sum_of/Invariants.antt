use Rattle.std.proofs.Common.{◌≡◌, ◌≤◌, ◌*◌, sum, take}
use Rattle.fx_modes.proofs.bench.sum_of.Given as goal

abbrev pub invariant-loop-byte : goal.invariant-loop-byte
invariant-loop-byte l = record {
  value : l.sum ≡ sum (take l.byte-index l.bytes);
  small : l.sum ≤ 255 * l.byte-index;
}
