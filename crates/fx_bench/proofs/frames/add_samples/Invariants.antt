use Rattle.std.proofs.Common.{◌≡◌, ◌++◌}
use Rattle.fx_bench.specs.Generator.{state}
use Rattle.fx_bench.specs.Frames.{samples}
use Rattle.fx_bench.proofs.frames.add_samples.Given as goal

abbrev pub invariant-loop : goal.invariant-loop
invariant-loop l = record {
  state_is : l.draws.state ≡ state l.initial.draws.state l.counter;
  bytes_are : l.bytes.items ≡ l.initial.bytes.items ++ samples l.initial.draws.state l.counter;
}
