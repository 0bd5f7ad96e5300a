use Rattle.std.proofs.Common.{◌≡◌, ◌*◌}
use Rattle.fx_bench.specs.Generator.{state}
use Rattle.fx_bench.specs.Frames.{frame_samples, AreFrames}
use Rattle.fx_bench.proofs.frames.frames.Given as goal

abbrev pub invariant-loop-k : goal.invariant-loop-k
invariant-loop-k l = record {
  state_is : l.draws.state ≡ state l.initial.draws.state (l.k * frame_samples);
  files_are : AreFrames l.initial.draws.state l.k l.files.items;
}
