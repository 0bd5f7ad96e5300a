use Rattle.std.proofs.Common.{◌≡◌}
use Rattle.fx_speed.proofs.effects.Task.inputs.Given as goal

abbrev pub invariant-loop-clip : goal.invariant-loop-clip
invariant-loop-clip l =
    record {
      depth : l.inputs.depth ≡ l.self.depth;
      components : l.inputs.components ≡ l.fn.shown;
    }
