use Rattle.std.proofs.Common.{◌≡◌}
use Rattle.fx_speed.proofs.effects.Task.show.Given as goal

abbrev pub invariant-loop-k : goal.invariant-loop-k
invariant-loop-k l =
    record {
      depth : l.inputs.depth ≡ l.initial.inputs.depth;
      components : l.inputs.components ≡ l.initial.inputs.components;
    }
