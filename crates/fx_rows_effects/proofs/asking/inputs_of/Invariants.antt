use Rattle.std.proofs.Common.{◌≡◌}
use Rattle.fx_rows_effects.proofs.asking.inputs_of.Given as goal

abbrev pub invariant-loop-frame : goal.invariant-loop-frame
invariant-loop-frame l =
    record {
      depth : l.inputs.depth ≡ l.depth;
      shown : l.inputs.components ≡ l.shown;
    }
