use Rattle.std.proofs.Common.{◌≡◌}
use Rattle.fx_speed.proofs.rows.Strips.show_row.Given as goal

abbrev pub invariant-loop-column : goal.invariant-loop-column
invariant-loop-column l =
    record {
      depth : l.inputs.depth ≡ l.fn.inputs.depth;
      components : l.inputs.components ≡ l.fn.inputs.components;
    }
