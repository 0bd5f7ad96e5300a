use Rattle.std.proofs.Common.{pos, inr, arith}
use Rattle.std.proofs.lemmas.Int.{ints}
use Rattle.fx_units.proofs.actions.same_over_window.Goals as goal

pub identity-requires-clause-window : goal.identity-requires-clause-window
identity-requires-clause-window g c =
    record {
      region = record { x1 = pos 2; y1 = pos 1; x2 = pos 5; y2 = pos 4 };
      window = record {
        bounds = inr (omega (arith, ints), omega (arith, ints));
        near = record { left = omega (arith, ints); right = omega (arith, ints); bottom = omega (arith, ints); top = omega (arith, ints) };
      };
      there = rw c.expect-args.ensures at c.window_args.ensures.window;
    }
