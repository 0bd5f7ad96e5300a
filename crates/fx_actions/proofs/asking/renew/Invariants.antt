use Rattle.std.proofs.Common.{◌≡◌, ◌≢◌, ℕ, List, length, take}
use Rattle.fx_props.specs.Set.{property}
use Rattle.fx_actions.specs.Asking.{HasNumbers}
use Rattle.fx_actions.proofs.asking.renew.Given as goal

abbrev pub invariant-loop-i : goal.invariant-loop-i
invariant-loop-i l =
    record {
      long : length l.held ≡ length l.wanted;
      held : HasNumbers l.set l.name l.kind l.held;
      rest : (other : List ℕ) → other ≢ l.name → property l.set other ≡ property l.fn.set other;
      done : take l.i l.held ≡ take l.i l.wanted;
    }
