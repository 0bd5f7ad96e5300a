use Rattle.std.proofs.Common.{◌≡◌, ◌≤◌, ◌<◌, ◌⊎◌, ℕ, ℤ, false, get_or}
use Rattle.fx_base.specs.Rect.{Holds}
use Rattle.fx_effect.specs.Tap.{tap}
use Rattle.fx_effect.specs.Given.{holds_tap}
use Rattle.fx_effect.specs.Placed.{given_piece}
use Rattle.fx_effect.specs.declared.piece.Placed.{Placed}
use Rattle.fx_effect.proofs.inputs.near_row.Given as goal

abbrev pub invariant-loop-i : goal.invariant-loop-i
invariant-loop-i l =
    record {
      order : l.from ≤ l.to;
      up_to : l.to ≤ l.i;
      none : l.to ≡ 0 → l.from ≡ 0;
      apart : (x : ℤ) → Holds l.rect x l.y → (j : ℕ) (d : Placed) → j < l.i → (j < l.from) ⊎ (l.to ≤ j)
          → holds_tap (given_piece (get_or l.pieces j d)) (tap l.clip l.frame x l.y) ≡ false;
    }
