use Rattle.std.proofs.Common.{◌≡◌, ◌≤◌, ◌<◌, ◌⊎◌, ℕ, ℤ, false, length, get_or}
use Rattle.fx_effect.specs.Tap.{tap}
use Rattle.fx_effect.specs.Given.{holds_tap}
use Rattle.fx_effect.specs.Placed.{given_piece}
use Rattle.fx_effect.specs.declared.piece.Placed.{Placed}
use Rattle.fx_effect.specs.declared.bands.Band.{Band}
use Rattle.fx_effect.proofs.bands.pieces_in_row.Given as goal

abbrev pub invariant-loop-band : goal.invariant-loop-band
invariant-loop-band l =
    record {
      room : l.to ≤ length l.pieces;
      apart : (x : ℤ) (k : ℕ) → k < l.band-index → (b : Band) (j : ℕ) (d : Placed) → (get_or l.bands k b).from ≤ j → j < (get_or l.bands k b).to → (j < l.from) ⊎ (l.to ≤ j)
          → holds_tap (given_piece (get_or l.pieces j d)) (tap l.clip l.frame x l.y) ≡ false;
    }
