-- What is kept in either directory.
use Rattle.std.proofs.Common.{◌≡◌, ℕ, List, ◌∷◌, ◌++◌, Contains, Bool, true, false, sym, ap, subst, ◌∙◌}
use Rattle.std.specs.Arc.{arc_value}
use Rattle.fx_core.specs.declared.flight.Flight.{Flight}
use Rattle.fx_core.specs.declared.flight.Ticket.{Ticket}
use Rattle.fx_core.specs.Flight.{Stands}
use Rattle.fx_scene.specs.declared.key.Key.{Key}
use Rattle.fx_tile.specs.declared.setup.Setup.{Setup}
use Rattle.fx_tile.specs.declared.share.Shared.{Shared}
use Rattle.fx_tile.specs.declared.share.TileSeat.{TileSeat}
use Rattle.fx_tile.specs.Kept.{Gains, HasRows, KeepsRows, KeepsSeat, Loses, seat_in}
use Rattle.fx_tile.specs.Setups.{IsGateSeat, IsSeat}
use Rattle.fx_tile.proofs.FlightLemmas.{left}

module _ {E : Type 0} where
  pub rows_more : {a b c : TileSeat E} → KeepsRows a b → KeepsRows b c → KeepsRows a c
  rows_more p q =
      record {
        row = q.row ∙ p.row;
        parts = q.parts ∙ p.parts;
        whole_row = q.whole_row ∙ p.whole_row;
        whole_parts = q.whole_parts ∙ p.whole_parts;
        gates = q.gates ∙ p.gates;
      }

  pub keeps_more : {a b c : TileSeat E} → KeepsSeat a b → KeepsSeat b c → KeepsSeat a c
  keeps_more p q =
      record { rows = rows_more p.rows q.rows; aloft = q.aloft ∙ p.aloft; whole_aloft = q.whole_aloft ∙ p.whole_aloft }

  -- a flight that joined and left
  pub gains_loses : (whole : Bool) (f : Flight Key) (a b c : TileSeat E) → Gains whole f a b → Loses whole f b c → KeepsSeat a c
  gains_loses true f a b c p q =
      record {
        rows = rows_more p.rows q.rows;
        aloft = q.other ∙ p.other;
        whole_aloft = left a.wholes.aloft b.wholes.aloft c.wholes.aloft (f.ticket.number, arc_value f.key) p.joined q.left;
      }
  gains_loses false f a b c p q =
      record {
        rows = rows_more p.rows q.rows;
        aloft = left a.directory.aloft b.directory.aloft c.directory.aloft (f.ticket.number, arc_value f.key) p.joined q.left;
        whole_aloft = q.other ∙ p.other;
      }

  -- a flight, whose ticket has its number still, leaves where all else was as before
  pub keeps_loses : (whole : Bool) (f : Flight Key) (t : Ticket) (a b c : TileSeat E) → t.number ≡ f.ticket.number → KeepsSeat a b
      → Loses whole (record f { ticket = t }) b c → Loses whole f a c
  keeps_loses true f t a b c n p q =
      record {
        rows = rows_more p.rows q.rows;
        other = q.other ∙ p.aloft;
        left = λ before after is. q.left before after (p.whole_aloft ∙ is ∙ ap (λ (k : ℕ). before ++ (k, arc_value f.key) ∷ after) (sym n));
      }
  keeps_loses false f t a b c n p q =
      record {
        rows = rows_more p.rows q.rows;
        other = q.other ∙ p.whole_aloft;
        left = λ before after is. q.left before after (p.aloft ∙ is ∙ ap (λ (k : ℕ). before ++ (k, arc_value f.key) ∷ after) (sym n));
      }

  -- and it stands still before
  pub stands_kept : (whole : Bool) (f : Flight Key) (t : Ticket) (a b : TileSeat E) → t.number ≡ f.ticket.number → KeepsSeat a b
      → Stands (seat_in whole a).aloft f → Stands (seat_in whole b).aloft (record f { ticket = t })
  stands_kept true f t a b n p h =
      subst (λ (k : ℕ). Contains b.wholes.aloft (k, arc_value f.key)) (sym n)
      (subst (λ (fs : List (ℕ × Key)). Stands fs f) (sym p.whole_aloft) h)
  stands_kept false f t a b n p h =
      subst (λ (k : ℕ). Contains b.directory.aloft (k, arc_value f.key)) (sym n)
      (subst (λ (fs : List (ℕ × Key)). Stands fs f) (sym p.aloft) h)

  pub has_rows : (shared : Shared E) (a b : TileSeat E) → KeepsRows a b → HasRows shared a → HasRows shared b
  has_rows shared a b p h = record { directory = p.row ∙ h.directory; wholes = p.whole_row ∙ h.wholes }

  pub seat_still : {c e : _} (setup : Setup E c e) (a b : TileSeat E) → KeepsRows a b → IsSeat setup a → IsSeat setup b
  seat_still setup a b p is =
      record { rows = has_rows setup.shared.now a b p is.rows; gates = subst (IsGateSeat setup) (sym p.gates) is.gates }
