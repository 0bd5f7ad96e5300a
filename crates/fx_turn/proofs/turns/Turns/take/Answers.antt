use Rattle.std.proofs.Common.{rules, ◌∷◌, ℕ, List, Option, Some, ap, sym, ◌∙◌, subst}
use Rattle.atomic_table.specs.Table.{Me, rest}
use Rattle.fx_turn.specs.declared.rule.View.{View}
use Rattle.fx_turn.specs.Seats.{SeatState, Agrees}
use Rattle.fx_turn.proofs.Lists.{same_in_slot}
use Rattle.fx_turn.proofs.turns.Turns.take.Goals as goal

pub exchange-requires : goal.exchange-requires
exchange-requires g c = let won = c.win.ensures.won in
    let e = ap (λ (m : Me (Option g.row.V.Denot) (View g.row.N.Denot g.row.V.Denot g.row.V-Mark.Denot)). m.1) won.has in
    (search rules, (Some won.value, e ∙ ap (λ (z : List (ℕ × Option g.row.V.Denot)). (c.args.slot, Some won.value) ∷ z) (sym (ap rest e))))

pub returns-clause-agrees : goal.returns-clause-agrees
returns-clause-agrees g c = let won = c.win.ensures.won in
    let in_slot = ap (λ (m : Me (Option g.row.V.Denot) (View g.row.N.Denot g.row.V.Denot g.row.V-Mark.Denot)). m.1) won.has in
    let same = same_in_slot _ _ _ _ _ _ c.in-Some.value won.value c.exchange.ensures.2 in_slot c.in-Some.is in
    subst (λ (z : g.row.V.Denot × SeatState g.row.N.Denot g.row.V.Denot g.row.V-Mark.Denot). Agrees g.V.Fits.tally g.V.Fits.claims z.1 z.0)
    (λ q. ((same ∙ ap (λ h. h.value) (sym c.new.ensures)) q, c.seat.view_is q)) won.agrees
