use Rattle.std.proofs.Common.{refl, ap, ◌∙◌, subst}
use Rattle.fx_turn.specs.Seats.{SeatState, Agrees}
use Rattle.fx_directory.specs.declared.home.Home.{Home}
use Rattle.fx_core.specs.State.{State}
use Rattle.fx_directory.specs.Sitting.{counts_in, flights_in}
use Rattle.fx_directory.proofs.Turned.{untouched, turned}
use Rattle.fx_directory.proofs.turn.take_with_room.Goals as goal

pub loop-preserved : goal.loop-preserved
loop-preserved g c =
    let held = c.take-held.result.value in
    let after = turned c.loop.seat c.take-held.new.seat held held c.take-held.ensures.seat refl c.give.new.seat held c.give.ensures in
    let free = ap (λ (z : SeatState (Home g.row.N.Denot) (State g.row.K.Denot g.row.V.Denot) g.row.K.Denot). z.turn) c.loop.invariant ∙ c.requires.free in
    untouched c.loop.seat c.give.new.seat held c.take-held.ensures.six free c.take-held.ensures.agrees after ∙ c.loop.invariant

pub returns-then-totals-clause-agrees : goal.returns-then-totals-clause-agrees
returns-then-totals-clause-agrees g c = subst (λ (z : SeatState (Home g.row.N.Denot) (State g.row.K.Denot g.row.V.Denot) g.row.K.Denot). Agrees counts_in flights_in z c.take-held.result.value) c.loop.invariant c.take-held.ensures.agrees
