use Rattle.std.proofs.Common.{◌∙◌, ◌≡◌, ℕ, List, sym, subst}
use Rattle.std.specs.Arc.{arc_value}
use Rattle.fx_directory.proofs.Lent.{IsLent, is_lent, own_stands}
use Rattle.fx_directory.proofs.Turned.{own_left_taken, claims_turned}
use Rattle.fx_directory.proofs.Flown.{Without, only_own, claims_left}
use Rattle.fx_directory.proofs.turn.drop_flight.Goals as goal
use Rattle.fx_directory.proofs.turn.drop_flight.Goals.{After-deref_mut}
use Rattle.fx_directory.proofs.turn.drop_flight.Given.{Over}

module _ (g : Over) (c : After-deref_mut g) where
  is_it : c.deref_mut.result.now ≡ c.take-held.result.value
  is_it = c.deref_mut.ensures.value ∙ c.behind-held.view_is ∙ c.value_mut.ensures.value

  core : IsLent g.K.PartialEq.eq g.V.Suits.suits c.args.turns.now.name c.args.seat.now c.deref_mut.result.now
  core = is_lent g.K.PartialEq.eq g.V.Suits.suits c.args.turns.now.name c.args.seat.now c.deref_mut.result.now c.take-held.result.value is_it c.take-held.ensures.fit c.take-held.ensures.agrees

pub drop_flight-requires : goal.drop_flight-requires
drop_flight-requires g c =
    let b = (goal.at.drop_flight-requires g c).After-deref_mut in
    own_stands g.K.PartialEq.eq g.V.Suits.suits c.args.turns.now.name c.args.seat.now c.deref_mut.result.now (core g b) (c.args.flight.ticket.number, arc_value c.args.flight.key) c.requires.own

pub give-requires-clause-leaves : goal.give-requires-clause-leaves
give-requires-clause-leaves g c =
    let b = (goal.at.give-requires-clause-leaves g c).After-deref_mut in
    let ended : ℕ × g.row.K.Denot = (c.args.flight.ticket.number, arc_value c.args.flight.key) in
    own_left_taken c.args.seat.now c.take-held.new.seat c.take-held.result.value c.deref_mut.result.now c.take-held.ensures.seat (is_it g b) c.drop_flight.new.self.flying
    (only_own c.deref_mut.result.now.flying c.drop_flight.new.self.flying c.args.seat.now.claims ended (core g b).differ (core g b).agrees.1 (core g b).agrees.2 c.requires.own c.drop_flight.ensures.leaves)

pub returns-clause-aloft : goal.returns-clause-aloft
returns-clause-aloft g c =
    let b = (goal.at.returns-clause-aloft g c).After-deref_mut in
    let ended : ℕ × g.row.K.Denot = (c.args.flight.ticket.number, arc_value c.args.flight.key) in
    let claims = claims_turned c.args.seat.now c.take-held.new.seat c.take-held.result.value c.deref_mut.result.now c.take-held.ensures.seat (is_it g b) c.give.new.seat c.drop_flight.new.self c.give.ensures in
    subst (λ (l : List (ℕ × g.row.K.Denot)). Without c.args.seat.now.claims ended l) (sym claims)
    (claims_left c.deref_mut.result.now.flying c.drop_flight.new.self.flying c.args.seat.now.claims ended (core g b).differ (core g b).agrees.1 (core g b).agrees.2 c.requires.own c.drop_flight.ensures.leaves)
