use Rattle.std.proofs.Common.{◌∙◌, ◌≡◌, ℕ, List, inl, inr, sym, subst}
use Rattle.std.specs.Arc.{arc_value}
use Rattle.std.specs.Result.{OnOk}
use Rattle.fx_directory.proofs.Lent.{IsLent, is_lent, own_stands}
use Rattle.fx_directory.proofs.Turned.{own_left_taken, turned, claims_turned, unchanged}
use Rattle.fx_directory.proofs.Flown.{Without}
use Rattle.fx_directory.proofs.Asking.{at_home_after}
use Rattle.fx_directory.proofs.Ending.{own_left, left_at_ok}
use Rattle.fx_directory.proofs.turn.land.Goals as goal
use Rattle.fx_directory.proofs.turn.land.Goals.{After-deref_mut}
use Rattle.fx_directory.proofs.turn.land.Given.{Over}

module _ (g : Over) (c : After-deref_mut g) where
  is_it : c.deref_mut.result.now ≡ c.take-held.result.value
  is_it = c.deref_mut.ensures.value ∙ c.behind-held.view_is ∙ c.value_mut.ensures.value

  core : IsLent g.K.PartialEq.eq g.V.Suits.suits c.args.turns.now.name c.args.seat.now c.deref_mut.result.now
  core = is_lent g.K.PartialEq.eq g.V.Suits.suits c.args.turns.now.name c.args.seat.now c.deref_mut.result.now c.take-held.result.value is_it c.take-held.ensures.fit c.take-held.ensures.agrees

pub land-landed-requires-clause-stands : goal.land-landed-requires-clause-stands
land-landed-requires-clause-stands g c =
    let b = (goal.at.land-landed-requires-clause-stands g c).After-deref_mut in
    own_stands g.K.PartialEq.eq g.V.Suits.suits c.args.turns.now.name c.args.seat.now c.deref_mut.result.now (core g b) (c.args.flight.ticket.number, arc_value c.args.flight.key) c.requires.own

pub give-requires-clause-fit : goal.give-requires-clause-fit
give-requires-clause-fit g c =
    let b = (goal.at.give-requires-clause-fit g c).After-deref_mut in
    let suits = g.V.Suits.suits c.args.turns.now.name.name in
    at_home_after g.K.PartialEq.eq g.V.Suits.suits c.args.turns.now.name c.deref_mut.result.now c.land-landed.new.self (core g b).fit c.land-landed.ensures.same c.land-landed.ensures.sound
    (λ e there. elim (c.land-landed.ensures.kept e there) [ inl old ↦ inl old | inr new ↦ inr (subst (λ (z : g.row.K.Denot × g.row.V.Denot). suits z.0 z.1) (sym new) c.requires.suits) ])

pub give-requires-clause-leaves : goal.give-requires-clause-leaves
give-requires-clause-leaves g c =
    let b = (goal.at.give-requires-clause-leaves g c).After-deref_mut in
    let ended : ℕ × g.row.K.Denot = (c.args.flight.ticket.number, arc_value c.args.flight.key) in
    own_left_taken c.args.seat.now c.take-held.new.seat c.take-held.result.value c.deref_mut.result.now c.take-held.ensures.seat (is_it g b) c.land-landed.new.self.flying
    (own_left c.deref_mut.result.now c.land-landed.new.self c.args.seat.now.claims ended (core g b).differ (core g b).agrees.1 (core g b).agrees.2 c.requires.own c.land-landed.result c.land-landed.ensures.leaves c.land-landed.ensures.unchanged)

pub returns-clause-unchanged : goal.returns-clause-unchanged
returns-clause-unchanged g c =
    let b = (goal.at.returns-clause-unchanged g c).After-deref_mut in
    let after = turned c.args.seat.now c.take-held.new.seat c.take-held.result.value c.deref_mut.result.now c.take-held.ensures.seat (is_it g b) c.give.new.seat c.land-landed.new.self c.give.ensures in
    unchanged c.land-landed.result c.args.seat.now c.give.new.seat c.deref_mut.result.now c.land-landed.new.self c.take-held.ensures.six c.requires.free (core g b).agrees after c.land-landed.ensures.unchanged

pub returns-clause-aloft : goal.returns-clause-aloft
returns-clause-aloft g c =
    let b = (goal.at.returns-clause-aloft g c).After-deref_mut in
    let ended : ℕ × g.row.K.Denot = (c.args.flight.ticket.number, arc_value c.args.flight.key) in
    let claims = claims_turned c.args.seat.now c.take-held.new.seat c.take-held.result.value c.deref_mut.result.now c.take-held.ensures.seat (is_it g b) c.give.new.seat c.land-landed.new.self c.give.ensures in
    subst (λ (l : List (ℕ × g.row.K.Denot)). OnOk c.land-landed.result (Without c.args.seat.now.claims ended l)) (sym claims)
    (left_at_ok c.deref_mut.result.now c.land-landed.new.self c.args.seat.now.claims ended (core g b).differ (core g b).agrees.1 (core g b).agrees.2 c.requires.own c.land-landed.result c.land-landed.ensures.leaves)
