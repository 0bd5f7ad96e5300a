use Rattle.std.proofs.Common.{rules, ◌∙◌, ◌≡◌, ℕ, List, inl, sym, subst}
use Rattle.std.specs.Arc.{arc_value}
use Rattle.std.specs.Result.{IfOk}
use Rattle.fx_core.specs.Answer.{Joins}
use Rattle.fx_turn.specs.Claims.{NumbersDiffer}
use Rattle.fx_directory.specs.Keeps.{AtHome, at_home_differ}
use Rattle.fx_directory.proofs.Lent.{IsLent, is_lent}
use Rattle.fx_directory.proofs.Turned.{own_left_taken, turned, claims_turned, unchanged}
use Rattle.fx_directory.proofs.Asking.{at_home_after, here_suits, none_left, joins_mine, new_to_mine, flies_too}
use Rattle.fx_directory.proofs.turn.ask.Goals as goal
use Rattle.fx_directory.proofs.turn.ask.Goals.{After-ask-answer}
use Rattle.fx_directory.proofs.turn.ask.Given.{Over}

module _ (g : Over) (c : After-ask-answer g) where
  is_it : c.deref_mut.result.now ≡ c.take_with_room-held.result.value
  is_it = c.deref_mut.ensures.value ∙ c.behind-held.view_is ∙ c.value_mut.ensures.value

  core : IsLent g.K.PartialEq.eq g.V.Suits.suits c.args.turns.now.name c.args.seat.now c.deref_mut.result.now
  core = is_lent g.K.PartialEq.eq g.V.Suits.suits c.args.turns.now.name c.args.seat.now c.deref_mut.result.now c.take_with_room-held.result.value is_it c.take_with_room-held.ensures.fit c.take_with_room-held.ensures.agrees

  fit_after : AtHome g.K.PartialEq.eq g.V.Suits.suits c.args.turns.now.name c.ask-answer.new.self
  fit_after = at_home_after g.K.PartialEq.eq g.V.Suits.suits c.args.turns.now.name c.deref_mut.result.now c.ask-answer.new.self core.fit c.ask-answer.ensures.same c.ask-answer.ensures.sound (λ e there. inl (c.ask-answer.ensures.kept e there))

  differ_after : NumbersDiffer c.ask-answer.new.self.flying
  differ_after = at_home_differ g.K.PartialEq.eq g.V.Suits.suits c.args.turns.now.name c.ask-answer.new.self fit_after

pub give-requires-clause-fit : goal.give-requires-clause-fit
give-requires-clause-fit g c = fit_after g (goal.at.give-requires-clause-fit g c).After-ask-answer

pub give-requires-clause-leaves : goal.give-requires-clause-leaves
give-requires-clause-leaves g c =
    let b = (goal.at.give-requires-clause-leaves g c).After-ask-answer in
    let taken = c.take_with_room-held in
    own_left_taken c.args.seat.now taken.new.seat taken.result.value c.deref_mut.result.now taken.ensures.seat (is_it g b) c.ask-answer.new.self.flying
    (none_left c.ask-answer.result c.deref_mut.result.now c.ask-answer.new.self c.args.seat.now.claims c.ask-answer.ensures.joins c.ask-answer.ensures.unchanged)

pub returns-clause-here : goal.returns-clause-here
returns-clause-here g c =
    let b = (goal.at.returns-clause-here g c).After-ask-answer in
    here_suits g.K.PartialEq.eq g.V.Suits.suits c.args.turns.now.name g.met.K.Eq.laws (g.met.V.Suits.same_key c.args.turns.now.name.name) c.ask-answer.result c.deref_mut.result.now (arc_value c.args.key) (core g b).fit c.ask-answer.ensures.here

pub returns-clause-number : goal.returns-clause-number
returns-clause-number g c =
    let b = (goal.at.returns-clause-number g c).After-ask-answer in
    new_to_mine c.ask-answer.result c.deref_mut.result.now.flying c.ask-answer.new.self.flying c.args.seat.now.claims (core g b).agrees.1 (differ_after g b) c.ask-answer.ensures.joins

pub returns-clause-aloft : goal.returns-clause-aloft
returns-clause-aloft g c =
    let b = (goal.at.returns-clause-aloft g c).After-ask-answer in
    let taken = c.take_with_room-held in
    let claims = claims_turned c.args.seat.now taken.new.seat taken.result.value c.deref_mut.result.now taken.ensures.seat (is_it g b) c.give.new.seat c.ask-answer.new.self c.give.ensures in
    subst (λ (l : List (ℕ × g.row.K.Denot)). IfOk c.ask-answer.result (Joins c.args.seat.now.claims l)) (sym claims)
    (joins_mine c.ask-answer.result c.deref_mut.result.now.flying c.ask-answer.new.self.flying c.args.seat.now.claims (core g b).agrees.2 (core g b).agrees.1 (differ_after g b) c.ask-answer.ensures.joins)

pub returns-clause-unchanged : goal.returns-clause-unchanged
returns-clause-unchanged g c =
    let b = (goal.at.returns-clause-unchanged g c).After-ask-answer in
    let taken = c.take_with_room-held in
    let after = turned c.args.seat.now taken.new.seat taken.result.value c.deref_mut.result.now taken.ensures.seat (is_it g b) c.give.new.seat c.ask-answer.new.self c.give.ensures in
    unchanged c.ask-answer.result c.args.seat.now c.give.new.seat c.deref_mut.result.now c.ask-answer.new.self taken.ensures.six c.requires.free (core g b).agrees after c.ask-answer.ensures.unchanged

pub returns-clause-own : goal.returns-clause-own
returns-clause-own g c = λ any.
    let b = (goal.at.returns-clause-own g c).After-ask-answer in
    c.ask-answer.ensures.busy.1 (flies_too g.K.PartialEq.eq (arc_value c.args.key) c.args.seat.now.claims c.deref_mut.result.now.flying (core g b).agrees.2 (core g b).agrees.1 any)

pub returns-clause-made : goal.returns-clause-made
returns-clause-made g c = search rules

pub returns-clause-bound : goal.returns-clause-bound
returns-clause-bound g c = search rules

pub give-requires-clause-rises : goal.give-requires-clause-rises
give-requires-clause-rises g c = search rules
