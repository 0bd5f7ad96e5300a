use Rattle.std.proofs.Common.{◌≡◌, ◌+◌, ◌==◌, Contains, Some, sym, ap, ◌∙◌, subst}
use Rattle.std.specs.Map.{remove_entry}
use Rattle.std.specs.Arc.{arc_value}
use Rattle.fx_core.specs.State.{State}
use Rattle.fx_core.specs.Step.{step, Drop, Done}
use Rattle.fx_core.specs.Sound.{IsSound}
use Rattle.fx_core.specs.Seen.{state_of}
use Rattle.fx_core.proofs.Flights.{standing_key, standing_leaves, standing_last}
use Rattle.fx_core.proofs.Soundness.{sound_step}
use Rattle.fx_core.proofs.Steps.{drop_step}
use Rattle.fx_core.proofs.single_flight.Core.drop_flight.Given.{Over}
use Rattle.fx_core.proofs.single_flight.Core.drop_flight.Goals as goal
use Rattle.fx_core.proofs.single_flight.Core.drop_flight.Goals.{After-end}

module _ (g : Over) (c : After-end g) where
  abbrev before : State g.row.K.Denot g.row.V.Denot
  before = let core = c.self.inside in state_of core.permit.scene core.kept core.flying core.totals

  abbrev after : State g.row.K.Denot g.row.V.Denot
  after = let core = c.self.inside in state_of core.permit.scene core.kept c.end.new.self (record core.totals { dropped = core.totals.dropped + 1 })

  stands : Contains before.flying (c.args.flight.ticket.number, arc_value c.args.flight.key)
  stands = subst (λ (s : State g.row.K.Denot g.row.V.Denot). Contains s.flying (c.args.flight.ticket.number, arc_value c.args.flight.key)) (sym c.self.view_is) c.requires

  left : c.end.new.self ≡ remove_entry (λ n. n == c.args.flight.ticket.number) before.flying
  left = rw (c.spend.ensures) at c.end.ensures

  stepped : step g.K.PartialEq.eq before (Drop c.args.flight.ticket.number) ≡ Some (Done, after)
  stepped = let core = c.self.inside in
      drop_step g.K.PartialEq.eq g.met.K.Eq.laws core.permit.scene core.kept core.flying core.totals c.self.invariant.0 c.end.new.self c.args.flight.ticket.number (arc_value c.args.flight.key)
      (standing_key g.K.PartialEq.eq g.met.K.Eq.laws before c.self.invariant.0 (c.args.flight.ticket.number, arc_value c.args.flight.key) stands) left

  sound : IsSound g.K.PartialEq.eq after
  sound = sound_step g.K.PartialEq.eq g.met.K.Eq.laws before after (Drop c.args.flight.ticket.number) Done c.self.invariant.0 stepped

pub invariant_of-self : goal.invariant_of-self
invariant_of-self g c = (sound g (goal.at.invariant_of-self g c).After-end, c.self.invariant.1)

pub returns-clause-step : goal.returns-clause-step
returns-clause-step g c =
    ap (λ (s : State g.row.K.Denot g.row.V.Denot). step g.K.PartialEq.eq s (Drop c.args.flight.ticket.number)) (sym c.self.view_is) ∙ stepped g (goal.at.returns-clause-step g c).After-end

pub returns-clause-leaves : goal.returns-clause-leaves
returns-clause-leaves g c' =
    let c = (goal.at.returns-clause-leaves g c').After-end in
    let l = standing_leaves g.K.PartialEq.eq g.met.K.Eq.laws (before g c) c.self.invariant.0 (c.args.flight.ticket.number, arc_value c.args.flight.key) (stands g c) in
    (l.0, l.1, ap (λ (s : State g.row.K.Denot g.row.V.Denot). s.flying) (sym c.self.view_is) ∙ l.2, left g c ∙ l.3)

pub returns-clause-last : goal.returns-clause-last
returns-clause-last g c' others last =
    let c = (goal.at.returns-clause-last g c').After-end in
    left g c ∙ standing_last g.K.PartialEq.eq g.met.K.Eq.laws (before g c) c.self.invariant.0 (c.args.flight.ticket.number, arc_value c.args.flight.key) others
    (ap (λ (s : State g.row.K.Denot g.row.V.Denot). s.flying) c.self.view_is ∙ last)

pub returns-clause-sound : goal.returns-clause-sound
returns-clause-sound g c = sound g (goal.at.returns-clause-sound g c).After-end
