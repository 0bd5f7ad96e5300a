use Rattle.std.proofs.Common.{◌≡◌, ℕ, ◌+◌, ◌==◌, Bool, cond, List, Contains, ◌⊎◌, Some, sym, ap, ◌∙◌, subst}
use Rattle.std.specs.Map.{remove_entry}
use Rattle.std.specs.Arc.{arc_value}
use Rattle.fx_core.specs.State.{State}
use Rattle.fx_core.specs.Step.{step, Land, Done}
use Rattle.fx_core.specs.Sound.{IsSound}
use Rattle.fx_core.specs.Seen.{state_of}
use Rattle.fx_core.proofs.Flights.{standing_key, standing_leaves, standing_last, not_kept, with_new-member}
use Rattle.fx_core.proofs.Soundness.{sound_step}
use Rattle.fx_core.proofs.Steps.{land_step, as_number}
use Rattle.fx_core.proofs.single_flight.Core.land.Given.{Over}
use Rattle.fx_core.proofs.single_flight.Core.land.Goals as goal
use Rattle.fx_core.proofs.single_flight.Core.land.Goals.{After-from}

module _ (g : Over) (c : After-from g) where
  abbrev before : State g.row.K.Denot g.row.V.Denot
  before = let core = c.self.inside in state_of core.permit.scene core.kept core.flying core.totals

  abbrev after : State g.row.K.Denot g.row.V.Denot
  after = let core = c.self.inside in
      state_of core.permit.scene c.put.new.self c.end.new.self (record core.totals { landed = core.totals.landed + 1; evicted = core.totals.evicted + c.from.result })

  stands : Contains before.flying (c.args.flight.ticket.number, arc_value c.args.flight.key)
  stands = subst (λ (s : State g.row.K.Denot g.row.V.Denot). Contains s.flying (c.args.flight.ticket.number, arc_value c.args.flight.key)) (sym c.self.view_is) c.requires.stands

  left : c.end.new.self ≡ remove_entry (λ n. n == c.args.flight.ticket.number) before.flying
  left = rw (c.spend.ensures) at c.end.ensures

  stepped : step g.K.PartialEq.eq before (Land c.args.flight.ticket.number (arc_value c.args.value)) ≡ Some (Done, after)
  stepped = let core = c.self.inside in
      land_step g.K.PartialEq.eq g.met.K.Eq.laws core.permit.scene core.kept core.flying core.totals c.self.invariant.0 c.put.new.self c.end.new.self c.args.flight.ticket.number (arc_value c.args.flight.key) (arc_value c.args.value)
      (core.totals.evicted + c.from.result)
      (standing_key g.K.PartialEq.eq g.met.K.Eq.laws before c.self.invariant.0 (c.args.flight.ticket.number, arc_value c.args.flight.key) stands)
      c.in-Ok.ensures.entries c.put.ensures.capacity left
      (ap (λ (n : ℕ). core.totals.evicted + n) (c.from.ensures ∙ (as_number c.in-Ok.evicted ∙ ap (λ (b : Bool). cond {A = ℕ} b 1 0) c.in-Ok.ensures.evicted)))

  sound : IsSound g.K.PartialEq.eq after
  sound = sound_step g.K.PartialEq.eq g.met.K.Eq.laws before after (Land c.args.flight.ticket.number (arc_value c.args.value)) Done c.self.invariant.0 stepped

pub put-requires : goal.put-requires
put-requires g c =
    let core = c.self.inside in
    not_kept g.K.PartialEq.eq g.met.K.Eq.laws (state_of core.permit.scene core.kept core.flying core.totals) c.self.invariant.0 (c.args.flight.ticket.number, arc_value c.args.flight.key)
    (subst (λ (s : State g.row.K.Denot g.row.V.Denot). Contains s.flying (c.args.flight.ticket.number, arc_value c.args.flight.key)) (sym c.self.view_is) c.requires.stands)

pub invariant_of-self : goal.invariant_of-self
invariant_of-self g c = (sound g (goal.at.invariant_of-self g c).After-from, c.self.invariant.1)

pub returns-in-Ok-clause-step : goal.returns-in-Ok-clause-step
returns-in-Ok-clause-step g c =
    ap (λ (s : State g.row.K.Denot g.row.V.Denot). step g.K.PartialEq.eq s (Land c.args.flight.ticket.number (arc_value c.args.value))) (sym c.self.view_is) ∙ stepped g (goal.at.returns-in-Ok-clause-step g c).After-from

pub returns-in-Ok-clause-leaves : goal.returns-in-Ok-clause-leaves
returns-in-Ok-clause-leaves g c' =
    let c = (goal.at.returns-in-Ok-clause-leaves g c').After-from in
    let l = standing_leaves g.K.PartialEq.eq g.met.K.Eq.laws (before g c) c.self.invariant.0 (c.args.flight.ticket.number, arc_value c.args.flight.key) (stands g c) in
    (l.0, l.1, ap (λ (s : State g.row.K.Denot g.row.V.Denot). s.flying) (sym c.self.view_is) ∙ l.2, left g c ∙ l.3)

pub returns-in-Ok-clause-last : goal.returns-in-Ok-clause-last
returns-in-Ok-clause-last g c' others last =
    let c = (goal.at.returns-in-Ok-clause-last g c').After-from in
    left g c ∙ standing_last g.K.PartialEq.eq g.met.K.Eq.laws (before g c) c.self.invariant.0 (c.args.flight.ticket.number, arc_value c.args.flight.key) others
    (ap (λ (s : State g.row.K.Denot g.row.V.Denot). s.flying) c.self.view_is ∙ last)

pub returns-in-Ok-clause-kept : goal.returns-in-Ok-clause-kept
returns-in-Ok-clause-kept g c =
    let key = arc_value c.args.flight.key in
    let value = arc_value c.args.value in
    λ e there. subst (λ (s : State g.row.K.Denot g.row.V.Denot). Contains s.kept e ⊎ (e ≡ (key, value))) c.self.view_is
    (with_new-member c.self.inside.kept.capacity c.self.inside.kept.entries (key, value) e (subst (λ (es : List (g.row.K.Denot × g.row.V.Denot)). Contains es e) c.in-Ok.ensures.entries there))

pub returns-in-Ok-clause-sound : goal.returns-in-Ok-clause-sound
returns-in-Ok-clause-sound g c = sound g (goal.at.returns-in-Ok-clause-sound g c).After-from
