use Rattle.std.proofs.Common.{rules, arith, ◌≡◌, ℕ, ◌+◌, ◌<◌, ◌≤◌, ◌^◌, false, List, [], ◌∷◌, ◌++◌, Contains, Some, sym, ap, ◌∙◌, subst}
use Rattle.std.specs.Arc.{arc_value}
use Rattle.std.specs.Map.{lookup}
use Rattle.lru.proofs.CallerLemmas.{Contains-lookup}
use Rattle.fx_core.specs.State.{State}
use Rattle.fx_core.specs.Step.{is_flying}
use Rattle.fx_core.specs.Sound.{IsSound}
use Rattle.fx_core.specs.Seen.{state_of}
use Rattle.fx_core.proofs.Flights.{with_front-member}
use Rattle.fx_core.proofs.Steps.{sound_hit, sound_busy, sound_fly}
use Rattle.fx_core.proofs.single_flight.Core.ask.Given.{Over}
use Rattle.fx_core.proofs.single_flight.Core.ask.Goals as goal
use Rattle.fx_core.proofs.single_flight.Core.ask.Goals.{After-bring_to_front, In_ok-begin}

-- a counter below the bound rises by 1
one_more : (inside seen : ℕ) → inside ≡ seen → seen < 2 ^ 62 → inside + 1 ≤ 2 ^ 62
one_more inside seen same low = omega (arith, same, low)

-- the value is here
module _ (g : Over) (c : After-bring_to_front g) where
  sound_here : let core = c.self.inside in IsSound g.K.PartialEq.eq (state_of core.permit.scene c.bring_to_front.new.self core.flying (record core.totals { asks = core.totals.asks + 1; hits = core.totals.hits + 1 }))
  sound_here = let core = c.self.inside in
      sound_hit g.K.PartialEq.eq g.met.K.Eq.laws core.permit.scene core.kept core.flying core.totals c.self.invariant.0 c.bring_to_front.new.self (arc_value c.args.key) (arc_value c.in-Some.value.now)
      c.in-Some.ensures c.bring_to_front.ensures.entries c.bring_to_front.ensures.capacity

pub invariant_of-self : goal.invariant_of-self
invariant_of-self g c = (
  sound_here g (goal.at.invariant_of-self g c).After-bring_to_front,
  one_more c.self.inside.totals.asks c.args.self.now.totals.asks (ap (λ (s : State g.row.K.Denot g.row.V.Denot). s.totals.asks) c.self.view_is) c.requires,
)

pub returns-in-Some-clause-sound : goal.returns-in-Some-clause-sound
returns-in-Some-clause-sound g c = sound_here g (goal.at.returns-in-Some-clause-sound g c).After-bring_to_front

pub returns-in-Some-clause-here : goal.returns-in-Some-clause-here
returns-in-Some-clause-here g c =
    Contains-lookup (g.K.PartialEq.eq (arc_value c.args.key)) c.args.self.now.kept (arc_value c.in_ok-value.value)
    (ap (λ (s : State g.row.K.Denot g.row.V.Denot). lookup (g.K.PartialEq.eq (arc_value c.args.key)) s.kept) (sym c.self.view_is) ∙ (sym c.in-Some.ensures ∙ ap (λ (v : g.row.V.Denot). Some v) (sym c.in_ok-value.ensures)))

pub returns-in-Some-clause-kept : goal.returns-in-Some-clause-kept
returns-in-Some-clause-kept g c =
    λ e there. subst (λ (s : State g.row.K.Denot g.row.V.Denot). Contains s.kept e) c.self.view_is
    (with_front-member (g.K.PartialEq.eq (arc_value c.args.key)) c.self.inside.kept.entries e (subst (λ (es : List (g.row.K.Denot × g.row.V.Denot)). Contains es e) c.bring_to_front.ensures.entries there))

-- the key is flying
pub invariant_of-self-then-has : goal.invariant_of-self-then-has
invariant_of-self-then-has g c = (
  (let core = c.self.inside in
      sound_busy g.K.PartialEq.eq g.met.K.Eq.laws core.permit.scene core.kept core.flying core.totals c.self.invariant.0 (arc_value c.args.key)
      c.in_default.ensures (sym c.has.ensures ∙ c.if-has.true)),
  one_more c.self.inside.totals.asks c.args.self.now.totals.asks (ap (λ (s : State g.row.K.Denot g.row.V.Denot). s.totals.asks) c.self.view_is) c.requires,
)

pub returns-then-has-clause-sound : goal.returns-then-has-clause-sound
returns-then-has-clause-sound g c =
    let core = c.self.inside in
    sound_busy g.K.PartialEq.eq g.met.K.Eq.laws core.permit.scene core.kept core.flying core.totals c.self.invariant.0 (arc_value c.args.key)
    c.in_default.ensures (sym c.has.ensures ∙ c.if-has.true)

-- memory is wanting for a flight
pub returns-in_err-try_clone-clause-busy : goal.returns-in_err-try_clone-clause-busy
returns-in_err-try_clone-clause-busy g c =
    let still : is_flying g.K.PartialEq.eq c.args.self.now (arc_value c.args.key) ≡ false =
    ap (λ (s : State g.row.K.Denot g.row.V.Denot). is_flying g.K.PartialEq.eq s (arc_value c.args.key)) (sym c.self.view_is) ∙ (sym c.has.ensures ∙ c.if-has.false) in
    (λ e. absurd (search rules), λ e. cc)

pub returns-in_err-begin-clause-busy : goal.returns-in_err-begin-clause-busy
returns-in_err-begin-clause-busy g c =
    let still : is_flying g.K.PartialEq.eq c.args.self.now (arc_value c.args.key) ≡ false =
    ap (λ (s : State g.row.K.Denot g.row.V.Denot). is_flying g.K.PartialEq.eq s (arc_value c.args.key)) (sym c.self.view_is) ∙ (sym c.has.ensures ∙ c.if-has.false) in
    (λ e. absurd (search rules), λ e. cc)

-- a flight begins
module _ (g : Over) (c : In_ok-begin g) where
  sound_flight : let core = c.self.inside in IsSound g.K.PartialEq.eq (state_of core.permit.scene core.kept c.begin.new.self (record core.totals { asks = core.totals.asks + 1; flights = core.totals.flights + 1 }))
  sound_flight = let core = c.self.inside in
      sound_fly g.K.PartialEq.eq g.met.K.Eq.laws core.permit.scene core.kept core.flying core.totals c.self.invariant.0 c.begin.new.self (arc_value c.args.key)
      c.in_default.ensures (sym c.has.ensures ∙ c.if-has.false)
      (c.in_ok-begin.ensures.ok ∙ ap (λ (k : g.row.K.Denot). core.flying ++ (core.totals.flights, k) ∷ []) c.in_ok-try_clone.ensures)

pub invariant_of-self-2 : goal.invariant_of-self-2
invariant_of-self-2 g c = (
  sound_flight g (goal.at.invariant_of-self-2 g c).In_ok-begin,
  one_more c.self.inside.totals.asks c.args.self.now.totals.asks (ap (λ (s : State g.row.K.Denot g.row.V.Denot). s.totals.asks) c.self.view_is) c.requires,
)

pub returns-clause-sound : goal.returns-clause-sound
returns-clause-sound g c = sound_flight g (goal.at.returns-clause-sound g c).In_ok-begin
