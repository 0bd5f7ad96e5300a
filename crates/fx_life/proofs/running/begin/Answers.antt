use Rattle.std.proofs.Common.{◌≡◌, [], ap, sym, subst, arith, ◌∙◌, length, map, List}
use Rattle.std.proofs.lemmas.Result.{on_ok_weaker, IfOk-from_err}
use Rattle.fx_life.specs.Plugin.{MadeFor, Plugin, Rendering}
use Rattle.fx_life.specs.Running.{planned, made_for, AreLive, AreUsed}
use Rattle.fx_life.proofs.RunningLemmas.{all_begun, all_idle, none_live}
use Rattle.fx_life.proofs.running.begin.Goals as goal

pub returns-clause-sequences : goal.returns-clause-sequences
returns-clause-sequences g c =
    let number = g.E.Catalogue.number_of c.args.plugin.now.effect in
    let first = c.args.first in
    let last = c.args.last in
    let idle = c.create_each.new.idle.items in
    let ss = c.begin_each.new.in_sequence.items in
    let none_yet : c.reserve.new.self.items ≡ [] = c.reserve.ensures.items ∙ c.requires.none_yet.1 in
    let made : idle ≡ map (made_for number) c.args.uses.now =
    subst (λ e. idle ≡ map (made_for (g.E.Catalogue.number_of e)) c.args.uses.now) c.describe_each.ensures.effect
    c.in_ok-create_each.ensures.made in
    on_ok_weaker c.begin_each.result (λ none.
    all_begun number first last c.args.uses.now idle ss made
    (ap (λ (l : List MadeFor). planned first last l ss) (sym none)
    ∙ c.begin_each.ensures.planned
    ∙ ap (λ (l : List Rendering). planned first last idle l) none_yet)) c.begin_each.ensures.all

pub describe_each-requires-clause-supported : goal.describe_each-requires-clause-supported
describe_each-requires-clause-supported g c = c.requires.supported

pub describe_each-requires-clause-fresh : goal.describe_each-requires-clause-fresh
describe_each-requires-clause-fresh g c = ap (λ (p : Plugin _). p.contexts) c.requires.fresh

pub create_each-requires-clause-described : goal.create_each-requires-clause-described
create_each-requires-clause-described g c = c.in_ok-describe_each.ensures.contexts.each

pub create_each-requires-clause-none_yet : goal.create_each-requires-clause-none_yet
create_each-requires-clause-none_yet g c =
    (c.describe_each.ensures.live ∙ ap (λ (p : Plugin _). p.live) c.requires.fresh, c.requires.none_yet.0)

pub create_each-requires-clause-apart : goal.create_each-requires-clause-apart
create_each-requires-clause-apart g c = c.requires.apart

pub begin_each-requires-clause-live : goal.begin_each-requires-clause-live
begin_each-requires-clause-live g c =
    all_idle (g.E.Catalogue.number_of c.create_each.new.plugin.effect) c.create_each.new.plugin.live
    c.create_each.new.idle.items c.reserve.new.self.items (c.reserve.ensures.items ∙ c.requires.none_yet.1)
    c.create_each.ensures.live

pub begin_each-requires-clause-room : goal.begin_each-requires-clause-room
begin_each-requires-clause-room g c =
    let none : length c.reserve.new.self.items ≡ 0 = ap length (c.reserve.ensures.items ∙ c.requires.none_yet.1) in
    omega (arith, c.create_each.ensures.room, none)

pub begin_each-requires-clause-frames : goal.begin_each-requires-clause-frames
begin_each-requires-clause-frames g c = c.requires.frames

pub returns-in_err-describe_each-clause-effect : goal.returns-in_err-describe_each-clause-effect
returns-in_err-describe_each-clause-effect g c = c.describe_each.ensures.effect

pub returns-in_err-describe_each-clause-live : goal.returns-in_err-describe_each-clause-live
returns-in_err-describe_each-clause-live g c =
    none_live (g.E.Catalogue.number_of c.describe_each.new.plugin.effect) c.describe_each.new.plugin.live
    c.args.idle.now.items c.args.in_sequence.now.items
    (c.describe_each.ensures.live ∙ ap (λ (p : Plugin _). p.live) c.requires.fresh) c.requires.none_yet.0
    c.requires.none_yet.1

pub returns-in_err-describe_each-clause-room : goal.returns-in_err-describe_each-clause-room
returns-in_err-describe_each-clause-room g c =
    let idle : length c.args.idle.now.items ≡ 0 = ap length c.requires.none_yet.0 in
    let none : length c.args.in_sequence.now.items ≡ 0 = ap length c.requires.none_yet.1 in
    omega (arith, idle, none)

pub returns-in_err-describe_each-clause-contexts : goal.returns-in_err-describe_each-clause-contexts
returns-in_err-describe_each-clause-contexts g c = IfOk-from_err _ _ c.from_residual.ensures.0

pub returns-in_err-describe_each-clause-sequences : goal.returns-in_err-describe_each-clause-sequences
returns-in_err-describe_each-clause-sequences g c = IfOk-from_err _ _ c.from_residual.ensures.0

pub returns-in_err-describe_each-clause-begun : goal.returns-in_err-describe_each-clause-begun
returns-in_err-describe_each-clause-begun g c = IfOk-from_err _ _ c.from_residual.ensures.0

pub returns-in_err-create_each-clause-effect : goal.returns-in_err-create_each-clause-effect
returns-in_err-create_each-clause-effect g c = c.create_each.ensures.effect ∙ c.describe_each.ensures.effect

pub returns-in_err-create_each-clause-live : goal.returns-in_err-create_each-clause-live
returns-in_err-create_each-clause-live g c =
    all_idle (g.E.Catalogue.number_of c.create_each.new.plugin.effect) c.create_each.new.plugin.live
    c.create_each.new.idle.items c.args.in_sequence.now.items c.requires.none_yet.1 c.create_each.ensures.live

pub returns-in_err-create_each-clause-room : goal.returns-in_err-create_each-clause-room
returns-in_err-create_each-clause-room g c =
    let none : length c.args.in_sequence.now.items ≡ 0 = ap length c.requires.none_yet.1 in
    omega (arith, c.create_each.ensures.room, none)

pub returns-in_err-create_each-clause-contexts : goal.returns-in_err-create_each-clause-contexts
returns-in_err-create_each-clause-contexts g c = IfOk-from_err _ _ c.from_residual-in_err-create_each.ensures.0

pub returns-in_err-create_each-clause-sequences : goal.returns-in_err-create_each-clause-sequences
returns-in_err-create_each-clause-sequences g c = IfOk-from_err _ _ c.from_residual-in_err-create_each.ensures.0

pub returns-in_err-create_each-clause-begun : goal.returns-in_err-create_each-clause-begun
returns-in_err-create_each-clause-begun g c = IfOk-from_err _ _ c.from_residual-in_err-create_each.ensures.0

pub returns-in_err-reserve-clause-effect : goal.returns-in_err-reserve-clause-effect
returns-in_err-reserve-clause-effect g c = c.create_each.ensures.effect ∙ c.describe_each.ensures.effect

pub returns-in_err-reserve-clause-live : goal.returns-in_err-reserve-clause-live
returns-in_err-reserve-clause-live g c =
    all_idle (g.E.Catalogue.number_of c.create_each.new.plugin.effect) c.create_each.new.plugin.live
    c.create_each.new.idle.items c.reserve.new.self.items (c.reserve.ensures.items ∙ c.requires.none_yet.1)
    c.create_each.ensures.live

pub returns-in_err-reserve-clause-room : goal.returns-in_err-reserve-clause-room
returns-in_err-reserve-clause-room g c =
    let none : length c.reserve.new.self.items ≡ 0 = ap length (c.reserve.ensures.items ∙ c.requires.none_yet.1) in
    omega (arith, c.create_each.ensures.room, none)

pub returns-in_err-reserve-clause-contexts : goal.returns-in_err-reserve-clause-contexts
returns-in_err-reserve-clause-contexts g c = IfOk-from_err _ _ c.from_residual-in_err-reserve.ensures.0

pub returns-in_err-reserve-clause-sequences : goal.returns-in_err-reserve-clause-sequences
returns-in_err-reserve-clause-sequences g c = IfOk-from_err _ _ c.from_residual-in_err-reserve.ensures.0

pub returns-in_err-reserve-clause-begun : goal.returns-in_err-reserve-clause-begun
returns-in_err-reserve-clause-begun g c = IfOk-from_err _ _ c.from_residual-in_err-reserve.ensures.0

pub returns-clause-effect : goal.returns-clause-effect
returns-clause-effect g c = c.create_each.ensures.effect ∙ c.describe_each.ensures.effect

pub returns-clause-live : goal.returns-clause-live
returns-clause-live g c =
    subst (AreLive (g.E.Catalogue.number_of c.create_each.new.plugin.effect) c.create_each.new.plugin.live)
    (sym c.begin_each.ensures.same)
    (all_idle (g.E.Catalogue.number_of c.create_each.new.plugin.effect) c.create_each.new.plugin.live
    c.create_each.new.idle.items c.reserve.new.self.items (c.reserve.ensures.items ∙ c.requires.none_yet.1)
    c.create_each.ensures.live)

pub returns-clause-room : goal.returns-clause-room
returns-clause-room g c = c.begin_each.ensures.room

pub returns-clause-contexts : goal.returns-clause-contexts
returns-clause-contexts g c =
    on_ok_weaker c.begin_each.result (λ none. subst (λ l. AreUsed l c.args.uses.now)
    (sym c.create_each.ensures.contexts) c.in_ok-describe_each.ensures.contexts) c.begin_each.ensures.all

pub returns-clause-begun : goal.returns-clause-begun
returns-clause-begun g c = c.begin_each.ensures.all
