use Rattle.std.proofs.Common.{◌<◌, length, sym, subst}
use Rattle.std.proofs.lemmas.Option.{slice_get_within}
use Rattle.std.proofs.lemmas.Result.{on_err_weaker}
use Rattle.std.specs.Arc.{arc_value}
use Rattle.fx_graph.specs.Shown.{GraphShown}
use Rattle.fx_scene.specs.Scenes.{graph_shown}
use Rattle.fx_eval.specs.Flights.{Drops}
use Rattle.fx_eval.proofs.FlightLemmas.{drops_none, fly_drops, on_err}
use Rattle.fx_eval.proofs.window.window_of.Goals as goal

pub key-requires : goal.key-requires
key-requires g c =
    let setup = c.args.setup.now in
    let node = c.args.node.now in
    let there = c.requires.asked.there in
    subst (λ (h : GraphShown _). node.place < length h.nodes) (sym c.requires.setup.scene)
    (slice_get_within (graph_shown setup.graph.now).nodes node.place there.node there.there)

pub returns-then-totals-ge-MOST_ASKS-clause-drops : goal.returns-then-totals-ge-MOST_ASKS-clause-drops
returns-then-totals-ge-MOST_ASKS-clause-drops g c = on_err c.unasked.result (drops_none c.args.core.now)

pub returns-in_err-key-clause-drops : goal.returns-in_err-key-clause-drops
returns-in_err-key-clause-drops g c = on_err c.from_residual.result (drops_none c.args.core.now)

pub returns-in_err-flight-clause-drops : goal.returns-in_err-flight-clause-drops
returns-in_err-flight-clause-drops g c =
    on_err c.from_residual-in_err-flight.result (subst (λ s. Drops c.args.core.now s) (sym c.in_err-flight.ensures.unchanged) (drops_none c.args.core.now))

pub returns-clause-drops : goal.returns-clause-drops
returns-clause-drops g c =
    on_err_weaker c.flown.result
    (λ e. fly_drops c.args.core.now c.ask.new.self (arc_value c.in_ok-key.key) c.in_ok-flight.field-0 c.in-Fly.flight c.requires.idle
    c.totals.ensures.sound c.in_ok-flight.ensures.step c.in-Fly.is c.flown.new.core e)
    c.flown.ensures.drops
