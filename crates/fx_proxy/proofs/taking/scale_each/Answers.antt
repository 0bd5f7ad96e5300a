use Rattle.std.proofs.Common.{◌∙◌, ap, map, subst, sym}
use Rattle.std.specs.List.{AllByRecursion}
use Rattle.fx_graph.specs.Shown.{shown}
use Rattle.fx_takes.specs.Shown.{take_shown}
use Rattle.fx_proxy.specs.Scaled.{IsShownTake, scaled_take}
use Rattle.fx_proxy.proofs.ScaledLemmas.{item_all, more_items}
use Rattle.fx_proxy.proofs.taking.scale_each.Goals as goal

pub scale_take-requires-clause-take : goal.scale_take-requires-clause-take
scale_take-requires-clause-take g c =
    let nodes = map shown c.args.graph.now.nodes.items in
    item_all (IsShownTake nodes) (scaled_take g.E.Catalogue.number_of c.args.q nodes) take_shown c.deref_mut-take-items.result.now c.loop-take.take-items c.loop-take.take-index
    c.take-item.result c.loop-take-test.true c.loop-take.invariant
    (subst (λ items. AllByRecursion (IsShownTake nodes) (map take_shown items)) (sym c.deref_mut-take-items.ensures.value) c.requires.takes)

pub loop-take-preserved : goal.loop-take-preserved
loop-take-preserved g c =
    let f = scaled_take g.E.Catalogue.number_of c.args.q (map shown c.args.graph.now.nodes.items) in
    more_items f take_shown c.deref_mut-take-items.result.now c.loop-take.take-items c.loop-take.take-index
    c.scale_take.new.take c.take-item.result c.loop-take-test.true c.loop-take.invariant (c.scale_take.ensures ∙ ap (λ x. f (take_shown x)) (sym c.take-item.is)) c.take-item.is
