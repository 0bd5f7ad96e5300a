use Rattle.std.proofs.Common.{◌∙◌, ap, map, sym, subst}
use Rattle.fx_graph.specs.Shown.{shown}
use Rattle.fx_proxy.specs.Scaled.{AreLengths, scaled_node}
use Rattle.fx_proxy.proofs.ScaledLemmas.{item_has, more_items}
use Rattle.fx_proxy.proofs.scaling.scale_nodes.Goals as goal

pub scale_node-requires-clause-lengths : goal.scale_node-requires-clause-lengths
scale_node-requires-clause-lengths g c =
    let number = g.E.Catalogue.number_of in
    item_has number (scaled_node number c.args.q) shown c.deref_mut-node-items.result.now c.loop-node.node-items c.loop-node.node-index
    c.node-item.result c.loop-node-test.true c.loop-node.invariant
    (subst (λ items. AreLengths number (map shown items)) (sym c.deref_mut-node-items.ensures.value) c.requires.lengths)

pub loop-node-preserved : goal.loop-node-preserved
loop-node-preserved g c =
    more_items (scaled_node g.E.Catalogue.number_of c.args.q) shown c.deref_mut-node-items.result.now c.loop-node.node-items c.loop-node.node-index
    c.scale_node.new.node c.node-item.result c.loop-node-test.true c.loop-node.invariant (c.scale_node.ensures ∙ ap (λ x. scaled_node g.E.Catalogue.number_of c.args.q (shown x)) (sym c.node-item.is)) c.node-item.is
