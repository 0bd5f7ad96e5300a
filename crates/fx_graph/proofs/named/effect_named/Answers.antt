use Rattle.std.proofs.Common.{◌∙◌, sym}
use Rattle.fx_graph.proofs.NamedLaws.{named_effect}
use Rattle.fx_graph.proofs.named.effect_named.Goals as goal

pub returns-in-Some : goal.returns-in-Some
returns-in-Some g c =
    let e = rw c.deref.ensures.value at c.effect_place.ensures in
    sym c.in-Some.is ∙ e ∙ named_effect c.args.graph.now.nodes.items c.args.name.now

pub returns-in-None : goal.returns-in-None
returns-in-None g c =
    let e = rw c.deref.ensures.value at c.effect_place.ensures in
    sym c.in-None.is ∙ e ∙ named_effect c.args.graph.now.nodes.items c.args.name.now
