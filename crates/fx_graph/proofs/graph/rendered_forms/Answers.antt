use Rattle.std.proofs.Common.{◌≡◌, ◌∙◌, ap, map, take}
use Rattle.std.specs.Option.{option_map}
use Rattle.std.proofs.lemmas.Option.{slice_get-map}
use Rattle.fx_graph.specs.Shown.{shown, does_of}
use Rattle.fx_graph.specs.KeptLaws.{renders_node}
use Rattle.fx_graph.proofs.graph.rendered_forms.Goals as goal

pub returns : goal.returns
returns g c = λ k node is.
    let bound = g.met.E.ImageEffect in
    let graph = c.args.graph.now in
    let nodes = map shown graph.nodes.items in
    let there = slice_get-map shown graph.nodes.items k ∙ ap (option_map shown) is in
    renders_node g.E.ImageEffect.meaning (graph.depth, graph.components) (take k nodes) (node.depth, node.components) (does_of node.work) (λ e. (bound.laws e).shape) (graph.kept k (shown node) there)
