use Rattle.std.proofs.Common.{◌≡◌, ◌∙◌, ap, map, take}
use Rattle.std.specs.Option.{option_map}
use Rattle.std.proofs.lemmas.Option.{slice_get-map}
use Rattle.fx_graph.specs.Shown.{shown, does_of}
use Rattle.fx_graph.specs.KeptLaws.{lawful_node}
use Rattle.fx_graph.proofs.graph.lawful_values.Goals as goal

pub returns : goal.returns
returns g c = λ k node t is.
    let graph = c.args.graph.now in
    let nodes = map shown graph.nodes.items in
    let there = slice_get-map shown graph.nodes.items k ∙ ap (option_map shown) is in
    lawful_node g.E.ImageEffect.meaning (graph.depth, graph.components) (take k nodes) graph.project t (node.depth, node.components) (does_of node.work) graph.extent (graph.kept k (shown node) there)
