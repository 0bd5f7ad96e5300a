use Rattle.std.proofs.Common.{◌∙◌, rules}
use Rattle.fx_scene.specs.Scenes.{graph_shown}
use Rattle.fx_rows_effects.proofs.SmallWindows.{small_row}
use Rattle.fx_rows_effects.proofs.Uses.{few_shown, may, supported}
use Rattle.fx_rows_effects.proofs.asking.rendered.Goals as goal

pub new-requires-clause-rows_fit : goal.new-requires-clause-rows_fit
new-requires-clause-rows_fit g c =
    small_row c.rect-window.result c.args.node.now.depth c.args.node.now.components c.rect-window.ensures

pub lived-requires-clause-supported : goal.lived-requires-clause-supported
lived-requires-clause-supported g c =
    let graph = c.args.graph.now in
    supported (graph_shown graph) (graph.depth, graph.components) graph.kept graph.extent
    (few_shown graph.nodes.items graph.rendered.few) c.args.node.now c.requires

pub lived-requires-clause-may : goal.lived-requires-clause-may
lived-requires-clause-may g c =
    let graph = c.args.graph.now in
    let node = c.args.node.now in
    let image = c.part-part.result.image.now in
    may (graph_shown graph) (graph.depth, graph.components) graph.kept graph.extent
    (few_shown graph.nodes.items graph.rendered.few) node c.requires image.depth image.components c.in_ok-values.values
    c.in_ok-inputs.inputs (search rules) (search rules) c.in_ok-values.ensures c.in_ok-inputs.ensures.depth
    (c.in_ok-inputs.ensures.shown ∙ c.as_slice.ensures.value ∙ c.in_ok-shown.ensures)
