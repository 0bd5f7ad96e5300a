use Rattle.fx_scene.specs.Scenes.{graph_shown}
use Rattle.fx_rows_effects.proofs.Uses.{few_shown, supported}
use Rattle.fx_rows_effects.proofs.asking.answered.Goals as goal

pub describes_in-requires : goal.describes_in-requires
describes_in-requires g c =
    let graph = c.args.graph.now in
    supported (graph_shown graph) (graph.depth, graph.components) graph.kept graph.extent
    (few_shown graph.nodes.items graph.rendered.few) c.args.node.now c.requires
