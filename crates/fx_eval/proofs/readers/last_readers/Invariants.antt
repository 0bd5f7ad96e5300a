use Rattle.fx_scene.specs.Scenes.{graph_nodes, graph_shown, no_images}
use Rattle.fx_eval.proofs.ReaderLemmas.{IsMarking}
use Rattle.fx_eval.proofs.readers.last_readers.Given as goal

abbrev pub invariant-loop-node_frame : goal.invariant-loop-node_frame
invariant-loop-node_frame g l =
    IsMarking (graph_nodes g.E.ImageEffect.meaning (graph_shown l.graph) no_images) l.node_frames l.node_frame-iterator l.last
