use Rattle.fx_scene.specs.Scenes.{graph_shown}
use Rattle.fx_scene.proofs.WantLemmas.{IsWanting}
use Rattle.fx_scene.proofs.wanting.wants_at.Given as goal

abbrev pub invariant-loop-node_frame : goal.invariant-loop-node_frame
invariant-loop-node_frame g l =
    IsWanting g.E.ImageEffect.meaning (graph_shown l.graph) l.fn.node_frames l.node_frame-iterator l.wanted.items
