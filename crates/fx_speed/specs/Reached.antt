-- Which nodes a frame is asked of.
use Rattle.std.specs.Prelude.{ℤ}
use Rattle.fx_effect.specs.Meaning.{Meaning}
use Rattle.fx_scene.specs.Sites.{scene_nodes}
use Rattle.fx_scene.specs.Reach.{IsReached}
use Rattle.fx_scene.specs.Scenes.{Shot}
use Rattle.fx_scene.specs.declared.reaching.NodeFrame.{NodeFrame}

-- the node is reached at its frame from the output at a frame
abbrev pub IsReachedAt : {E : Type 0} → (E → Meaning) → Shot E → ℤ → NodeFrame → Type 0
IsReachedAt meaning scene at m = IsReached (scene_nodes meaning scene) scene.graph.output at at m.node m.frame
