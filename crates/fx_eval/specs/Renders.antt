-- How many renders the picture of a frame takes, and what they leave of a core that keeps nothing.
use Rattle.std.specs.Prelude.{◌≡◌, ℕ, ℤ, List}
use Rattle.std.specs.List.{sum_by}
use Rattle.std.specs.BTreeSet.{BTreeSet, IsOrdered}
use Rattle.fx_base.specs.Bounds.{Bounds}
use Rattle.fx_core.specs.State.{State}
use Rattle.fx_scene.specs.Nodes.{Nodes, Node, Source, Effect}
use Rattle.fx_scene.specs.Areas.{area}
use Rattle.fx_scene.specs.Reach.{IsReach, has, node_frame_cmp}
use Rattle.fx_scene.specs.declared.reaching.NodeFrame.{NodeFrame}
use Rattle.fx_eval.specs.Cuts.{pieces}
use Rattle.fx_eval.specs.Flights.{after_renders}

-- a source takes none, and an effect one for each piece of its region of definition
abbrev pub renders_by : Node → Bounds → ℕ
renders_by (Source s) region = 0
renders_by (Effect o) region = pieces region

abbrev pub renders_at : Nodes → ℕ → ℤ → ℕ
renders_at nodes n t = renders_by (nodes n) (area nodes n t)

-- of all these nodes at frames
abbrev pub renders_of : Nodes → List NodeFrame → ℕ
renders_of nodes node_frames = sum_by (λ m. renders_at nodes m.node m.frame) node_frames

-- each node that the output reads was rendered, once at each frame at which it is read
pub record HasRendered {K V : Type 0} (nodes : Nodes) (output : ℕ) (frame : ℤ) (old new : State K V) : Type 0 where
  pub node_frames : BTreeSet NodeFrame
  pub once : IsOrdered node_frame_cmp node_frames
  pub reached : IsReach nodes output frame frame (has node_frames)
  pub core : new ≡ after_renders old (renders_of nodes node_frames.keys)
