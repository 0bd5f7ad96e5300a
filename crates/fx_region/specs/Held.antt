-- Where regions end and what they need, over what is held of all that was fetched.
use Rattle.std.specs.Prelude.{◌≡◌, ℕ, ℤ, true}
use Rattle.fx_base.specs.Bounds.{Bounds}
use Rattle.fx_effect.specs.Meaning.{Meaning}
use Rattle.fx_graph.specs.Shown.{GraphShown}
use Rattle.fx_scene.specs.Depends.{AreImages}
use Rattle.fx_scene.specs.Reach.{IsClosed, IsReached, NodeFrames}
use Rattle.fx_scene.specs.Scenes.{Images, graph_nodes, no_images}
use Rattle.fx_region.specs.Ends.{EndShown, Frame, Render, Void, end_of}
use Rattle.fx_region.specs.Needs.{needs_of}
use Rattle.fx_scene.specs.Right.{HasGrown, HasWanted}

abbrev pub EndsStay : {E : Type 0} → (E → Meaning) → GraphShown E → Type 0
EndsStay meaning g =
    (held all : Images) (t : ℤ) → AreImages held → AreImages all → HasGrown held all
    → HasWanted meaning g held g.output t
    → (n : ℕ) (u : ℤ) (r : Bounds) → IsReached (graph_nodes meaning g no_images) g.output t t n u
    → (end_of (graph_nodes meaning g held) n u r ≡ end_of (graph_nodes meaning g all) n u r)
    × ((side : ℕ) → needs_of (graph_nodes meaning g held) side n u r ≡ needs_of (graph_nodes meaning g all) side n u r)

-- an end that is a render is of a node and frame of the set
abbrev pub EndIn : NodeFrames → EndShown → Type 0
EndIn s Void = Unit {0}
EndIn s (Frame node frame region through) = Unit {0}
EndIn s (Render node frame region cut through) = s node frame ≡ true

-- a region of what is reached ends in what is reached
abbrev pub EndsReached : {E : Type 0} → (E → Meaning) → GraphShown E → Type 0
EndsReached meaning g =
    (held : Images) (t : ℤ) → AreImages held → (n : ℕ) (u : ℤ) (r : Bounds)
    → IsReached (graph_nodes meaning g no_images) g.output t t n u
    → (s : NodeFrames) → IsClosed (graph_nodes meaning g no_images) g.output t t s
    → EndIn s (end_of (graph_nodes meaning g held) n u r)
