-- Where regions end and what they need, over images of which those that are wanted agree.
use Rattle.std.specs.Prelude.{◌≡◌, ℕ, ℤ}
use Rattle.fx_base.specs.Bounds.{Bounds}
use Rattle.fx_effect.specs.Meaning.{Meaning}
use Rattle.fx_graph.specs.Shown.{GraphShown}
use Rattle.fx_region.specs.Ends.{end_of}
use Rattle.fx_region.specs.Needs.{needs_of}
use Rattle.fx_scene.specs.Depends.{AgreeOnWanted, AreImages}
use Rattle.fx_scene.specs.Reach.{IsReached}
use Rattle.fx_scene.specs.Scenes.{Images, graph_nodes, no_images}

-- over two lists of images regions of what is reached at a frame end alike, and need the same
abbrev pub SameEnds : {E : Type 0} → (E → Meaning) → GraphShown E → ℤ → Images → Images → Type 0
SameEnds meaning g t a b =
    (n : ℕ) (u : ℤ) (r : Bounds) → IsReached (graph_nodes meaning g no_images) g.output t t n u
    → (end_of (graph_nodes meaning g a) n u r ≡ end_of (graph_nodes meaning g b) n u r)
    × ((side : ℕ) → needs_of (graph_nodes meaning g a) side n u r ≡ needs_of (graph_nodes meaning g b) side n u r)

-- and so they do where the wanted ones agree
abbrev pub EndsAgree : {E : Type 0} → (E → Meaning) → GraphShown E → Type 0
EndsAgree meaning g =
    (a b : Images) (t : ℤ) → AreImages a → AreImages b → AgreeOnWanted meaning g g.output t t a b
    → SameEnds meaning g t a b
