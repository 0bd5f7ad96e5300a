-- What a proxy leaves as it is: the frames that are needed, and at the whole size all of it.
use Rattle.std.specs.Prelude.{◌≡◌, ◌↔◌, ℕ, ℤ, List, map, Some}
use Rattle.fx_effect.specs.Meaning.{Meaning}
use Rattle.fx_graph.specs.Shown.{GraphShown}
use Rattle.fx_image.specs.Image.{Image, PixelsFit}
use Rattle.fx_scene.specs.Depends.{AreSame}
use Rattle.fx_scene.specs.Scenes.{Images, graph_nodes, no_images}
use Rattle.fx_scene.specs.Uses.{wanting}
use Rattle.fx_scene.specs.Wants.{IsWanted}
use Rattle.fx_scene.specs.declared.take.Edit.{Edit}
use Rattle.fx_takes.specs.Shown.{edit_shown}
use Rattle.fx_proxy.specs.Proxy.{Rendered}
use Rattle.fx_proxy.specs.Reduced.{IsWhole}
use Rattle.fx_proxy.specs.Scaled.{scaled_edit, scaled_graph}

-- a node at the frames of a range wants the same frames of the same sources
abbrev pub WantsSame : {E : Type 0} → (E → Meaning) → (E → ℕ) → GraphShown E → ℕ → Type 0
WantsSame meaning number g q =
    (n : ℕ) (first last : ℤ) (k : ℕ) (f : ℤ)
    → IsWanted (graph_nodes meaning (scaled_graph number q g) no_images) n first last k f
    ↔ IsWanted (graph_nodes meaning g no_images) n first last k f

-- these are the edits of takes, scaled
abbrev pub AreScaledEdits : {E : Type 0} → (E → ℕ) → GraphShown E → ℕ → List (List Edit) → List (List Edit) → Type 0
AreScaledEdits number g q edits small =
    map (map edit_shown) small ≡ map (map (scaled_edit number q g.nodes)) (map (map edit_shown) edits)

-- and so does each moment of a run with takes
abbrev pub MomentsWantSame : {E : Type 0} → (E → Meaning) → (E → ℕ) → GraphShown E → ℕ → Type 0
MomentsWantSame meaning number g q =
    (edits small : List (List Edit)) → AreScaledEdits number g q edits small
    → (first count j n : ℕ) (f : ℤ)
    → wanting meaning (scaled_graph number q g) small first count j n f ↔ wanting meaning g edits first count j n f

-- each image starts at (0, 0), isn't empty, and has pixels of its depth and components
abbrev pub AreWhole : Images → Type 0
AreWhole images =
    (n : ℕ) (f : ℤ) (image : Image) → images n f ≡ Some image → IsWhole image.rect × PixelsFit image

-- the same graph and takes, and the same images
pub record SameRendered {E : Type 0} (a b : Rendered E) : Type 0 where
  pub graph : a.graph ≡ b.graph
  pub takes : a.takes ≡ b.takes
  pub images : (n : ℕ) (f : ℤ) → AreSame (a.images n f) (b.images n f)
