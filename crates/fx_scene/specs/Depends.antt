-- Two runs of a graph over images that agree.
use Rattle.std.specs.Prelude.{◌≡◌, ◌≤ℤ◌, ℕ, ℤ, Option, Some, None}
use Rattle.fx_image.specs.Image.{Image, SameImage}
use Rattle.fx_effect.specs.Meaning.{Meaning}
use Rattle.fx_graph.specs.Shown.{GraphShown}
use Rattle.fx_scene.specs.Nodes.{IsFrameImage}
use Rattle.fx_scene.specs.Scenes.{Images, graph_nodes, no_images, picture}
use Rattle.fx_scene.specs.Value.{value}
use Rattle.fx_scene.specs.Wants.{IsWanted}

-- each is the image of a source's frame
abbrev pub AreImages : Images → Type 0
AreImages images = (n : ℕ) (f : ℤ) (image : Image) → images n f ≡ Some image → IsFrameImage image

-- the same image, or none in both
abbrev pub AreSame : Option Image → Option Image → Type 0
AreSame None None = Unit {0}
AreSame None (Some b) = ⊥
AreSame (Some a) None = ⊥
AreSame (Some a) (Some b) = SameImage a b

-- they have the same image of each frame that node n at the frames of a range wants
abbrev pub AgreeOnWanted : {E : Type 0} → (E → Meaning) → GraphShown E → ℕ → ℤ → ℤ → Images → Images → Type 0
AgreeOnWanted meaning g n first last a b =
    (k : ℕ) (f : ℤ) → IsWanted (graph_nodes meaning g no_images) n first last k f → AreSame (a k f) (b k f)

-- the value of a node at a frame depends on no other images
abbrev pub ValueDependsOnWanted : {E : Type 0} → (E → Meaning) → GraphShown E → Type 0
ValueDependsOnWanted meaning g =
    (n : ℕ) (first last : ℤ) (a b : Images) → AreImages a → AreImages b → AgreeOnWanted meaning g n first last a b
    → (t x y : ℤ) → first ≤ℤ t → t ≤ℤ last
    → value (graph_nodes meaning g a) n t x y ≡ value (graph_nodes meaning g b) n t x y

-- and so does no picture of a run
abbrev pub PicturesDependOnWanted : {E : Type 0} → (E → Meaning) → GraphShown E → Type 0
PicturesDependOnWanted meaning g =
    (first last : ℤ) (a b : Images) → AreImages a → AreImages b → AgreeOnWanted meaning g g.output first last a b
    → (t : ℤ) → first ≤ℤ t → t ≤ℤ last → picture meaning g a t ≡ picture meaning g b t
