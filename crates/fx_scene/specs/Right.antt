-- Which image may be kept under a key, of a graph with its takes.
use Rattle.std.specs.Prelude.{◌≡◌, ◌≤◌, ℕ, ℤ, List, length, Option, Some, IsSome}
use Rattle.fx_base.specs.Bounds.{Bounds}
use Rattle.fx_base.specs.Rect.{Holds}
use Rattle.fx_image.specs.Image.{Image}
use Rattle.fx_image.specs.Stored.{Stored, shown}
use Rattle.fx_effect.specs.Meaning.{Meaning}
use Rattle.fx_graph.specs.Shown.{GraphShown}
use Rattle.fx_scene.specs.declared.key.Key.{Key}
use Rattle.fx_scene.specs.Depends.{AreImages}
use Rattle.fx_scene.specs.Nodes.{Nodes, components_at, depth_at}
use Rattle.fx_scene.specs.Scenes.{Images, graph_nodes, no_images, node_values}
use Rattle.fx_scene.specs.Value.{value}
use Rattle.fx_scene.specs.Wants.{IsWanted}
use Rattle.fx_scene.specs.declared.take.Edit.{Edit}
use Rattle.fx_scene.specs.Takes.{era, graph_of_take}

-- the image of a region of a node at a frame
pub record IsTile (nodes : Nodes) (node : ℕ) (frame : ℤ) (region : Bounds) (image : Stored) : Type 0 where
  pub rect : image.rect ≡ region
  pub depth : image.depth ≡ depth_at nodes node
  pub components : image.components ≡ components_at nodes node
  pub pixels : (x y : ℤ) → Holds region x y → shown image x y ≡ value nodes node frame x y

-- the images have each frame that the node wants at the frame
abbrev pub HasWanted : {E : Type 0} → (E → Meaning) → GraphShown E → Images → ℕ → ℤ → Type 0
HasWanted meaning g images node frame =
    (k : ℕ) (f : ℤ) → IsWanted (graph_nodes meaning g no_images) node frame frame k f → IsSome (images k f)

-- by the graph of one take
pub record IsRightAt {E : Type 0} (meaning : E → Meaning) (g : GraphShown E) (images : Images) (key : Key)
    (image : Stored) : Type 0 where
  pub values : key.values ≡ node_values g key.node key.frame
  pub fetched : HasWanted meaning g images key.node key.frame
  pub tile : IsTile (graph_nodes meaning g images) key.node key.frame key.region image

-- A right tile: some take has the key's era of its node, and at each such take the image is that of the key's region of
-- the node at its frame, the key has the values that the node is asked with there, and all that it wants was fetched
pub record IsRightTile {E : Type 0} (meaning : E → Meaning) (g : GraphShown E) (takes : List (List Edit))
    (images : Images) (key : Key) (image : Stored) : Type 0 where
  pub some : (k : ℕ) × (k ≤ length takes) × (era g.nodes takes k key.node ≡ key.era)
  pub each : (k : ℕ) → k ≤ length takes → era g.nodes takes k key.node ≡ key.era
      → IsRightAt meaning (graph_of_take g takes k) images key image

-- the second has each image that the first has
abbrev pub HasGrown : Images → Images → Type 0
HasGrown old new = (n : ℕ) (f : ℤ) (image : Image) → old n f ≡ Some image → new n f ≡ Some image

-- right at one take is right
abbrev pub RightByOne : {E : Type 0} → (E → Meaning) → GraphShown E → List (List Edit) → Type 0
RightByOne meaning g takes =
    (images : Images) (k : ℕ) (key : Key) (image : Stored) → AreImages images → k ≤ length takes
    → era g.nodes takes k key.node ≡ key.era → IsRightAt meaning (graph_of_take g takes k) images key image
    → IsRightTile meaning g takes images key image

-- a right tile stays right where more was fetched
abbrev pub RightStays : {E : Type 0} → (E → Meaning) → GraphShown E → List (List Edit) → Type 0
RightStays meaning g takes =
    (old new : Images) (key : Key) (image : Stored) → AreImages old → AreImages new → HasGrown old new
    → IsRightTile meaning g takes old key image → IsRightTile meaning g takes new key image
