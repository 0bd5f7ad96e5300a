-- Images that together are a node at a frame, and which of them are kept.
use Rattle.std.specs.Prelude.{◌≡◌, ℕ, ℤ, List, map, Option, Some, true, All, IsSome}
use Rattle.std.specs.Arc.{arc_value}
use Rattle.std.specs.BTreeMap.{BTreeMap, get}
use Rattle.std.specs.BTreeSet.{BTreeSet}
use Rattle.fx_base.specs.Bounds.{Bounds}
use Rattle.fx_base.specs.Rect.{Holds}
use Rattle.fx_image.specs.Stored.{Stored, shown}
use Rattle.fx_scene.specs.Nodes.{Nodes, Node, Source, Effect, depth_at, components_at}
use Rattle.fx_scene.specs.Value.{value}
use Rattle.fx_scene.specs.Areas.{area}
use Rattle.fx_scene.specs.Reach.{IsReadBy, IsPlace, has, node_frame, node_frame_cmp}
use Rattle.fx_scene.specs.declared.reaching.NodeFrame.{NodeFrame}
use Rattle.fx_eval.specs.Cuts.{Cover, IsCut}
use Rattle.fx_eval.specs.declared.whole.Whole.{Whole}

-- an image of a part of a node at a frame
pub record IsImageOf (nodes : Nodes) (node : ℕ) (frame : ℤ) (image : Stored) : Type 0 where
  pub depth : image.depth ≡ depth_at nodes node
  pub components : image.components ≡ components_at nodes node
  pub pixels : (x y : ℤ) → Holds image.rect x y → shown image x y ≡ value nodes node frame x y

abbrev pub rect_of : Stored → Bounds
rect_of image = image.rect

-- the images of what was made
abbrev pub images_made : Whole → List Stored
images_made w = map arc_value w.images.items

-- the frame of a source is held where it is, and an effect's images together have its region
abbrev pub HasRegion : Node → Bounds → List Stored → Type 0
HasRegion (Source s) a images = Unit {0}
HasRegion (Effect o) a images = Cover (map rect_of images) a

-- the region of definition of a node at a frame, and images of it in pieces
pub record IsWhole (nodes : Nodes) (n : ℕ) (t : ℤ) (w : Whole) : Type 0 where
  pub area_is : w.area ≡ area nodes n t
  pub right : All (IsImageOf nodes n t) (images_made w)
  pub small : All IsCut (map rect_of (images_made w))
  pub covers : HasRegion (nodes n) w.area (images_made w)

-- ---- what is kept

-- of a node at a frame
abbrev pub look : BTreeMap NodeFrame Whole → ℕ → ℤ → Option Whole
look made n t = get node_frame_cmp made (node_frame n t)

abbrev pub IsMade : BTreeMap NodeFrame Whole → ℕ → ℤ → Type 0
IsMade made n t = IsSome (look made n t)

-- each is the whole of its node at its frame
abbrev pub AreWhole : Nodes → BTreeMap NodeFrame Whole → Type 0
AreWhole nodes made = (n : ℕ) (t : ℤ) (w : Whole) → look made n t ≡ Some w → IsWhole nodes n t w

-- all that a node reads at a frame is kept
abbrev pub IsReady : Node → ℤ → BTreeMap NodeFrame Whole → Type 0
IsReady node t made = (m : ℕ) (f : ℤ) → IsReadBy node t m f → IsMade made m f

-- near places, with all that is read at them
pub record IsOrder (nodes : Nodes) (count : ℕ) (node_frames : BTreeSet NodeFrame) : Type 0 where
  pub places : (n : ℕ) (t : ℤ) → has node_frames n t ≡ true → IsPlace count n t
  pub reads :
      (n : ℕ) (t : ℤ) → has node_frames n t ≡ true → (m : ℕ) (f : ℤ) → IsReadBy (nodes n) t m f
      → has node_frames m f ≡ true

-- each of them that none of them reads is kept
abbrev pub KeepsUnread : Nodes → BTreeSet NodeFrame → BTreeMap NodeFrame Whole → Type 0
KeepsUnread nodes node_frames made =
    (m : ℕ) (f : ℤ) → has node_frames m f ≡ true
    → ((n : ℕ) (t : ℤ) → has node_frames n t ≡ true → IsReadBy (nodes n) t m f → ⊥) → IsMade made m f
