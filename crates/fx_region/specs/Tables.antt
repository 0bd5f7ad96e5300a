-- Tables of the regions of definition of nodes at frames.
use Rattle.std.specs.Prelude.{◌≡◌, ℕ, ℤ, List, map, length, Option, Some, None, IsSome, All, true}
use Rattle.std.specs.List.{range_with_len}
use Rattle.std.specs.Option.{option_map}
use Rattle.std.specs.BTreeMap.{get}
use Rattle.std.specs.BTreeSet.{BTreeSet}
use Rattle.std.specs.declared.alloc.Global.{Global}
use Rattle.std.specs.declared.vec.Vec.{Vec}
use Rattle.fx_base.specs.Bounds.{Bounds}
use Rattle.fx_effect.specs.Meaning.{Meaning}
use Rattle.fx_scene.specs.declared.reaching.NodeFrame.{NodeFrame}
use Rattle.fx_scene.specs.Areas.{area}
use Rattle.fx_scene.specs.Nodes.{Effect, EffectNode, Node, Nodes, Source}
use Rattle.fx_scene.specs.Reach.{IsPlace, IsReached, IsReadBy, has, node_frame, node_frame_cmp}
use Rattle.fx_scene.specs.Scenes.{Shot}
use Rattle.fx_scene.specs.Sites.{AreReads, scene_nodes}
use Rattle.fx_region.specs.declared.regions.Asked.{Asked}
use Rattle.fx_region.specs.declared.regions.Reached.{Reached}
use Rattle.fx_region.specs.declared.regions.Regions.{Regions}

-- what the table has of a node at a frame
abbrev pub known : Regions → ℕ → ℤ → Option Reached
known regions n t = get node_frame_cmp regions.reached (node_frame n t)

-- the region of a node at a frame, where the table has it
abbrev pub look : Regions → ℕ → ℤ → Option Bounds
look regions n t = option_map (λ r. r.area) (known regions n t)

-- the node is reached at the frame
abbrev pub Has : Regions → ℕ → ℤ → Type 0
Has regions n t = IsSome (known regions n t)

-- each region is the node's area at the frame
abbrev pub AreAreas : Nodes → Regions → Type 0
AreAreas nodes regions = (n : ℕ) (t : ℤ) (r : Bounds) → look regions n t ≡ Some r → r ≡ area nodes n t

-- how a node is asked at a frame: an effect with its values there, for the frames that it reads
abbrev pub IsAskedSo : Node → ℤ → Option Asked → Type 0
IsAskedSo (Source s) t asked = Unit {0}
IsAskedSo (Effect o) t None = ⊥
IsAskedSo (Effect o) t (Some asked) = (asked.values ≡ o.values t) × AreReads o t asked.reads.items

-- each node is asked so
abbrev pub AreAskedSo : Nodes → Regions → Type 0
AreAskedSo nodes regions = (n : ℕ) (t : ℤ) (r : Reached) → known regions n t ≡ Some r → IsAskedSo (nodes n) t r.asked

-- The regions of these nodes, so many of them, at the frames at which they are reached from the output at one frame:
-- exactly these, each the node's area, with how its node is asked there. The frames are near.
pub record AreRegions (nodes : Nodes) (count output : ℕ) (at : ℤ) (regions : Regions) : Type 0 where
  pub right : AreAreas nodes regions
  pub asked : AreAskedSo nodes regions
  pub all : (n : ℕ) (t : ℤ) → IsReached nodes output at at n t → Has regions n t
  pub only : (n : ℕ) (t : ℤ) → Has regions n t → IsReached nodes output at at n t
  pub places : (n : ℕ) (t : ℤ) → Has regions n t → IsPlace count n t

-- the regions were made of this scene, at some frame
pub record IsMadeOf {E : Type 0} (meaning : E → Meaning) (scene : Shot E) (regions : Regions) : Type 0 where
  pub at : ℤ
  pub are : AreRegions (scene_nodes meaning scene) (length scene.graph.nodes) scene.graph.output at regions

-- ---- in code

-- all that a node reads at a frame is there
abbrev pub HasReads : Regions → Node → ℤ → Type 0
HasReads regions node t = (m : ℕ) (f : ℤ) → IsReadBy node t m f → Has regions m f

-- each region is the node's area, at near places, and with a node the table has how it is asked and all that it reads
pub record IsTable (nodes : Nodes) (count : ℕ) (regions : Regions) : Type 0 where
  pub right : AreAreas nodes regions
  pub asked : AreAskedSo nodes regions
  pub reads : (n : ℕ) (t : ℤ) → Has regions n t → HasReads regions (nodes n) t
  pub places : (n : ℕ) (t : ℤ) → Has regions n t → IsPlace count n t

-- near places, with all that is read at them
pub record IsOrder (nodes : Nodes) (count : ℕ) (node_frames : BTreeSet NodeFrame) : Type 0 where
  pub places : (n : ℕ) (t : ℤ) → has node_frames n t ≡ true → IsPlace count n t
  pub reads :
      (n : ℕ) (t : ℤ) → has node_frames n t ≡ true → (m : ℕ) (f : ℤ) → IsReadBy (nodes n) t m f
      → has node_frames m f ≡ true

-- exactly these nodes at frames, each with its node's area and with how it is asked
pub record AreAreasOf (nodes : Nodes) (node_frames : BTreeSet NodeFrame) (regions : Regions) : Type 0 where
  pub right : AreAreas nodes regions
  pub asked : AreAskedSo nodes regions
  pub all : (n : ℕ) (t : ℤ) → has node_frames n t ≡ true → Has regions n t
  pub only : (n : ℕ) (t : ℤ) → Has regions n t → has node_frames n t ≡ true

-- for each clip the effect's region of interest for a region
abbrev pub IsInterest : EffectNode → ℤ → Bounds → List Bounds → Type 0
IsInterest o t r interest = interest ≡ map (o.meaning.roi (o.values t) r) (range_with_len 0 (length o.clips))

-- the node of a clip is there at these frames
abbrev pub HasClip : Regions → Option ℕ → List ℤ → Type 0
HasClip regions None frames = Unit {0}
HasClip regions (Some m) frames = All (Has regions m) frames
