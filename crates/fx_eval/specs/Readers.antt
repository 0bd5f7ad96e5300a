-- The last that reads each node at a frame.
use Rattle.std.specs.Prelude.{◌≡◌, ◌⊎◌, ℕ, ℤ, Some, None, true, IsSome}
use Rattle.std.specs.declared.cmp.Ordering.TheVariants.{Less}
use Rattle.std.specs.BTreeMap.{BTreeMap, get}
use Rattle.std.specs.BTreeSet.{BTreeSet}
use Rattle.fx_scene.specs.Nodes.{Nodes}
use Rattle.fx_scene.specs.Reach.{IsReadBy, has, node_frame, node_frame_cmp}
use Rattle.fx_scene.specs.declared.reaching.NodeFrame.{NodeFrame}
use Rattle.fx_eval.specs.declared.whole.Whole.{Whole}

-- what is told of a node at a frame is this one or one after it
pub record IsNoEarlier (last : BTreeMap NodeFrame NodeFrame) (read reader : NodeFrame) : Type 0 where
  pub by : NodeFrame
  pub there : get node_frame_cmp last read ≡ Some by
  pub later : node_frame_cmp by reader ≡ Less → ⊥

-- of each that these nodes at frames read, the last of them that reads it
pub record AreLast (nodes : Nodes) (node_frames : BTreeSet NodeFrame) (last : BTreeMap NodeFrame NodeFrame)
    : Type 0 where
  pub all :
      (n : ℕ) (t : ℤ) → has node_frames n t ≡ true → (m : ℕ) (f : ℤ) → IsReadBy (nodes n) t m f
      → IsNoEarlier last (node_frame m f) (node_frame n t)
  pub only :
      (read by : NodeFrame) → get node_frame_cmp last read ≡ Some by
      → (has node_frames by.node by.frame ≡ true) × IsReadBy (nodes by.node) by.frame read.node read.frame

-- ---- on the way there

-- this reader is told of the nodes at frames of S
pub record Marks (S : ℕ → ℤ → Type 0) (reader : NodeFrame) (old new : BTreeMap NodeFrame NodeFrame) : Type 0 where
  pub all : (m : ℕ) (f : ℤ) → S m f → get node_frame_cmp new (node_frame m f) ≡ Some reader
  pub only :
      (m : ℕ) (f : ℤ) → (get node_frame_cmp new (node_frame m f) ≡ get node_frame_cmp old (node_frame m f))
      ⊎ ((get node_frame_cmp new (node_frame m f) ≡ Some reader) × S m f)

-- none is let go but those that this node at a frame reads last
abbrev pub LetsGo :
    BTreeMap NodeFrame NodeFrame → NodeFrame → BTreeMap NodeFrame Whole → BTreeMap NodeFrame Whole → Type 0
LetsGo last reader old new =
    (m : NodeFrame) → (get node_frame_cmp new m ≡ get node_frame_cmp old m)
    ⊎ ((get node_frame_cmp last m ≡ Some reader) × (get node_frame_cmp new m ≡ None))

-- a node at a frame is made, and what it reads last is let go
pub record Makes (last : BTreeMap NodeFrame NodeFrame) (m : NodeFrame) (old new : BTreeMap NodeFrame Whole)
    : Type 0 where
  pub here : (get node_frame_cmp last m ≡ Some m → ⊥) → IsSome (get node_frame_cmp new m)
  pub keeps :
      (k : NodeFrame) → (get node_frame_cmp last k ≡ Some m → ⊥) → IsSome (get node_frame_cmp old k)
      → IsSome (get node_frame_cmp new k)
