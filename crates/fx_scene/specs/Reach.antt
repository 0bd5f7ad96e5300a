-- Which nodes are reached at which frames from the output: the least set that has the output's, and with an effect at
-- a frame each connected clip's node at each frame of its spans (OpenFX 1.4, kOfxImageEffectActionGetFramesNeeded).
use Rattle.std.specs.Prelude.{◌≡◌, ◌<◌, ◌⊎◌, ◌+◌, ◌-◌, ◌*◌, ℕ, ℤ, pos, neg_ℤ, ◌≤ℤ◌, Bool, true, List, [], length, slice_index_or, Option, Some, None}
use Rattle.std.specs.declared.cmp.Ordering.{Ordering}
use Rattle.std.specs.Ordering.{nat_cmp, int_cmp, ordering_then}
use Rattle.std.specs.BTreeSet.{BTreeSet, contains}
use Rattle.fx_base.specs.declared.limits.TheConstants.{MOST_NODES}
use Rattle.fx_scene.specs.Nodes.{Node, Nodes, Source, Effect, EffectNode, clip_node}
use Rattle.fx_scene.specs.Frames.{has_frame, in_some}
use Rattle.fx_scene.specs.declared.reaching.NodeFrame.{NodeFrame}

-- a set of nodes at frames
abbrev pub NodeFrames : Type 0
NodeFrames = ℕ → ℤ → Bool

-- node m at frame f is what a clip of the effect needs at t
pub record IsTakenBy (o : EffectNode) (t : ℤ) (m : ℕ) (f : ℤ) : Type 0 where
  pub clip : ℕ
  pub node : clip_node o clip ≡ Some m
  pub frame : in_some (o.meaning.spans (o.values t) clip) f ≡ true

-- node m at frame f is what a node reads at t
abbrev pub IsReadBy : Node → ℤ → ℕ → ℤ → Type 0
IsReadBy (Source s) t m f = ⊥
IsReadBy (Effect o) t m f = IsTakenBy o t m f

-- the set has the output at each frame of the range, and what its members read
pub record IsClosed (nodes : Nodes) (output : ℕ) (first last : ℤ) (s : NodeFrames) : Type 0 where
  pub start : (t : ℤ) → first ≤ℤ t → t ≤ℤ last → s output t ≡ true
  pub reads : (n : ℕ) (t : ℤ) → s n t ≡ true → (m : ℕ) (f : ℤ) → IsReadBy (nodes n) t m f → s m f ≡ true

-- it is in every such set
abbrev pub IsReached : Nodes → ℕ → ℤ → ℤ → ℕ → ℤ → Type 0
IsReached nodes output first last n t = (s : NodeFrames) → IsClosed nodes output first last s → s n t ≡ true

-- the set is the least one
pub record IsReach (nodes : Nodes) (output : ℕ) (first last : ℤ) (s : NodeFrames) : Type 0 where
  pub all : (n : ℕ) (t : ℤ) → IsReached nodes output first last n t → s n t ≡ true
  pub only : (n : ℕ) (t : ℤ) → s n t ≡ true → IsReached nodes output first last n t

-- ---- as a set in order

-- by node, then by frame
abbrev pub node_frame_cmp : NodeFrame → NodeFrame → Ordering
node_frame_cmp a b = ordering_then (nat_cmp a.node b.node) (int_cmp a.frame b.frame)

abbrev pub node_frame : ℕ → ℤ → NodeFrame
node_frame n t = record { node = n; frame = t }

-- the nodes at frames that the set has
abbrev pub has : BTreeSet NodeFrame → NodeFrames
has node_frames n t = contains node_frame_cmp node_frames (node_frame n t)

-- frames of node n lie so near that those of the nodes before it do too
pub record IsNearFrame (n : ℕ) (t : ℤ) : Type 0 where
  pub low : neg_ℤ (pos (1000000 + 100000 * (MOST_NODES - n))) ≤ℤ t
  pub high : t ≤ℤ pos (1000000 + 100000 * (MOST_NODES - n))

-- a node of the list, at a near frame
pub record IsPlace (count n : ℕ) (t : ℤ) : Type 0 where
  pub there : n < count
  pub near : IsNearFrame n t

-- the first clips read these frames, and node m at frame f is one of what they read
pub record IsClipRead (clips : List (Option ℕ)) (reads : List (List ℤ)) (m : ℕ) (f : ℤ) : Type 0 where
  pub clip : ℕ
  pub there : clip < length reads
  pub node : slice_index_or clips clip None ≡ Some m
  pub frame : has_frame (slice_index_or reads clip []) f ≡ true

-- what is added to a set of nodes at frames
pub record Adds (S : ℕ → ℤ → Type 0) (old new : BTreeSet NodeFrame) : Type 0 where
  pub keeps : (n : ℕ) (t : ℤ) → has old n t ≡ true → has new n t ≡ true
  pub only : (n : ℕ) (t : ℤ) → has new n t ≡ true → (has old n t ≡ true) ⊎ S n t
  pub all : (n : ℕ) (t : ℤ) → S n t → has new n t ≡ true
