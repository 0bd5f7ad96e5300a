-- Scenes as lists of nodes, and nodes in their places of a graph.
use Rattle.std.specs.Prelude.{◌≡◌, ◌≤◌, ℕ, ℤ, List, map, length, Bool, Option, Some, None, slice_get, if◌then◌else◌}
use Rattle.std.specs.List.{range_with_len}
use Rattle.std.specs.declared.alloc.Global.{Global}
use Rattle.std.specs.declared.vec.Vec.{Vec}
use Rattle.fx_base.specs.Bounds.{Bounds, none}
use Rattle.fx_pixel.specs.declared.Components.{Components}
use Rattle.fx_pixel.specs.declared.Components.TheVariants as components
use Rattle.fx_image.specs.Stored.{Stored}
use Rattle.fx_effect.specs.Given.{Given}
use Rattle.fx_effect.specs.Meaning.{Meaning}
use Rattle.fx_effect.specs.declared.values.Values.{Values}
use Rattle.fx_seq.specs.declared.store.Store.{Store}
use Rattle.fx_graph.specs.declared.graph.Graph.{Graph}
use Rattle.fx_graph.specs.Kept.{use_values}
use Rattle.fx_graph.specs.Shown.{Does, Shown, GraphShown}
use Rattle.fx_graph.specs.Shown as does
use Rattle.fx_scene.specs.Frames.{clip_frames, items_of}
use Rattle.fx_scene.specs.Nodes.{Nodes, SourceFrames}
use Rattle.fx_scene.specs.Nodes as nodes
use Rattle.fx_scene.specs.Reach.{IsNearFrame}
use Rattle.fx_scene.specs.Scenes.{Images, Shot, graph_shown, graph_nodes, images_in, effect_node, source_node}
use Rattle.fx_scene.specs.declared.site.Site.{Site}
use Rattle.fx_scene.specs.declared.site.EffectNode.{EffectNode}
use Rattle.fx_scene.specs.declared.site.NodeAt.{NodeAt}
use Rattle.fx_scene.specs.declared.site.NodeAt.TheVariants as at
use Rattle.fx_scene.specs.declared.site.SourceNode.{SourceNode}

-- the nodes of a scene
abbrev pub scene_nodes : {E : Type 0} → (E → Meaning) → Shot E → Nodes
scene_nodes meaning scene = graph_nodes meaning scene.graph (images_in scene.store)

-- the same of a graph over the frames of its sources
abbrev pub nodes_over : {E : Type 0} {c e : _} → (E → Meaning) → Graph E c e → Store → Nodes
nodes_over meaning graph store = graph_nodes meaning (graph_shown graph) (images_in store)

abbrev pub site_nodes : {E : Type 0} {c e : _} → (E → Meaning) → Site E c e → Nodes
site_nodes meaning site = nodes_over meaning site.graph.now site.store.now

-- ---- an effect in its place

abbrev pub does_by : {E : Type 0} → EffectNode E → Does E
does_by n =
    does.Effect n.effect.now n.context n.clips.now n.names.now n.optional.now n.masks.now n.params.now

-- it is the node at its place of the graph
pub record StandsIn {E : Type 0} (g : GraphShown E) (n : EffectNode E) : Type 0 where
  pub node : Shown E
  pub there : slice_get g.nodes n.place ≡ Some node
  pub depth : node.depth ≡ n.depth
  pub components : node.components ≡ n.components
  pub does : node.does ≡ does_by n

-- a source that is the node at a place of the graph
pub record IsSourceAt {E : Type 0} (g : GraphShown E) (place : ℕ) (s : SourceNode) : Type 0 where
  pub node : Shown E
  pub there : slice_get g.nodes place ≡ Some node
  pub depth : node.depth ≡ s.depth
  pub components : node.components ≡ s.components
  pub pattern : List ℕ
  pub does : node.does ≡ does.Source pattern s.first s.last s.hold
  pub order : s.first ≤ s.last

-- it is the node at the place
abbrev pub StandsAt : {E : Type 0} → GraphShown E → ℕ → NodeAt E → Type 0
StandsAt g place (at.Source s) = IsSourceAt g place s
StandsAt g place (at.Effect n) = (n.place ≡ place) × StandsIn g n

-- the effect in a project of this extent
abbrev pub effect_at : {E : Type 0} → (E → Meaning) → Bounds → EffectNode E → nodes.EffectNode
effect_at meaning project n =
    effect_node (meaning n.effect.now) project n.depth n.components n.context n.clips.now n.params.now

-- for each clip the frames that are read of it
abbrev pub AreReads : nodes.EffectNode → ℤ → List (Vec ℤ Global) → Type 0
AreReads o t reads = map items_of reads ≡ map (clip_frames o t) (range_with_len 0 (length o.clips))

-- the components in which a clip is seen that is a mask or not
abbrev pub seen_in : Components → Bool → Components
seen_in c mask = if mask then components.Alpha else c

-- it is asked with these values, and reads what these inputs give
pub record IsAsked {E : Type 0} (g : GraphShown E) (n : EffectNode E) (v : Values) (given : Given) : Type 0 where
  pub there : StandsIn g n
  pub near : IsNearFrame n.place v.frame
  pub values : v ≡ use_values g.project v.frame n.clips.now n.params.now
  pub depth : given.depth ≡ n.depth
  pub components : given.components ≡ map (seen_in n.components) n.masks.now

-- the source over the frames that it shows
abbrev pub source_of : Images → ℕ → SourceNode → SourceFrames
source_of images place s = source_node (images place) s.depth s.components s.first s.last s.hold

-- ---- what a source shows

-- the image of the frame that is shown
abbrev pub image_shown : (ℤ → Option Stored) → Option ℤ → Option Stored
image_shown frames None = None
image_shown frames (Some f) = frames f

-- its rectangle
abbrev pub area_shown : Option Stored → Bounds
area_shown None = none
area_shown (Some image) = image.rect
