-- What the nodes of a graph are, where the sources' frames show these images; and the picture of a frame.
use Rattle.std.specs.Prelude.{◌||◌, ◌&&◌, ℕ, ℤ, pos, List, [], map, Bool, Option, Some, None, slice_get, option_map, if◌then◌else◌}
use Rattle.std.specs.Int.{int_min, int_max}
use Rattle.std.specs.Int.Signed.{le_z}
use Rattle.fx_base.specs.Bounds.{Bounds}
use Rattle.fx_pixel.specs.declared.Depth.{Depth}
use Rattle.fx_pixel.specs.declared.Depth.TheVariants as depths
use Rattle.fx_pixel.specs.declared.Components.{Components}
use Rattle.fx_pixel.specs.declared.Components.TheVariants as components
use Rattle.fx_pixel.specs.Pixel.{convert}
use Rattle.fx_pam.specs.Laws.{components_for}
use Rattle.fx_image.specs.Image.{Image}
use Rattle.fx_image.specs.Stored.{image_of}
use Rattle.fx_effect.specs.Meaning.{Meaning}
use Rattle.fx_effect.specs.declared.action.Context.{Context}
use Rattle.fx_effect.specs.declared.values.Values.{Values}
use Rattle.fx_params.specs.Parameter.{Parameter}
use Rattle.fx_seq.specs.declared.store.Store.{Store}
use Rattle.fx_seq.specs.Held.{fetched, held}
use Rattle.fx_graph.specs.declared.graph.Graph.{Graph}
use Rattle.fx_graph.specs.Shown.{Does, Shown, GraphShown, shown}
use Rattle.fx_graph.specs.Shown as does
use Rattle.fx_graph.specs.Kept.{use_values}
use Rattle.fx_scene.specs.Nodes.{SourceFrames, EffectNode, Node, Source, Effect, Nodes, depth_at}
use Rattle.fx_scene.specs.Value.{value}
use Rattle.fx_scene.specs.declared.take.Edit.{Edit}

-- a graph, with lists in place of vectors
abbrev pub graph_shown : {E : Type 0} {c e : _} → Graph E c e → GraphShown E
graph_shown g =
    record {
      project = g.project;
      depth = g.depth;
      components = g.components;
      output = g.output;
      file = g.file;
      format = g.format;
      first = g.first;
      last = g.last;
      nodes = map shown g.nodes.items;
    }

-- an image of each node's frame, or none
abbrev pub Images : Type 0
Images = ℕ → ℤ → Option Image

abbrev pub no_images : Images
no_images n f = None

-- the image of each node's frame that is held
abbrev pub images_in : Store → Images
images_in store n f = option_map image_of (held store n f)

-- and of each that the store ever got
abbrev pub fetched_in : Store → Images
fetched_in store n f = option_map image_of (fetched store n f)

-- the frame of a source that is nearest to t
abbrev pub nearest : ℕ → ℕ → ℤ → ℤ
nearest first last t = int_max (pos first) (int_min t (pos last))

abbrev pub is_between : ℕ → ℕ → ℤ → Bool
is_between first last t = le_z (pos first) t && le_z t (pos last)

-- the frame that a source shows at t: its own where it has it; else the nearest where it holds, and else none
abbrev pub shown_frame : ℕ → ℕ → Bool → ℤ → Option ℤ
shown_frame first last hold t = if is_between first last t || hold then Some (nearest first last t) else None

-- what a node is asked with at a frame: a source has no parameters and no clips
abbrev pub values_at : {E : Type 0} → Bounds → ℤ → Does E → Values
values_at project t (does.Source pattern first last hold) = use_values project t [] []
values_at project t (does.Effect e context clips names optional masks params) = use_values project t clips params

abbrev pub values_in : {E : Type 0} → Bounds → ℤ → Option (Shown E) → Values
values_in project t None = use_values project t [] []
values_in project t (Some n) = values_at project t n.does

-- the values of the node at a place of a graph
abbrev pub node_values : {E : Type 0} → GraphShown E → ℕ → ℤ → Values
node_values g n t = values_in g.project t (slice_get g.nodes n)

-- a source of these frames, where they show these images
abbrev pub source_node : (ℤ → Option Image) → Depth → Components → ℕ → ℕ → Bool → SourceFrames
source_node frames depth c first last hold =
    record { named = shown_frame first last hold; frames = frames; depth = depth; components = c }

-- an effect with these clips and parameters, in a project of this extent
abbrev pub effect_node : Meaning → Bounds → Depth → Components → Context → List (Option ℕ) → List Parameter → EffectNode
effect_node m project depth c context clips params =
    record {
      meaning = m;
      context = context;
      values = λ t. use_values project t clips params;
      clips = clips;
      depth = depth;
      components = c;
    }

-- what a node does at a depth and components, in a project of this extent, where its frames show these images
abbrev pub node_of : {E : Type 0} → (E → Meaning) → Bounds → (ℤ → Option Image) → Depth → Components → Does E → Node
node_of meaning project frames depth c (does.Source pattern first last hold) =
    Source (source_node frames depth c first last hold)
node_of meaning project frames depth c (does.Effect e context clips names optional masks params) =
    Effect (effect_node (meaning e) project depth c context clips params)

-- a source that shows nothing
abbrev pub no_node : Node
no_node =
    Source (record { named = λ t. None; frames = λ f. None; depth = depths.Byte; components = components.Rgba })

abbrev pub node_in : {E : Type 0} → (E → Meaning) → Bounds → (ℤ → Option Image) → Option (Shown E) → Node
node_in meaning project frames None = no_node
node_in meaning project frames (Some n) = node_of meaning project frames n.depth n.components n.does

-- what stands at each place of a list of nodes
unfoldable pub nodes_of : {E : Type 0} → (E → Meaning) → Bounds → List (Shown E) → Images → Nodes
nodes_of meaning project nodes images k = node_in meaning project (images k) (slice_get nodes k)

-- the nodes of a graph
abbrev pub graph_nodes : {E : Type 0} → (E → Meaning) → GraphShown E → Images → Nodes
graph_nodes meaning g images = nodes_of meaning g.project g.nodes images

-- a graph as it is written, the edits of its takes, and how many of the takes were done
pub record Script (E : Type 0) : Type 0 where
  pub written : GraphShown E
  pub takes : List (List Edit)
  pub take : ℕ

-- a scene: the graph of its take, the frames that were fetched, a number, and where the graph comes from
pub record Shot (E : Type 0) : Type 0 where
  pub graph : GraphShown E
  pub store : Store
  pub number : ℕ
  pub script : Script E

-- the picture of a frame: the value of the output's node over the project's extent, at the project's depth, with Alpha
-- for grey files and RGBA for all others
abbrev pub picture : {E : Type 0} → (E → Meaning) → GraphShown E → Images → ℤ → Image
picture meaning g images t =
    let nodes = graph_nodes meaning g images in
    let c = components_for g.format in
    record {
      rect = g.project;
      depth = g.depth;
      components = c;
      pixel = λ x y. convert (depth_at nodes g.output) g.depth c (value nodes g.output t x y);
    }
