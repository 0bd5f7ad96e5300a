-- A graph that is expanded and accepted has the values of the instances.
use Rattle.std.specs.Prelude.{◌≡◌, ℕ, ℤ, List, length, Option, Some, Ok, option_map, slice_get}
use Rattle.fx_pixel.specs.Pixel.{convert}
use Rattle.fx_pixel.specs.declared.Format.{Format}
use Rattle.fx_pam.specs.Laws.{components_for}
use Rattle.fx_image.specs.Image.{Image}
use Rattle.fx_text.specs.Nodes.{Graph}
use Rattle.fx_text.specs.Raw.{Project}
use Rattle.fx_effect.specs.Meaning.{Meaning}
use Rattle.fx_graph.specs.Graphs.{extent, graph_of}
use Rattle.fx_graph.specs.Shown.{GraphShown, Shown}
use Rattle.fx_scene.specs.Scenes.{Images, graph_nodes, picture}
use Rattle.fx_scene.specs.Value.{value}
use Rattle.fx_group.specs.Instances.{Giving, Instance, instance_values, name_of, output_value}
use Rattle.fx_group.specs.Shades.{Effects, NamedImages, Shade, shade_of}

-- what the effects of a catalogue mean
abbrev pub effects_of : {E : Type 0} → (List ℕ → Option E) → (E → Meaning) → Effects
effects_of find meaning name = option_map meaning (find name)

-- the images at each place are those under the name of the node there
abbrev pub AreNamed : {E : Type 0} → List (Shown E) → NamedImages → Images → Type 0
AreNamed {E} nodes named images =
    (k : ℕ) (node : Shown E) → slice_get nodes k ≡ Some node → images k ≡ named node.name

-- node k is the instance, by its joined name, and shows this: its depth, its components, and its value
pub record IsShown {E : Type 0} (meaning : E → Meaning) (g : GraphShown E) (images : Images) (k : ℕ) (i : Instance)
    (s : Shade) : Type 0 where
  pub node : Shown E
  pub there : slice_get g.nodes k ≡ Some node
  pub name : node.name ≡ name_of i
  pub depth : node.depth ≡ s.depth
  pub components : node.components ≡ s.components
  pub value : (t x y : ℤ) → value (graph_nodes meaning g images) k t x y ≡ s.pixel t x y

-- what is shown over the extent of a project, at its depth and in the components of a file's format
abbrev pub picture_of : Project → Format → Shade → ℤ → Image
picture_of project format s t =
    let c = components_for format in
    record {
      rect = extent project;
      depth = project.depth;
      components = c;
      pixel = λ x y. convert s.depth project.depth c (s.pixel t x y);
    }

-- the output shows something, and the picture of each frame is of that
pub record IsPictured {E : Type 0} (meaning : E → Meaning) (g : GraphShown E) (images : Images) (raw : Graph)
    (output : Option Shade) : Type 0 where
  pub shade : Shade
  pub is : output ≡ Some shade
  pub pictures : (t : ℤ) → picture meaning g images t ≡ picture_of raw.project raw.output.format shade t

-- the nodes are the instances of a graph with groups, in order, and show what these show; so does the output
pub record AreShown {E : Type 0} (meaning : E → Meaning) (g : GraphShown E) (images : Images) (raw : Graph)
    (give : Giving Shade) : Type 0 where
  pub count : length g.nodes ≡ length (instance_values give raw)
  pub each : (k : ℕ) (i : Instance) (s : Shade) → slice_get (instance_values give raw) k ≡ Some (i, s)
      → IsShown meaning g images k i s
  pub output : IsPictured meaning g images raw (output_value give raw)

-- over a catalogue, whatever the frames show: the nodes that are accepted of a graph show what another's instances show
abbrev pub ShowsInstances : {E : Type 0} → (List ℕ → Option E) → (E → Meaning) → Graph → Graph → Type 0
ShowsInstances {E} find meaning raw flat =
    (g : GraphShown E) (named : NamedImages) (images : Images) → graph_of find meaning flat ≡ Ok g
    → AreNamed g.nodes named images
    → AreShown meaning g images raw (shade_of (effects_of find meaning) raw.project named)

-- the names of nodes differ, so that images at places can be told by names
abbrev pub CanBeNamed : {E : Type 0} → (List ℕ → Option E) → (E → Meaning) → Graph → Type 0
CanBeNamed {E} find meaning flat =
    (g : GraphShown E) (images : Images) → graph_of find meaning flat ≡ Ok g
    → (named : NamedImages) × AreNamed g.nodes named images
