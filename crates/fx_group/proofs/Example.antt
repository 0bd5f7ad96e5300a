-- A group of one node, worked by hand: a source shows 10 and 20 in two columns, and the group's node shows at each place what
-- its input shows one column further on. So the use shows 20 in the first column, and nothing in the second.
use Rattle.std.proofs.Common.{◌≡◌, refl, ℕ, pos, ◌+ℤ◌, true, false, List, [], ◌∷◌, map, codes, Option, Some, None, Result, Ok, Err, slice_index_or, if◌then◌else◌}
use Rattle.std.specs.Int.Signed.{lt_z}
use Rattle.fx_pixel.specs.declared.Depth.TheVariants as depths
use Rattle.fx_pixel.specs.declared.Components.TheVariants as components
use Rattle.fx_pixel.specs.declared.Format.TheVariants as format
use Rattle.fx_pixel.specs.declared.Pixel.TheVariants.{Rgba}
use Rattle.fx_image.specs.Image.{Image}
use Rattle.fx_text.specs.Fault.{Fault}
use Rattle.fx_text.specs.Json.{after}
use Rattle.fx_text.specs.Nodes.{Graph, Group}
use Rattle.fx_text.specs.declared.raw.RawWork.TheVariants as work
use Rattle.fx_effect.specs.declared.action.Context.TheVariants as context
use Rattle.fx_effect.specs.declared.action.Identity.TheVariants.{No}
use Rattle.fx_effect.specs.declared.action.Safety.TheVariants.{FullySafe}
use Rattle.fx_effect.specs.Meaning.{Meaning}
use Rattle.fx_effect.specs.Tap.{tap}
use Rattle.fx_graph.specs.Graphs.{graph_of}
use Rattle.fx_graph.specs.Shown.{GraphShown, Shown}
use Rattle.fx_group.specs.Graph.{expand_of}
use Rattle.fx_group.specs.Instances.{Instance, instance_values, output_value}
use Rattle.fx_group.specs.Shades.{Effects, NamedImages, Shade, shade_of}

-- what is shown of the next column
abbrev next_column : Meaning
next_column = record {
  shape = record {
    label = codes "next";
    contexts = context.Filter ∷ [];
    depths = depths.Byte ∷ depths.Short ∷ [];
    components = components.Rgba ∷ components.Alpha ∷ [];
    temporal = false;
    tiles = true;
    safety = FullySafe;
    clips = λ c. (record { name = codes "Source"; optional = false }) ∷ [];
    params = λ c. [];
  };
  taps = λ v x y. tap 0 v.frame (x +ℤ pos 1) y ∷ [];
  mix = λ v c most x y pixels. slice_index_or pixels 0 (Rgba 1 1 1 1);
  spans = λ v clip. (v.frame, v.frame) ∷ [];
  rod = λ c v rods. v.project;
  roi = λ v window clip. window;
  same = λ v window. No;
}

abbrev effects : Effects
effects name = Some next_column

-- two columns and a row
abbrev columns : Image
columns = record {
  rect = record { x1 = pos 0; y1 = pos 0; x2 = pos 2; y2 = pos 1 };
  depth = depths.Byte;
  components = components.Rgba;
  pixel = λ x y. if lt_z x (pos 1) then Rgba 10 10 10 255 else Rgba 20 20 20 255;
}

abbrev images : NamedImages
images name f = Some columns

abbrev group : Group
group = record {
  name = codes "g";
  inputs = codes "in" ∷ [];
  nodes = (record {
    name = codes "b";
    path = codes "groups[0].nodes[0]";
    work = work.Effect (codes "next") None ((record { name = codes "Source"; node = codes "in" }) ∷ []) [];
  }) ∷ [];
  output = codes "b";
}

abbrev raw : Graph
raw = record {
  format = 2;
  project = record { width = 2; height = 1; depth = depths.Byte; components = components.Rgba };
  output = record { node = codes "u"; file = codes "o#.pam"; format = format.RgbAlpha };
  first = 0;
  last = 0;
  groups = group ∷ [];
  nodes =
      (record { name = codes "s"; path = codes "nodes[0]"; work = work.Source (codes "s.pam") 0 0 true depths.Byte components.Rgba })
      ∷ (record { name = codes "u"; path = codes "nodes[1]"; work = work.GroupUse (codes "g") ((record { name = codes "in"; node = codes "s" }) ∷ []) })
      ∷ [];
  takes = [];
}

abbrev no_shade : Shade
no_shade = record { depth = depths.Short; components = components.Alpha; pixel = λ t x y. Rgba 1 1 1 1 }

abbrev shade_in : Option Shade → Shade
shade_in None = no_shade
shade_in (Some s) = s

-- its instances are the source, and the node within the use
pub instances : map (λ (e : Instance × Shade). e.0) (instance_values (shade_of effects raw.project images) raw)
    ≡ (record { uses = []; node = codes "s" }) ∷ (record { uses = codes "u" ∷ []; node = codes "b" }) ∷ []
instances = refl

pub first_column : (shade_in (output_value (shade_of effects raw.project images) raw)).pixel (pos 0) (pos 0) (pos 0) ≡ Rgba 20 20 20 255
first_column = refl

pub second_column : (shade_in (output_value (shade_of effects raw.project images) raw)).pixel (pos 0) (pos 1) (pos 0) ≡ Rgba 0 0 0 0
second_column = refl

-- it is expanded and accepted: the names of its nodes, and the place of its output
abbrev names : Result (GraphShown Meaning) Fault → List (List ℕ) × ℕ
names (Ok g) = (map (λ (n : Shown Meaning). n.name) g.nodes, g.output)
names (Err fault) = ([], 7)

pub accepted : names (after (expand_of raw) (graph_of effects (λ m. m))) ≡ (codes "s" ∷ codes "u/b" ∷ [], 1)
accepted = refl
