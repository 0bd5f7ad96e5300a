-- What is rendered at 1/q of its size: a graph, its takes, and the frames of its sources.
use Rattle.std.specs.Prelude.{◌≡◌, ℕ, List, map, option_map}
use Rattle.fx_image.specs.Image.{SameImage}
use Rattle.fx_image.specs.Stored.{image_of}
use Rattle.fx_graph.specs.Shown.{GraphShown}
use Rattle.fx_scene.specs.Scenes.{Images}
use Rattle.fx_seq.specs.declared.source.SourceFrame.{SourceFrame}
use Rattle.fx_takes.specs.Shown.{TakeShown}
use Rattle.fx_proxy.specs.Reduced.{reduced}
use Rattle.fx_proxy.specs.Scaled.{scaled_graph, scaled_take}

-- each frame's image
abbrev pub scaled_images : ℕ → Images → Images
scaled_images q images n f = option_map (reduced q) (images n f)

-- a graph as it is written, the takes after it, and the image of each frame of its sources that was fetched
pub record Rendered (E : Type 0) : Type 0 where
  pub graph : GraphShown E
  pub takes : List TakeShown
  pub images : Images

abbrev pub rendered_of : {E : Type 0} → GraphShown E → List TakeShown → Images → Rendered E
rendered_of g takes images = record { graph = g; takes = takes; images = images }

-- the extent, the frames and the lengths are scaled, those of takes too, and nothing else
abbrev pub proxy : {E : Type 0} → (E → ℕ) → Rendered E → ℕ → Rendered E
proxy number s q =
    record {
      graph = scaled_graph number q s.graph;
      takes = map (scaled_take number q s.graph.nodes) s.takes;
      images = scaled_images q s.images;
    }

-- a frame of the same node, counted as many bytes as its file, with its image scaled
pub record IsScaledFrame (q : ℕ) (s t : SourceFrame) : Type 0 where
  pub node : t.node ≡ s.node
  pub frame : t.frame ≡ s.frame
  pub size : t.size ≡ s.size
  pub image : SameImage (image_of t.image) (reduced q (image_of s.image))
