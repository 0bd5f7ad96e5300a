-- What a run renders: the frames of a graph from a first one on, as it is written and then at each take after it, at a
-- fraction of their size.
use Rattle.std.specs.Prelude.{◌≡◌, ◌+◌, ◌*◌, ℕ, zero, suc, pos, List, [], map, length, slice_index_or}
use Rattle.fx_base.specs.Pattern.{name_of}
use Rattle.fx_pam.specs.Text.{pam_text}
use Rattle.fx_proxy.specs.Proxy.{proxy, rendered_of, scaled_images}
use Rattle.fx_scene.specs.Scenes.{Images, no_images, picture}
use Rattle.fx_scene.specs.Takes.{edits_of, graph_of_take}
use Rattle.fx_scene.specs.Uses.{Wanting, frame_at, take_at, wanting}
use Rattle.fx_scene.specs.declared.take.Edit.{Edit}
use Rattle.fx_scene.specs.declared.take.Take.{Take}
use Rattle.fx_shipped.specs.Shipped.{meaning_of, number_of}
use Rattle.fx_takes.specs.Shown.{TakeShown, edit_shown}
use Rattle.fx_words.specs.Ordered.{Ordered}
use Rattle.fx_words.specs.declared.order.Mode.{Mode}
use Rattle.fx_words.specs.declared.order.Mode.TheVariants.{Takes}
use Rattle.fx_modes.specs.Graphs.{FileShown, Graph, first_of, frame_count, last_of}

-- So many frames from a first one on, of a graph as it is written, which is take 0, and then at each take after it. Of
-- these stand the edits, and the patterns of their files. The graph and the edits are those at 1/scale of the size, to
-- which source frames are scaled.
pub record Reel : Type 0 where
  pub scale : ℕ
  pub graph : Graph
  pub edits : List (List Edit)
  pub files : List (List ℕ)
  pub first : ℕ
  pub count : ℕ

-- in mode `takes` those of the file are rendered, and else the graph as it is written alone
abbrev pub takes_for : Mode → List TakeShown → List TakeShown
takes_for Takes takes = takes
takes_for other takes = []

-- the graph and its takes at 1/q of their size
abbrev pub scaled_file : ℕ → FileShown → FileShown
scaled_file q file =
    let small = proxy number_of (rendered_of file.graph file.takes no_images) q in
    record { graph = small.graph; takes = small.takes }

-- the graph with the takes that are ordered, at the size that is ordered
abbrev pub ordered_file : Ordered → FileShown → FileShown
ordered_file order file = scaled_file order.scale (record file { takes = takes_for order.mode file.takes })

-- what is ordered of a file
pub record IsReelOf (order : Ordered) (file : FileShown) (r : Reel) : Type 0 where
  pub scale : r.scale ≡ order.scale
  pub graph : r.graph ≡ (ordered_file order file).graph
  pub edits : map (map edit_shown) r.edits ≡ map (λ take. take.edits) (ordered_file order file).takes
  pub files : r.files ≡ map (λ take. take.file) (ordered_file order file).takes
  pub first : r.first ≡ first_of file.graph order
  pub count : r.count ≡ frame_count (first_of file.graph order) (last_of file.graph order)

-- these takes of a graph, from a frame to a frame, at 1/q of the size
abbrev pub reel_with : ℕ → Graph → List Take → ℕ → ℕ → Reel
reel_with q g takes a b =
    record {
      scale = q;
      graph = g;
      edits = edits_of takes;
      files = map (λ take. take.file) takes;
      first = a;
      count = frame_count a b;
    }

-- the frames of a graph as it is written alone
abbrev pub plain_reel : ℕ → Graph → ℕ → ℕ → Reel
plain_reel q g a b = record { scale = q; graph = g; edits = []; files = []; first = a; count = frame_count a b }

-- ---- its moments, numbered from 0: the frames of take 0 in order, then those of take 1, and so on

abbrev pub takes_in : Reel → ℕ
takes_in r = length r.edits + 1

abbrev pub moments_in : Reel → ℕ
moments_in r = r.count * takes_in r

abbrev pub take_in : Reel → ℕ → ℕ
take_in r j = take_at r.count j

abbrev pub frame_in : Reel → ℕ → ℕ
frame_in r j = frame_at r.first r.count j

abbrev pub graph_in : Reel → ℕ → Graph
graph_in r j = graph_of_take r.graph r.edits (take_in r j)

-- which source's frame each wants
abbrev pub wanting_in : Reel → Wanting
wanting_in r = wanting meaning_of r.graph r.edits r.first r.count

-- ---- their files

-- the pattern of a take's files: at take 0 it is the graph's
abbrev pub pattern_at : Reel → ℕ → List ℕ
pattern_at r zero = r.graph.file
pattern_at r (suc k) = slice_index_or r.files k []

-- the name of the file of moment j
abbrev pub file_name : Reel → ℕ → List ℕ
file_name r j = name_of (pattern_at r (take_in r j)) (frame_in r j)

-- the text of a frame's picture
unfoldable pub picture_text : Graph → Images → ℕ → List ℕ
picture_text g images t = pam_text g.format (picture meaning_of g images (pos t))

-- the images of its source frames at its size
abbrev pub scaled_in : Reel → Images → Images
scaled_in r images = scaled_images r.scale images

-- the text of the file of moment j, over images at its size
abbrev pub file_text : Reel → Images → ℕ → List ℕ
file_text r images j = picture_text (graph_in r j) images (frame_in r j)
