-- The graph of a file with its takes, and which frames of it a run renders.
use Rattle.std.specs.Prelude.{◌+◌, ◌-◌, ℕ, min, max, List, map, Option, option_map, slice_get, Result, Ok}
use Rattle.fx_base.specs.declared.limits.TheConstants.{MOST_NODES, MOST_SIDE}
use Rattle.fx_outside.specs.Outside.{Files}
use Rattle.fx_text.specs.Fault.{Fault}
use Rattle.fx_text.specs.Json.{after}
use Rattle.fx_text.specs.Nodes as text
use Rattle.fx_text.specs.Objects.{read_graph}
use Rattle.fx_words.specs.Ordered.{Ordered}
use Rattle.fx_graph.specs.Shown.{GraphShown}
use Rattle.fx_graph.specs.Graphs as accepted
use Rattle.fx_scene.specs.Scenes.{graph_shown}
use Rattle.fx_group.specs.Graph.{expand_of}
use Rattle.fx_takes.specs.Accepted.{takes_of}
use Rattle.fx_takes.specs.Shown.{TakeShown, take_shown}
use Rattle.fx_shipped.specs.declared.shipped.Shipped.{Shipped}
use Rattle.fx_shipped.specs.Shipped.{effect_of, meaning_of}
use Rattle.fx_modes.specs.declared.graph.GraphFile.{GraphFile}

abbrev pub Graph : Type 0
Graph = GraphShown Shipped

-- the graph of a file as it is written, and its takes
pub record FileShown : Type 0 where
  pub graph : Graph
  pub takes : List TakeShown

abbrev pub file_shown : GraphFile → FileShown
file_shown file = record { graph = graph_shown file.graph; takes = map take_shown file.takes.list.items }

-- what the bytes say, with each use of a group replaced by the group's nodes, or the first fault of the text and then of
-- the groups
unfoldable pub raw_of : List ℕ → Result text.Graph Fault
raw_of bytes = after (read_graph bytes MOST_NODES MOST_SIDE) expand_of

-- the graph over the effects of the program that is said so with its takes, or the first fault of its nodes and output
-- and then of its takes
unfoldable pub accepted_of : text.Graph → Result FileShown Fault
accepted_of raw =
    after (accepted.graph_of effect_of meaning_of raw) (λ g.
    after (takes_of g.nodes raw.takes) (λ takes. Ok (record { graph = g; takes = takes })))

-- the graph that the bytes are with its takes, or their first fault
unfoldable pub graph_of : List ℕ → Result FileShown Fault
graph_of bytes = after (raw_of bytes) accepted_of

-- the same of the bytes that the library tells under a name
abbrev pub graph_under : Files → List ℕ → Option (Result FileShown Fault)
graph_under library name = option_map graph_of (library name)

-- the name of the node at a place
abbrev pub name_at : Graph → ℕ → Option (List ℕ)
name_at g k = option_map (λ node. node.name) (slice_get g.nodes k)

-- the frames that are rendered are those of the graph's range from --first to --last; there are none where the first
-- is above the last
abbrev pub first_of : Graph → Ordered → ℕ
first_of g order = max g.first order.first

abbrev pub last_of : Graph → Ordered → ℕ
last_of g order = min g.last order.last

-- how many frames there are from a to b
abbrev pub frame_count : ℕ → ℕ → ℕ
frame_count a b = b + 1 - a
