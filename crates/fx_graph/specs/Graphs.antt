-- The graph that a raw graph stands for over a catalogue, or the first refusal.
use Rattle.std.specs.Prelude.{ℕ, pos, nat_eq, Bool, not, ◌&&◌, List, [], codes, Option, Result, Ok}
use Rattle.fx_base.specs.Bounds.{Bounds}
use Rattle.fx_base.specs.Pattern.{is_pattern, runs}
use Rattle.fx_text.specs.Fault.{Fault}
use Rattle.fx_text.specs.Json.{after}
use Rattle.fx_text.specs.Raw.{Project}
use Rattle.fx_text.specs.Nodes.{Graph as RawGraph}
use Rattle.fx_text.specs.declared.fault.GraphCode.TheVariants.{UnknownOutput, PatternWrong}
use Rattle.fx_effect.specs.Meaning.{Meaning}
use Rattle.fx_graph.specs.Refusal.{where_so, refused_or, found_or}
use Rattle.fx_graph.specs.Shown.{Shown, GraphShown, names_of}
use Rattle.fx_graph.specs.Nodes.{Form, place_of, nodes_of}

-- from the origin, with these sides
abbrev pub extent : Project → Bounds
extent p = record { x1 = pos 0; y1 = pos 0; x2 = pos p.width; y2 = pos p.height }

abbrev pub form : Project → Form
form p = (p.depth, p.components)

-- a pattern with exactly one run of signs
abbrev pub is_output : List ℕ → Bool
is_output file = is_pattern file && nat_eq (runs file) 1

abbrev pub wrong_file : List ℕ → Option Fault
wrong_file file = where_so (not (is_output file)) PatternWrong (codes "output.file")

-- the nodes in their order, then the node that is rendered, then the files' pattern
abbrev pub graph_of : {E : Type 0} → (List ℕ → Option E) → (E → Meaning) → RawGraph → Result (GraphShown E) Fault
graph_of find meaning raw =
    after (nodes_of find meaning (form raw.project) [] raw.nodes) (λ nodes.
    after (found_or UnknownOutput (codes "output.node") (place_of (names_of nodes) raw.output.node)) (λ output.
    refused_or (wrong_file raw.output.file)
    (Ok (record {
      project = extent raw.project;
      depth = raw.project.depth;
      components = raw.project.components;
      output = output;
      file = raw.output.file;
      format = raw.output.format;
      first = raw.first;
      last = raw.last;
      nodes = nodes;
    }))))
