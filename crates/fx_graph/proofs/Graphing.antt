-- The graph that is made of nodes and an output, or the first refusal.
use Rattle.std.proofs.Common.{◌≡◌, ◌≢◌, ◌∙◌, ◌<◌, ◌≤◌, ◌≤ℤ◌, ℕ, ℤ, pos, Bool, true, false, cond, List, [], refl, sym, ap, arith, rules}
use Rattle.std.specs.Prelude.{Option, Some, None, Result, Ok, Err, codes, ◌&&◌}
use Rattle.std.specs.Int.Signed.{lt_z}
use Rattle.std.proofs.lemmas.Int.{ints}
use Rattle.fx_base.specs.Bounds.{Bounds}
use Rattle.fx_base.specs.Rect.{rect_of}
use Rattle.fx_text.specs.Fault.{Fault, told}
use Rattle.fx_text.specs.Json.{after}
use Rattle.fx_text.specs.Raw.{Project, AreSides, IsHead}
use Rattle.fx_text.specs.Nodes.{Graph as RawGraph}
use Rattle.fx_text.specs.declared.fault.GraphCode.TheVariants.{UnknownOutput}
use Rattle.fx_text.specs.declared.fault.GraphFault.{GraphFault}
use Rattle.fx_text.specs.declared.fault.GraphFault.TheVariants as fault
use Rattle.fx_effect.specs.Meaning.{Meaning}
use Rattle.fx_effect.specs.Shape.{IsProject}
use Rattle.fx_graph.specs.Refusal.{refusal, refused_or, found_or, Tells, TellsErr}
use Rattle.fx_graph.specs.Shown.{Shown, GraphShown, names_of}
use Rattle.fx_graph.specs.Nodes.{Form, place_of, nodes_of}
use Rattle.fx_graph.specs.Graphs.{extent, form, is_output, wrong_file, graph_of}
use Rattle.fx_graph.specs.Kept.{IsRange}

-- a refusal that is told is the definition's
pub refuses : {A : Type 0} (given : Result A Fault) (e : GraphFault) → TellsErr given e → e ≢ fault.Memory → given ≡ Err (told e)
refuses given fault.Memory h other = absurd (other refl)
refuses given (fault.Refused code path) h other = h

module _ {E : Type 0} (find : List ℕ → Option E) (meaning : E → Meaning) (raw : RawGraph) where
  abbrev of_nodes : List (Shown E) → Result (GraphShown E) Fault
  of_nodes nodes =
      after (found_or UnknownOutput (codes "output.node") (place_of (names_of nodes) raw.output.node)) (λ output.
      refused_or (wrong_file raw.output.file)
      (Ok (record { project = extent raw.project; depth = raw.project.depth; components = raw.project.components; output = output; file = raw.output.file; format = raw.output.format; first = raw.first; last = raw.last; nodes = nodes })))

  pub graph_is : (nodes : List (Shown E)) (output : ℕ) → nodes_of find meaning (form raw.project) [] raw.nodes ≡ Ok nodes → place_of (names_of nodes) raw.output.node ≡ Some output → is_output raw.output.file ≡ true → graph_of find meaning raw ≡ Ok (record { project = extent raw.project; depth = raw.project.depth; components = raw.project.components; output = output; file = raw.output.file; format = raw.output.format; first = raw.first; last = raw.last; nodes = nodes })
  graph_is nodes output made found is = ap (λ r. after r of_nodes) made ∙ rw (found, is) refl

  pub nodes_refused : (e : GraphFault) → TellsErr (nodes_of find meaning (form raw.project) [] raw.nodes) e → TellsErr (graph_of find meaning raw) e
  nodes_refused fault.Memory h = h
  nodes_refused (fault.Refused code path) h = ap (λ r. after r of_nodes) h

  pub node_refused : (nodes : List (Shown E)) (e : GraphFault) → nodes_of find meaning (form raw.project) [] raw.nodes ≡ Ok nodes → TellsErr (found_or UnknownOutput (codes "output.node") (place_of (names_of nodes) raw.output.node)) e → TellsErr (graph_of find meaning raw) e
  node_refused nodes fault.Memory made h = h
  node_refused nodes (fault.Refused code path) made h = ap (λ r. after r of_nodes) made ∙ rw h refl

  pub file_refused : (nodes : List (Shown E)) (output : ℕ) (e : GraphFault) → nodes_of find meaning (form raw.project) [] raw.nodes ≡ Ok nodes → place_of (names_of nodes) raw.output.node ≡ Some output → Tells (wrong_file raw.output.file) e → TellsErr (graph_of find meaning raw) e
  file_refused nodes output fault.Memory made found h = h
  file_refused nodes output (fault.Refused code path) made found h = ap (λ r. after r of_nodes) made ∙ rw (found, h) refl

-- ---- the project

pub extent_is : (p : Project) → AreSides p.width p.height → rect_of (pos 0) (pos 0) (pos p.width) (pos p.height) ≡ extent p
extent_is p sides =
    let wide : lt_z (pos 0) (pos p.width) ≡ true = grind (arith, ints, sides.some_width) in
    let high : lt_z (pos 0) (pos p.height) ≡ true = grind (arith, ints, sides.some_height) in
    rw (wide, high) refl

pub extent_project : (p : Project) → AreSides p.width p.height → IsProject (extent p)
extent_project p sides =
    record {
      left = refl;
      bottom = refl;
      wide = (omega (arith, ints, sides.some_width), omega (arith, ints, sides.few_columns));
      high = (omega (arith, ints, sides.some_height), omega (arith, ints, sides.few_rows));
    }

pub range_is : (format first last : ℕ) → IsHead format first last → IsRange first last
range_is format first last head = record { order = head.order; few = head.few; end = head.end }
