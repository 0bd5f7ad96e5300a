use Rattle.std.proofs.Common.{◌≡◌, ◌∙◌, ◌<◌, ap, sym, subst, length, map, true, Some, [], rules}
use Rattle.std.specs.Prelude.{Ok, IsTrue}
use Rattle.std.proofs.lemmas.Result.{err_from_is_err_and}
use Rattle.fx_text.specs.Raw.{Project}
use Rattle.fx_text.specs.Nodes.{Graph as RawGraph}
use Rattle.fx_effect.specs.Shape.{IsProject}
use Rattle.fx_graph.specs.Refusal.{Tells}
use Rattle.fx_graph.specs.Shown.{shown, names_of}
use Rattle.fx_graph.specs.Nodes.{place_of, nodes_of}
use Rattle.fx_graph.specs.Graphs.{extent, form, is_output, graph_of}
use Rattle.fx_graph.proofs.Graphing.{refuses, graph_is, node_refused, file_refused, extent_is, extent_project, range_is}
use Rattle.fx_graph.proofs.accepting.accept_graph.Goals as goal

pub returns-in_err-output-clause-refused : goal.returns-in_err-output-clause-refused
returns-in_err-output-clause-refused g c =
    let find = g.E.Catalogue.find in
    let meaning = g.E.ImageEffect.meaning in
    let own : Project = record { width = c.project.inside.width; height = c.project.inside.height; depth = c.project.inside.depth; components = c.project.inside.components } in
    let raw : RawGraph = record { format = c.raw.inside.format; project = own; output = c.raw.inside.output; first = c.raw.inside.first; last = c.raw.inside.last; groups = c.raw.inside.groups; nodes = c.raw.inside.nodes; takes = c.raw.inside.takes } in
    let raw_is : raw ≡ c.args.raw.now = ap (λ (p : Project). record raw { project = p }) c.project.view_is ∙ c.raw.view_is in
    let nodes = map shown c.in_ok-nodes.nodes.items in
    let made : nodes_of find meaning (form own) [] c.raw.inside.nodes ≡ Ok nodes = subst (λ rs. nodes_of find meaning (form own) [] rs ≡ Ok nodes) c.items.ensures.value c.in_ok-nodes.ensures.ok in
    let e = c.in_err-output.field-0.0 in
    let told = rw (c.deref.ensures.value, c.text.ensures) at c.in_err-output.ensures.err in
    let p = err_from_is_err_and c.from_residual-in_err-output.result c.from_residual-in_err-output.ensures.1 in
    rw (p.1, p.2, ← raw_is) (refuses (graph_of find meaning raw) e (node_refused find meaning raw nodes e made told))

pub returns-in_err-file-clause-refused : goal.returns-in_err-file-clause-refused
returns-in_err-file-clause-refused g c =
    let find = g.E.Catalogue.find in
    let meaning = g.E.ImageEffect.meaning in
    let own : Project = record { width = c.project.inside.width; height = c.project.inside.height; depth = c.project.inside.depth; components = c.project.inside.components } in
    let raw : RawGraph = record { format = c.raw.inside.format; project = own; output = c.raw.inside.output; first = c.raw.inside.first; last = c.raw.inside.last; groups = c.raw.inside.groups; nodes = c.raw.inside.nodes; takes = c.raw.inside.takes } in
    let raw_is : raw ≡ c.args.raw.now = ap (λ (p : Project). record raw { project = p }) c.project.view_is ∙ c.raw.view_is in
    let nodes = map shown c.in_ok-nodes.nodes.items in
    let made : nodes_of find meaning (form own) [] c.raw.inside.nodes ≡ Ok nodes = subst (λ rs. nodes_of find meaning (form own) [] rs ≡ Ok nodes) c.items.ensures.value c.in_ok-nodes.ensures.ok in
    let found : place_of (names_of nodes) c.raw.inside.output.node ≡ Some c.in_ok-output.output = rw (c.deref.ensures.value, c.text.ensures) at c.in_ok-output.ensures.ok in
    let e = c.in_err-file.field-0.0 in
    let told = rw c.text-2.ensures at c.in_err-file.ensures.err in
    let p = err_from_is_err_and c.from_residual-in_err-file.result c.from_residual-in_err-file.ensures.1 in
    rw (p.1, p.2, ← raw_is) (refuses (graph_of find meaning raw) e (file_refused find meaning raw nodes c.in_ok-output.output e made found told))

pub invariant_of-result : goal.invariant_of-result
invariant_of-result g c =
    record {
      extent = c.extent_of.ensures.lawful;
      named = subst (λ file. IsTrue (is_output file)) (sym c.in_ok-file.ensures.pattern) c.in_ok-file.ensures.ok;
      range = range_is c.raw.inside.format c.raw.inside.first c.raw.inside.last c.raw.invariant;
      rendered = record { few = c.in_ok-nodes.ensures.few; there = rw c.deref.ensures.value at c.in_ok-output.ensures.there };
      kept = c.in_ok-nodes.ensures.kept;
    }

pub returns-clause-accepted : goal.returns-clause-accepted
returns-clause-accepted g c =
    let find = g.E.Catalogue.find in
    let meaning = g.E.ImageEffect.meaning in
    let own : Project = record { width = c.project.inside.width; height = c.project.inside.height; depth = c.project.inside.depth; components = c.project.inside.components } in
    let raw : RawGraph = record { format = c.raw.inside.format; project = own; output = c.raw.inside.output; first = c.raw.inside.first; last = c.raw.inside.last; groups = c.raw.inside.groups; nodes = c.raw.inside.nodes; takes = c.raw.inside.takes } in
    let raw_is : raw ≡ c.args.raw.now = ap (λ (p : Project). record raw { project = p }) c.project.view_is ∙ c.raw.view_is in
    let nodes = map shown c.in_ok-nodes.nodes.items in
    let made : nodes_of find meaning (form own) [] c.raw.inside.nodes ≡ Ok nodes = subst (λ rs. nodes_of find meaning (form own) [] rs ≡ Ok nodes) c.items.ensures.value c.in_ok-nodes.ensures.ok in
    let found : place_of (names_of nodes) c.raw.inside.output.node ≡ Some c.in_ok-output.output = rw (c.deref.ensures.value, c.text.ensures) at c.in_ok-output.ensures.ok in
    let file : is_output c.raw.inside.output.file ≡ true = rw c.text-2.ensures at c.in_ok-file.ensures.ok in
    let of_is : c.extent_of.result ≡ extent own = c.extent_of.ensures.value ∙ ap extent (sym c.project.view_is) in
    let file_is : c.in_ok-file.file ≡ c.raw.inside.output.file = c.in_ok-file.ensures.pattern ∙ c.text-2.ensures in
    rw (← raw_is, of_is, file_is) (graph_is find meaning raw nodes c.in_ok-output.output made found file)
