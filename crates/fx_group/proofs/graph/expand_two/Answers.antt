use Rattle.std.proofs.Common.{◌≡◌, ◌∙◌, ◌≤◌, refl, ap, sym, subst, nat_eq, false, reverse, length, [], Ok, Err}
use Rattle.std.proofs.lemmas.Result.{err_from_is_err_and}
use Rattle.fx_text.specs.Fault.{told}
use Rattle.fx_text.specs.Nodes.{Graph}
use Rattle.fx_text.specs.declared.raw.RawOutput.{RawOutput}
use Rattle.fx_group.specs.Expansion.{meant}
use Rattle.fx_group.specs.Graph.{expand_of, list_expanded}
use Rattle.fx_group.proofs.ExpandLaws.{made_graph, flat_few, flat_some, told_lists}
use Rattle.fx_group.proofs.graph.expand_two.Goals as goal

pub returns-in_err-check_lists-clause-refused : goal.returns-in_err-check_lists-clause-refused
returns-in_err-check_lists-clause-refused c =
    let two : nat_eq c.raw.inside.format 1 ≡ false = subst (λ (g : Graph). nat_eq g.format 1 ≡ false) (sym c.raw.view_is) c.requires in
    let groups_are : c.deref.result.now ≡ reverse c.raw.inside.groups =
    c.deref.ensures.value ∙ c.reverse.ensures.items ∙ ap reverse c.into_items-groups.ensures in
    let nodes_are : c.items.result.now ≡ c.raw.inside.nodes = cc in
    let raw : Graph = record {
      format = c.raw.inside.format;
      project = c.raw.inside.project;
      output = c.raw.inside.output;
      first = c.raw.inside.first;
      last = c.raw.inside.last;
      groups = c.raw.inside.groups;
      nodes = c.raw.inside.nodes;
      takes = c.raw.inside.takes;
    } in
    let p = err_from_is_err_and c.from_residual.result c.from_residual.ensures.1 in
    let h = rw (groups_are, nodes_are) at c.in_err-check_lists.ensures.err in
    rw (p.1, p.2) (λ other. subst (λ (r : Graph). expand_of r ≡ Err (told c.in_err-check_lists.field-0.0)) c.raw.view_is
    (told_lists raw c.in_err-check_lists.field-0.0 two h other))

pub of-requires-2 : goal.of-requires-2
of-requires-2 c =
    let two : nat_eq c.raw.inside.format 1 ≡ false = subst (λ (g : Graph). nat_eq g.format 1 ≡ false) (sym c.raw.view_is) c.requires in
    let groups_are : c.deref.result.now ≡ reverse c.raw.inside.groups =
    c.deref.ensures.value ∙ c.reverse.ensures.items ∙ ap reverse c.into_items-groups.ensures in
    let nodes_are : c.items.result.now ≡ c.raw.inside.nodes = cc in
    let raw : Graph = record {
      format = c.raw.inside.format;
      project = c.raw.inside.project;
      output = c.raw.inside.output;
      first = c.raw.inside.first;
      last = c.raw.inside.last;
      groups = c.raw.inside.groups;
      nodes = c.raw.inside.nodes;
      takes = c.raw.inside.takes;
    } in
    let none = rw (groups_are, nodes_are) at c.in_ok-check_lists.ensures.ok in
    let groups_too : c.deref-2.result.now ≡ reverse c.raw.inside.groups =
    c.deref-2.ensures.value ∙ c.reverse.ensures.items ∙ ap reverse c.into_items-groups.ensures in
    let nodes_too : c.items-2.result.now ≡ c.raw.inside.nodes = cc in
    let flat = list_expanded (reverse c.raw.inside.groups) c.raw.inside.nodes in
    let items_are : c.in_ok-flat.flat.items ≡ flat.nodes = rw (groups_too, nodes_too) at c.in_ok-flat.ensures.nodes in
    let some : 1 ≤ length c.raw.inside.nodes = rw nodes_are at c.items.ensures.some in
    rw items_are (flat_some raw two none flat refl some, flat_few raw two none flat refl)

pub returns-clause-expanded : goal.returns-clause-expanded
returns-clause-expanded c =
    let two : nat_eq c.raw.inside.format 1 ≡ false = subst (λ (g : Graph). nat_eq g.format 1 ≡ false) (sym c.raw.view_is) c.requires in
    let groups_are : c.deref.result.now ≡ reverse c.raw.inside.groups =
    c.deref.ensures.value ∙ c.reverse.ensures.items ∙ ap reverse c.into_items-groups.ensures in
    let nodes_are : c.items.result.now ≡ c.raw.inside.nodes = cc in
    let raw : Graph = record {
      format = c.raw.inside.format;
      project = c.raw.inside.project;
      output = c.raw.inside.output;
      first = c.raw.inside.first;
      last = c.raw.inside.last;
      groups = c.raw.inside.groups;
      nodes = c.raw.inside.nodes;
      takes = c.raw.inside.takes;
    } in
    let none = rw (groups_are, nodes_are) at c.in_ok-check_lists.ensures.ok in
    let groups_too : c.deref-2.result.now ≡ reverse c.raw.inside.groups =
    c.deref-2.ensures.value ∙ c.reverse.ensures.items ∙ ap reverse c.into_items-groups.ensures in
    let nodes_too : c.items-2.result.now ≡ c.raw.inside.nodes = cc in
    let flat = list_expanded (reverse c.raw.inside.groups) c.raw.inside.nodes in
    let items_are : c.in_ok-flat.flat.items ≡ flat.nodes = rw (groups_too, nodes_too) at c.in_ok-flat.ensures.nodes in
    let groups_none : c.of.result ≡ [] = c.of.ensures ∙ c.new.ensures.items in
    let nodes_made : c.of-2.result ≡ flat.nodes = c.of-2.ensures ∙ items_are in
    let output_is : c.in_ok-flat.output ≡ record c.raw.inside.output { node = meant flat.others [] c.raw.inside.output.node } =
    rw (groups_too, nodes_too) at c.in_ok-flat.ensures.output in
    let output : RawOutput = record c.raw.inside.output { node = meant flat.others [] c.raw.inside.output.node } in
    let made = made_graph raw two none flat (meant flat.others [] c.raw.inside.output.node) refl refl in
    rw (groups_none, nodes_made, output_is)
    (subst (λ (r : Graph). expand_of r ≡ Ok (record raw { groups = []; nodes = flat.nodes; output = output })) c.raw.view_is made)
