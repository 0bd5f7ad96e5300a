use Rattle.std.proofs.Common.{◌≡◌, ◌∙◌, sym, rules}
use Rattle.std.specs.Prelude.{Some, None, Ok, codes, map}
use Rattle.fx_text.specs.declared.fault.GraphCode.TheVariants.{UnknownOutput}
use Rattle.fx_graph.specs.Refusal.{refusal}
use Rattle.fx_graph.specs.Shown.{shown, names_of}
use Rattle.fx_graph.specs.Nodes.{place_of}
use Rattle.fx_graph.proofs.Making.{told_after}
use Rattle.fx_graph.proofs.Outputs.{named_place}
use Rattle.fx_graph.proofs.accepting.output_node.Goals as goal

pub returns-in-Some-clause-ok : goal.returns-in-Some-clause-ok
returns-in-Some-clause-ok g c = sym (named_place c.args.nodes.now c.args.name.now) ∙ sym c.node_named.ensures ∙ c.in-Some.is

pub returns-in-None-clause-err : goal.returns-in-None-clause-err
returns-in-None-clause-err g c =
    let none : place_of (names_of (map shown c.args.nodes.now)) c.args.name.now ≡ None = sym (named_place c.args.nodes.now c.args.name.now) ∙ sym c.node_named.ensures ∙ c.in-None.is in
    rw none (told_after (Some (refusal UnknownOutput (codes "output.node"))) (Ok 0) c.refuse_at.result c.refuse_at.ensures)
