use Rattle.std.proofs.Common.{◌≡◌, sym, subst, map, IfErr, Some, codes}
use Rattle.std.specs.Prelude.{Option, ℕ}
use Rattle.fx_text.specs.declared.fault.GraphCode.TheVariants.{EditOfNoEffect}
use Rattle.fx_text.specs.Json.{after}
use Rattle.fx_graph.specs.Refusal.{TellsErr, found_or, node_path}
use Rattle.fx_graph.specs.Named.{effect_named}
use Rattle.fx_graph.specs.Shown.{shown}
use Rattle.fx_takes.specs.Accepted.{node_edit}
use Rattle.fx_takes.proofs.accepting.edit_of.Goals as goal

pub returns-in-Some-clause-err : goal.returns-in-Some-clause-err
returns-in-Some-clause-err g c =
    let nodes = map shown c.args.graph.now.nodes.items in
    let raw = c.args.raw.now in
    let found : effect_named nodes raw.node ≡ Some c.in-Some.node = sym (rw c.text.ensures at c.in-Some.ensures) in
    let P = λ (o : Option ℕ). IfErr c.node_edit.result (λ e. TellsErr (after (found_or EditOfNoEffect (node_path c.args.path.now (codes "node")) o) (λ k. node_edit nodes c.args.path.now k raw)) e) in
    subst P (sym found) c.node_edit.ensures.err
