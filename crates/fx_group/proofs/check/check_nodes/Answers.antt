use Rattle.std.proofs.Common.{◌∙◌, ◌+◌, ◌<◌, ◌++◌, ap, subst, arith, length, take, drop}
use Rattle.std.proofs.lemmas.Result.{err_from_is_err_and}
use Rattle.fx_group.specs.Faults.{nodes_fault, node_names}
use Rattle.fx_group.specs.Known.{IsKnown}
use Rattle.fx_group.proofs.Checks.{rest_is, names_more, node_told, node_past, known_more}
use Rattle.fx_group.proofs.check.check_nodes.Goals as goal

pub returns-in_err-check_node-clause-err : goal.returns-in_err-check_node-clause-err
returns-in_err-check_node-clause-err c =
    let groups = c.args.groups.now in
    let nodes = c.args.nodes.now in
    let i = c.loop-node.node-index in
    let node = c.node-item.result in
    let names = c.args.inputs.now ++ node_names (take i nodes) in
    let within : i < length nodes = omega arith in
    let more = rest_is (nodes_fault groups names) nodes i node within c.node-item.is in
    let told = node_told groups names c.loop-node.known node (drop (i + 1) nodes) c.in_err-check_node.field-0.0 c.loop-node.invariant.index c.in_err-check_node.ensures.err in
    let p = err_from_is_err_and c.from_residual-in_err-check_node.result c.from_residual-in_err-check_node.ensures.1 in
    rw (p.1, p.2, c.loop-node.invariant.whole, more) told

pub loop-node-preserved : goal.loop-node-preserved
loop-node-preserved c =
    let groups = c.args.groups.now in
    let nodes = c.args.nodes.now in
    let inputs = c.args.inputs.now in
    let i = c.loop-node.node-index in
    let node = c.node-item.result in
    let names = inputs ++ node_names (take i nodes) in
    let within : i < length nodes = omega arith in
    let more = rest_is (nodes_fault groups names) nodes i node within c.node-item.is in
    let past = node_past groups names c.loop-node.known node (drop (i + 1) nodes) c.loop-node.invariant.index c.in_ok-check_node.ensures.ok in
    let next = names_more inputs nodes i node within c.node-item.is in
    let name = c.text.ensures ∙ ap (λ n. n.name) c.node.view_is in
    record {
      whole = c.loop-node.invariant.whole ∙ more ∙ past ∙ ap (λ ns. nodes_fault groups ns (drop (i + 1) nodes)) next;
      index = subst (IsKnown c.add.new.places) next (known_more c.loop-node.known c.add.new.places names node.name c.loop-node.invariant.index (rw name at c.in_ok-add.ensures.added));
    }
