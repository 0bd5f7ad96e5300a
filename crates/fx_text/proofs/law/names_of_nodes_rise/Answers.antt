use Rattle.std.proofs.Common.{subst, All}
use Rattle.std.proofs.lemmas.List.{take_all}
use Rattle.std.proofs.lemmas.List.Elements.{All-more}
use Rattle.fx_text.specs.Nodes.{Node, NamesRise}
use Rattle.fx_text.proofs.law.names_of_nodes_rise.Goals as goal

abbrev rises : Node → Type 0
rises node = NamesRise node.work

pub loop-node-preserved : goal.loop-node-preserved
loop-node-preserved c =
    All-more rises c.args.nodes.now c.loop-node.node-index c.node-item.result c.loop-node-test.true c.loop-node.invariant
    (subst rises c.node-item.is c.names_of_node_rise.ensures)

pub returns : goal.returns
returns c = subst (All rises) (take_all c.loop-node.node-index c.args.nodes.now c.loop-node-test.false) c.loop-node.invariant
