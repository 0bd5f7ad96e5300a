use Rattle.std.proofs.Common.{take, All}
use Rattle.fx_text.specs.Nodes.{Node, NamesRise}
use Rattle.fx_text.proofs.law.names_of_nodes_rise.Given as goal

abbrev pub invariant-loop-node : goal.invariant-loop-node
invariant-loop-node l = All (λ (node : Node). NamesRise node.work) (take l.node-index l.nodes)
