use Rattle.std.proofs.Common.{◌≡◌, ◌++◌, take, drop}
use Rattle.fx_group.specs.Known.{IsKnown}
use Rattle.fx_group.specs.Faults.{nodes_fault, node_names}
use Rattle.fx_group.proofs.check.check_nodes.Given as goal

abbrev pub invariant-loop-node : goal.invariant-loop-node
invariant-loop-node l =
    record {
      whole : nodes_fault l.groups l.inputs l.nodes ≡ nodes_fault l.groups (l.inputs ++ node_names (take l.node-index l.nodes)) (drop l.node-index l.nodes);
      index : IsKnown l.known (l.inputs ++ node_names (take l.node-index l.nodes));
    }
