use Rattle.std.proofs.Common.{◌≡◌, ◌+◌, ◌≤◌, drop}
use Rattle.fx_base.specs.declared.limits.TheConstants.{MOST_NODES}
use Rattle.fx_group.specs.Sizes.{nodes_size, group_size, capped}
use Rattle.fx_group.proofs.count.size_of_nodes.Given as goal

abbrev pub invariant-loop-node : goal.invariant-loop-node
invariant-loop-node l =
    record {
      whole : capped (l.size + nodes_size (group_size l.groups) (drop l.node-index l.nodes)) ≡ capped (nodes_size (group_size l.groups) l.nodes);
      small : l.size ≤ MOST_NODES + 1;
    }
