use Rattle.std.proofs.Common.{◌≡◌, ◌+◌, ◌*◌, length, drop}
use Rattle.fx_group.specs.Expansion.{nodes_expanded, expander}
use Rattle.fx_group.specs.Flattened.{flat_of}
use Rattle.fx_group.proofs.flatten.+expanding.Given as goal

abbrev pub decreases-expand_nodes : goal.decreases-expand_nodes
decreases-expand_nodes l = 5 * length l.groups.now + 3

abbrev pub decreases-expand_work : goal.decreases-expand_work
decreases-expand_work l = 5 * length l.groups.now + 2

abbrev pub decreases-expand_at : goal.decreases-expand_at
decreases-expand_at l = 5 * length l.groups.now + 1

abbrev pub decreases-expand_use : goal.decreases-expand_use
decreases-expand_use l = 5 * length l.groups.now

abbrev pub decreases-expand_group : goal.decreases-expand_group
decreases-expand_group l = 5 * length l.earlier.now + 4

abbrev pub invariant-expand_nodes-loop-node : goal.invariant-expand_nodes-loop-node
invariant-expand_nodes-loop-node l =
    nodes_expanded (expander l.groups) l.prefix (flat_of l.initial.flat) l.list
    ≡ nodes_expanded (expander l.groups) l.prefix (flat_of l.flat) (drop l.node-index l.list)
