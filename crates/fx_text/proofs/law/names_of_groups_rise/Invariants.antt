use Rattle.std.proofs.Common.{take, All}
use Rattle.fx_text.specs.Nodes.{Node, Group, NamesRise}
use Rattle.fx_text.proofs.law.names_of_groups_rise.Given as goal

abbrev pub invariant-loop-group : goal.invariant-loop-group
invariant-loop-group l = All (λ (group : Group). All (λ (node : Node). NamesRise node.work) group.nodes) (take l.group-index l.groups)
