use Rattle.std.proofs.Common.{◌∙◌, ap, subst, All}
use Rattle.fx_text.specs.Nodes.{Node, Group, Graph, NamesRise}
use Rattle.fx_text.proofs.law.names_rise.Goals as goal

abbrev rises : Node → Type 0
rises node = NamesRise node.work

abbrev group_rises : Group → Type 0
group_rises group = All rises group.nodes

pub returns-clause-nodes : goal.returns-clause-nodes
returns-clause-nodes c =
    subst (All rises) (c.items.ensures.value ∙ ap (λ (g : Graph). g.nodes) c.graph.view_is) c.names_of_nodes_rise.ensures

pub returns-clause-groups : goal.returns-clause-groups
returns-clause-groups c =
    subst (All group_rises) (c.items-2.ensures.value ∙ ap (λ (g : Graph). g.groups) c.graph.view_is) c.names_of_groups_rise.ensures
