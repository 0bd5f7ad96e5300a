use Rattle.std.proofs.Common.{◌∙◌, ap, subst, All}
use Rattle.std.proofs.lemmas.List.{take_all}
use Rattle.std.proofs.lemmas.List.Elements.{All-more}
use Rattle.fx_text.specs.Nodes.{Node, Group, NamesRise}
use Rattle.fx_text.proofs.law.names_of_groups_rise.Goals as goal

abbrev rises : Node → Type 0
rises node = NamesRise node.work

abbrev group_rises : Group → Type 0
group_rises group = All rises group.nodes

pub loop-group-preserved : goal.loop-group-preserved
loop-group-preserved c =
    All-more group_rises c.args.groups.now c.loop-group.group-index c.group-item.result c.loop-group-test.true c.loop-group.invariant
    (subst group_rises c.group-item.is (subst (All rises) (c.items.ensures.value ∙ ap (λ (g : Group). g.nodes) c.group.view_is) c.names_of_nodes_rise.ensures))

pub returns : goal.returns
returns c = subst (All group_rises) (take_all c.loop-group.group-index c.args.groups.now c.loop-group-test.false) c.loop-group.invariant
