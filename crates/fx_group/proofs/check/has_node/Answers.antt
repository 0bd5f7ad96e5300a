use Rattle.std.proofs.Common.{◌∙◌, sym, bytes_eq}
use Rattle.fx_text.specs.Nodes.{Node}
use Rattle.fx_group.proofs.Checks.{any_map}
use Rattle.fx_group.proofs.check.has_node.Goals as goal

pub returns : goal.returns
returns c = c.any_named.ensures ∙ sym (any_map (λ (n : Node). n.name) (λ t. bytes_eq t c.args.name.now) c.args.nodes.now)
