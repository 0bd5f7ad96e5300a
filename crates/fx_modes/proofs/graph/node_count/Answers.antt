use Rattle.std.proofs.Common.{sym, ap, length, ◌∙◌}
use Rattle.std.proofs.lemmas.List.{length-map}
use Rattle.fx_graph.specs.Shown.{shown}
use Rattle.fx_modes.proofs.graph.node_count.Goals as goal

pub returns : goal.returns
returns c = ap length c.as_slice.ensures.value ∙ sym (length-map c.args.graph.now.nodes.items shown)
