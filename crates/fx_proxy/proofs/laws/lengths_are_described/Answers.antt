use Rattle.std.proofs.Common.{map}
use Rattle.fx_graph.specs.Shown.{shown}
use Rattle.fx_proxy.proofs.ShippedLemmas.{shipped_lengths}
use Rattle.fx_proxy.proofs.laws.lengths_are_described.Goals as goal

pub returns : goal.returns
returns c =
    let graph = c.args.graph.now in
    shipped_lengths (graph.depth, graph.components) (map shown graph.nodes.items) graph.kept
