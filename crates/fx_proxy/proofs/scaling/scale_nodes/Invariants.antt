use Rattle.std.proofs.Common.{◌≡◌, ◌++◌, map, take, drop}
use Rattle.fx_graph.specs.Shown.{shown}
use Rattle.fx_proxy.specs.Scaled.{scaled_node}
use Rattle.fx_proxy.proofs.scaling.scale_nodes.Given as goal

abbrev pub invariant-loop-node : goal.invariant-loop-node
invariant-loop-node g l =
    map shown l.node-items
    ≡ map (scaled_node g.E.Catalogue.number_of l.fn.q) (map shown (take l.node-index l.initial.node-items)) ++ map shown (drop l.node-index l.initial.node-items)
