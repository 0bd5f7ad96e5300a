use Rattle.std.proofs.Common.{◌≡◌, ◌++◌, map, take, drop}
use Rattle.fx_graph.specs.Shown.{shown}
use Rattle.fx_takes.specs.Shown.{take_shown}
use Rattle.fx_proxy.specs.Scaled.{scaled_take}
use Rattle.fx_proxy.proofs.taking.scale_each.Given as goal

abbrev pub invariant-loop-take : goal.invariant-loop-take
invariant-loop-take g l =
    map take_shown l.take-items
    ≡ map (scaled_take g.E.Catalogue.number_of l.fn.q (map shown l.fn.graph.nodes.items)) (map take_shown (take l.take-index l.initial.take-items))
    ++ map take_shown (drop l.take-index l.initial.take-items)
