use Rattle.std.proofs.Common.{◌≡◌, ◌++◌, map, take, drop}
use Rattle.fx_graph.specs.Shown.{shown}
use Rattle.fx_takes.specs.Shown.{edit_shown}
use Rattle.fx_proxy.specs.Scaled.{scaled_edit}
use Rattle.fx_proxy.proofs.taking.scale_edits.Given as goal

abbrev pub invariant-loop-edit : goal.invariant-loop-edit
invariant-loop-edit g l =
    map edit_shown l.edit-items
    ≡ map (scaled_edit g.E.Catalogue.number_of l.fn.q (map shown l.fn.graph.nodes.items)) (map edit_shown (take l.edit-index l.initial.edit-items))
    ++ map edit_shown (drop l.edit-index l.initial.edit-items)
