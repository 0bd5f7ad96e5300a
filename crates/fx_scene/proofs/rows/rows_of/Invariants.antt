use Rattle.std.proofs.Common.{◌≡◌, map, take}
use Rattle.fx_graph.specs.Shown.{does_of}
use Rattle.fx_scene.specs.Rows.{own_row, rows_in}
use Rattle.fx_scene.proofs.rows.rows_of.Given as goal

abbrev pub invariant-loop-node : goal.invariant-loop-node
invariant-loop-node g l = rows_in l.rows.items ≡ map (λ n. own_row (does_of n.work)) (take l.node-index l.graph.nodes.items)
