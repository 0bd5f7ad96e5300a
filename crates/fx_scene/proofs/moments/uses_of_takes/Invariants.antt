use Rattle.std.proofs.Common.{◌≡◌, ◌+◌, ◌-◌, ◌*◌, length, map}
use Rattle.fx_graph.specs.Shown.{shown}
use Rattle.fx_scene.specs.Rows.{rows_in, with_rows}
use Rattle.fx_scene.specs.Scenes.{graph_shown}
use Rattle.fx_scene.specs.Takes.{edits_of, nodes_at}
use Rattle.fx_scene.specs.Uses.{HasUses, wanting}
use Rattle.fx_scene.specs.Wants.{IsNamedIn}
use Rattle.fx_scene.proofs.moments.uses_of_takes.Given as goal

abbrev pub invariant-loop-k : goal.invariant-loop-k
invariant-loop-k g l =
    let over = graph_shown l.graph in
    let count = l.last + 1 - l.first in
    let edits = edits_of l.takes.list.items in
    record {
      long : length (rows_in l.rows.items) ≡ length (map shown l.graph.nodes.items);
      nodes : nodes_at over.nodes edits l.k ≡ with_rows over.nodes (rows_in l.rows.items);
      uses : HasUses (wanting g.E.ImageEffect.meaning over edits l.first count) (IsNamedIn over) (l.k * count + count) l.table;
    }
