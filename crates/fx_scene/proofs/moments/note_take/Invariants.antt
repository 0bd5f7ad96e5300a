use Rattle.std.proofs.Common.{◌≡◌, ◌+◌, ◌-◌, ◌*◌, List}
use Rattle.fx_scene.specs.Rows.{rows_in, with_rows}
use Rattle.fx_scene.specs.Scenes.{graph_shown}
use Rattle.fx_scene.specs.Takes.{nodes_at}
use Rattle.fx_scene.specs.Uses.{HasUses, wanting}
use Rattle.fx_scene.specs.Wants.{IsNamedIn}
use Rattle.fx_scene.specs.declared.take.Edit.{Edit}
use Rattle.fx_scene.proofs.moments.note_take.Given as goal

abbrev pub invariant-loop-i : goal.invariant-loop-i
invariant-loop-i g l =
    let shown = graph_shown l.graph in
    let count = l.last + 1 - l.first in
    (takes : List (List Edit)) → nodes_at shown.nodes takes l.take ≡ with_rows shown.nodes (rows_in l.rows)
    → HasUses (wanting g.E.ImageEffect.meaning shown takes l.first count) (IsNamedIn shown) (l.take * count) l.fn.table
    → HasUses (wanting g.E.ImageEffect.meaning shown takes l.first count) (IsNamedIn shown) (l.take * count + l.i) l.table
