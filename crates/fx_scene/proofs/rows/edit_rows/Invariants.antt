use Rattle.std.proofs.Common.{◌≡◌, take}
use Rattle.std.specs.List.{AllByRecursion}
use Rattle.fx_scene.specs.Rows.{HasPlace, rows_edited, rows_in}
use Rattle.fx_scene.proofs.rows.edit_rows.Given as goal

abbrev pub invariant-loop-edit : goal.invariant-loop-edit
invariant-loop-edit l =
    record {
      edited : rows_in l.rows.items ≡ rows_edited (take l.edit-index l.edits) (rows_in l.fn.rows.items);
      places : AllByRecursion (HasPlace (rows_in l.rows.items)) l.edits;
    }
