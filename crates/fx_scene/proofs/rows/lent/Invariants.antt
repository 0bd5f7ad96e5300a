use Rattle.std.proofs.Common.{◌≡◌, take}
use Rattle.fx_scene.specs.Rows.{row_in}
use Rattle.fx_scene.proofs.rows.lent.Given as goal

abbrev pub invariant-loop-param : goal.invariant-loop-param
invariant-loop-param l = row_in l.row.items ≡ take l.param-index l.params
