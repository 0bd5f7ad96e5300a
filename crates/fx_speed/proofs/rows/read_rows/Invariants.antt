use Rattle.std.proofs.Common.{◌≡◌, ◌*◌, length}
use Rattle.fx_base.specs.Rect.{columns}
use Rattle.fx_speed.proofs.rows.read_rows.Given as goal

abbrev pub invariant-loop-n : goal.invariant-loop-n
invariant-loop-n l = length l.row ≡ 4 * columns l.rect
