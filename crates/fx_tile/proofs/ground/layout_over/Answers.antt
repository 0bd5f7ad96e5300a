use Rattle.std.proofs.Common.{arith}
use Rattle.std.proofs.lemmas.Int.{ints}
use Rattle.std.proofs.lemmas.Nat.{mul-le}
use Rattle.fx_base.specs.Bounds.{Bounds}
use Rattle.fx_base.specs.Rect.{IsNear}
use Rattle.fx_effect.specs.Shape.{IsProject}
use Rattle.fx_tile.proofs.ground.layout_over.Goals as goal

near_project : (p : Bounds) → IsProject p → IsNear p
near_project p is =
    let a = is.left in let b = is.bottom in let w = is.wide.1 in let h = is.high.1 in
    record { left = omega (arith, ints); right = omega (arith, ints); bottom = omega (arith, ints); top = omega (arith, ints) }

pub returns-clause-laid : goal.returns-clause-laid
returns-clause-laid c =
    let value = c.row_bytes_of-row_bytes.ensures.value in
    let side = c.grid.inside.side in
    let all = mul-le side c.row_bytes_of-row_bytes.result 1024 65536 c.grid.invariant.1 c.row_bytes_of-row_bytes.ensures.small in
    let some = c.grid.invariant.0 in
    record {
      near = near_project c.args.project c.requires;
      rows_fit = omega (arith, value);
      some_rows = omega (arith, some);
      small = omega (arith, all);
    }
