use Rattle.std.proofs.Common.{◌≡◌, pos, ◌+ℤ◌, ◌-ℤ◌, inr, sym, subst, arith, w64, to_z, of_z, FitsSigned}
use Rattle.std.proofs.lemmas.Int.{ints, to_z-of_z}
use Rattle.fx_area.specs.BoxRows.{AreColumns, IsBoxRow}
use Rattle.fx_area.proofs.SideLaws.{row_wide}
use Rattle.fx_area.proofs.boxblur.BoxRowsRowKernel.fill_row.Goals as goal

pub returns-clause-shows : goal.returns-clause-shows
returns-clause-shows c =
    let y : FitsSigned w64 c.args.y = c.ranges.y in
    simp to_z-of_z at c.write.ensures

pub returns-clause-next : goal.returns-clause-next
returns-clause-next c =
    let me = c.args.self.now in
    let y : FitsSigned w64 c.args.y = c.ranges.y in
    let back : to_z w64 (of_z w64 c.args.y) ≡ (c.args.y +ℤ pos 1) -ℤ pos 1 = omega (arith, ints) in
    inr (subst (λ z. AreColumns me.inputs.now me.frame me.rx me.ry c.args.depth c.args.components c.args.rect z c.sum.new.cells) back c.sum.ensures)

pub sum-requires-clause-row : goal.sum-requires-clause-row
sum-requires-clause-row c =
    let me = c.args.self.now in
    let m = c.requires.makes in
    let row = c.requires.row in
    let y = to_z-of_z w64 c.args.y c.ranges.y in
    let cells = c.args.cells.now in let bytes = c.args.bytes.now in
    subst (λ z. IsBoxRow me.inputs.now me.rx me.ry c.args.depth c.args.components c.args.rect z cells bytes) (sym y)
    (record {
      source = m.0;
      narrow = m.1;
      flat = m.2;
      near = row.near;
      wide = row_wide c.args.rect c.args.y row.bounds row.above row.below;
      above = row.above;
      below = row.below;
      cell_for_each = c.requires.cells;
      byte_for_each = c.requires.bytes;
    })

pub write-requires-clause-sums : goal.write-requires-clause-sums
write-requires-clause-sums c = c.sum.ensures
