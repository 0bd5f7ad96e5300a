use Rattle.std.proofs.Common.{◌≡◌, ◌≤◌, ◌+◌, ◌*◌, ℕ, ℤ, pos, negsuc, ◌≤ℤ◌, ◌<ℤ◌, ◌+ℤ◌, ◌-ℤ◌, ◌∙◌, arith, w64, to_z}
use Rattle.std.proofs.Common.{of_z}
use Rattle.std.proofs.lemmas.Int.{ints}
use Rattle.fx_base.specs.Rect.{IsStep}
use Rattle.fx_pixel.specs.Pixel.{greatest}
use Rattle.fx_kernel.specs.RowLaws.{greatest_few}
use Rattle.fx_kernel.specs.SumLaws.{sums_small}
use Rattle.fx_area.proofs.BoxLaws.{with_next, last_enough, without_last}
use Rattle.fx_area.proofs.boxblur.BoxRows.slide.Goals as goal

-- the row that comes, and the one that goes
module _ (a y b : ℤ) (v : ℕ) (low : negsuc 1073741823 ≤ℤ a) (above : a ≤ℤ y) (below : y <ℤ b)
    (high : b ≤ℤ pos 1073741824) (flat : v ≤ 64) where
  next_row : to_z w64 (of_z w64 (to_z w64 (of_z w64 y) +ℤ to_z w64 v)) ≡ y +ℤ pos v
  next_row = omega (arith, ints, low, above, below, high, flat)

  last_row : to_z w64 (of_z w64 (to_z w64 (of_z w64 (to_z w64 (of_z w64 y) -ℤ pos 1)) -ℤ to_z w64 v))
      ≡ (y -ℤ pos 1) -ℤ pos v
  last_row = omega (arith, ints, low, above, below, high, flat)

  next_near : IsStep 2147483648 (to_z w64 (of_z w64 (to_z w64 (of_z w64 y) +ℤ to_z w64 v)))
  next_near = (omega (arith, ints, next_row, low, above), omega (arith, ints, next_row, below, high, flat))

  last_near :
      IsStep 2147483648 (to_z w64 (of_z w64 (to_z w64 (of_z w64 (to_z w64 (of_z w64 y) -ℤ pos 1)) -ℤ to_z w64 v)))
  last_near = (omega (arith, ints, last_row, low, above, flat), omega (arith, ints, last_row, below, high))

pub add-requires-clause-line : goal.add-requires-clause-line
add-requires-clause-line c =
    let q = c.requires.row in
    let rect = c.args.rect in
    let v = c.args.self.now.ry in
    record {
      source = q.source;
      narrow = q.narrow;
      near = q.near;
      wide = q.wide;
      row = next_near rect.y1 c.args.y rect.y2 v q.near.bottom q.above q.below q.near.top q.flat;
      cell_for_each = q.cell_for_each;
      byte_for_each = q.byte_for_each;
    }

pub add-requires-clause-small : goal.add-requires-clause-small
add-requires-clause-small c = sums_small c.args.cells.now _ _ (2 * c.args.self.now.ry + 1) (greatest c.args.depth) c.requires.before (omega (arith, c.requires.row.flat)) (greatest_few c.args.depth)

pub take-requires-clause-line : goal.take-requires-clause-line
take-requires-clause-line c =
    let q = c.requires.row in
    let rect = c.args.rect in
    let v = c.args.self.now.ry in
    record {
      source = q.source;
      narrow = q.narrow;
      near = q.near;
      wide = q.wide;
      row = last_near rect.y1 c.args.y rect.y2 v q.near.bottom q.above q.below q.near.top q.flat;
      cell_for_each = c.add.auto.cells ∙ q.cell_for_each;
      byte_for_each = c.add.auto.bytes ∙ q.byte_for_each;
    }

pub take-requires-clause-enough : goal.take-requires-clause-enough
take-requires-clause-enough c =
    let q = c.requires.row in
    let me = c.args.self.now in
    let m = greatest c.args.depth in
    let next = to_z w64 (of_z w64 (to_z w64 (of_z w64 c.args.y) +ℤ to_z w64 me.ry)) in
    let last = to_z w64 (of_z w64 (to_z w64 (of_z w64 (to_z w64 (of_z w64 c.args.y) -ℤ pos 1)) -ℤ to_z w64 me.ry)) in
    let next_is =
    next_row c.args.rect.y1 c.args.y c.args.rect.y2 me.ry q.near.bottom q.above q.below q.near.top q.flat in
    let last_is =
    last_row c.args.rect.y1 c.args.y c.args.rect.y2 me.ry q.near.bottom q.above q.below q.near.top q.flat in
    let with = with_next me.inputs.now me.frame me.rx me.ry m c.args.components c.args.rect c.args.y c.args.cells.now c.add.new.cells next next_is c.add.auto.cells c.requires.before c.add.ensures.sums c.add.ensures.bound in
    last_enough me.inputs.now me.frame me.rx me.ry m c.args.components c.args.rect c.args.y c.add.new.cells last last_is with

pub returns : goal.returns
returns c =
    let q = c.requires.row in
    let me = c.args.self.now in
    let m = greatest c.args.depth in
    let next = to_z w64 (of_z w64 (to_z w64 (of_z w64 c.args.y) +ℤ to_z w64 me.ry)) in
    let last = to_z w64 (of_z w64 (to_z w64 (of_z w64 (to_z w64 (of_z w64 c.args.y) -ℤ pos 1)) -ℤ to_z w64 me.ry)) in
    let next_is =
    next_row c.args.rect.y1 c.args.y c.args.rect.y2 me.ry q.near.bottom q.above q.below q.near.top q.flat in
    let last_is =
    last_row c.args.rect.y1 c.args.y c.args.rect.y2 me.ry q.near.bottom q.above q.below q.near.top q.flat in
    let with = with_next me.inputs.now me.frame me.rx me.ry m c.args.components c.args.rect c.args.y c.args.cells.now c.add.new.cells next next_is c.add.auto.cells c.requires.before c.add.ensures.sums c.add.ensures.bound in
    without_last me.inputs.now me.frame me.rx me.ry m c.args.components c.args.rect c.args.y c.add.new.cells c.take.new.cells last last_is c.take.auto.cells with c.take.ensures
