use Rattle.std.proofs.Common.{◌≡◌, ◌≤◌, ◌<◌, ◌∙◌, ◌+◌, ◌*◌, ℕ, ℤ, pos, negsuc, ◌+ℤ◌, ◌-ℤ◌, ◌≤ℤ◌, ◌<ℤ◌, arith, w64}
use Rattle.std.proofs.Common.{to_z, of_z}
use Rattle.std.proofs.lemmas.Int.{ints, to_z-of_z}
use Rattle.fx_base.specs.Rect.{IsStep}
use Rattle.fx_pixel.specs.Pixel.{greatest}
use Rattle.fx_kernel.specs.RowLaws.{greatest_few}
use Rattle.fx_kernel.specs.SumLaws.{no_sums, more_sums, sums_small}
use Rattle.fx_area.specs.BoxRows.{box_sample}
use Rattle.fx_area.proofs.boxblur.BoxRows.begin.Goals as goal

-- one of the rows of the first sums
module _ (a y b : ℤ) (v k : ℕ) (low : negsuc 1073741823 ≤ℤ a) (above : a ≤ℤ y) (below : y <ℤ b)
    (high : b ≤ℤ pos 1073741824) (flat : v ≤ 64) (few : k < 2 * v + 1) where
  row_is : to_z w64 (of_z w64 (to_z w64 (of_z w64 (to_z w64 (of_z w64 y) -ℤ to_z w64 v)) +ℤ to_z w64 k))
      ≡ (y -ℤ pos v) +ℤ pos k
  row_is = omega (arith, ints, low, above, below, high, flat, few)

  row_near :
      IsStep 2147483648 (to_z w64 (of_z w64 (to_z w64 (of_z w64 (to_z w64 (of_z w64 y) -ℤ to_z w64 v)) +ℤ to_z w64 k)))
  row_near = (omega (arith, ints, row_is, low, above, flat), omega (arith, ints, row_is, below, high, flat, few))

pub loop-k-init : goal.loop-k-init
loop-k-init c = no_sums c.clear.new.cells _ _ _ c.clear.ensures

pub add-requires-clause-small : goal.add-requires-clause-small
add-requires-clause-small c = sums_small c.loop-k.cells _ _ c.loop-k.k (greatest c.args.depth) c.loop-k.invariant (omega (arith, c.loop-k-test.true, c.requires.row.flat)) (greatest_few c.args.depth)

pub add-requires-clause-line : goal.add-requires-clause-line
add-requires-clause-line c =
    let q = c.requires.row in
    let rect = c.args.rect in
    let v = c.args.self.now.ry in
    record {
      source = q.source;
      narrow = q.narrow;
      near = q.near;
      wide = q.wide;
      row =
          row_near rect.y1 c.args.y rect.y2 v c.loop-k.k q.near.bottom q.above q.below q.near.top q.flat
          c.loop-k-test.true;
      cell_for_each = c.loop-k.auto.cells ∙ c.clear.auto.cells ∙ q.cell_for_each;
      byte_for_each = c.loop-k.auto.bytes ∙ q.byte_for_each;
    }

pub loop-k-preserved : goal.loop-k-preserved
loop-k-preserved c =
    let q = c.requires.row in
    let me = c.args.self.now in
    let k = c.loop-k.k in
    let a = to_z w64 (of_z w64 c.args.y) -ℤ pos me.ry in
    let j = to_z w64 (of_z w64 (to_z w64 (of_z w64 (to_z w64 (of_z w64 c.args.y) -ℤ to_z w64 me.ry)) +ℤ to_z w64 k)) in
    let row : j ≡ a +ℤ pos k = omega (arith, ints, q.near.bottom, q.near.top, q.above, q.below, q.flat, c.loop-k-test.true) in
    more_sums c.loop-k.cells c.add.new.cells (box_sample me.inputs.now me.frame me.rx c.args.components c.args.rect) a j k (greatest c.args.depth) row c.add.auto.cells c.loop-k.invariant c.add.ensures.sums c.add.ensures.bound

pub returns : goal.returns
returns c =
    let k : c.loop-k.k ≡ 2 * c.args.self.now.ry + 1 = omega (arith, c.loop-k-test.false, c.loop-k.auto.k-end) in
    let y : to_z w64 (of_z w64 c.args.y) ≡ c.args.y = to_z-of_z w64 c.args.y c.ranges.y in
    rw (k, y) at c.loop-k.invariant
