use Rattle.std.proofs.Common.{◌≡◌, ◌+◌, ◌*◌, pos, ◌+ℤ◌, ◌-ℤ◌, length, slice_index, ap, arith, ◌∙◌, w64, to_z, of_z, FitsSigned}
use Rattle.std.proofs.lemmas.Int.{ints, to_z-of_z}
use Rattle.fx_base.specs.Rect.{columns}
use Rattle.fx_pixel.specs.Pixel.{greatest, count, size}
use Rattle.fx_kernel.specs.SumLaws.{no_sums, more_sums, sums_small}
use Rattle.fx_kernel.specs.RowLaws.{greatest_few}
use Rattle.fx_time.specs.BlendRows.{moment_sample}
use Rattle.fx_time.proofs.LineLaws.{line_of, shown_of}
use Rattle.fx_time.proofs.BlendLaws.{sample_read, term_bound}
use Rattle.fx_time.proofs.WidthLaws.{cells_long}
use Rattle.fx_time.proofs.frameblend.BlendRows.sum.Goals as goal

pub loop-k-init : goal.loop-k-init
loop-k-init c = no_sums c.clear.new.cells _ _ _ c.clear.ensures

pub lend_row-line-requires-clause-row : goal.lend_row-line-requires-clause-row
lend_row-line-requires-clause-row c =
    let y : FitsSigned w64 c.args.y = c.ranges.y in
    simp to_z-of_z (line_of c.args.self.now.inputs.now 0 c.args.depth c.args.components c.args.components c.args.rect c.args.y c.args.bytes.now c.loop-k.bytes
    c.requires.shows c.requires.row (c.loop-k.auto.bytes ∙ c.requires.row.long))

pub add_row-requires-clause-small : goal.add_row-requires-clause-small
add_row-requires-clause-small c = sums_small c.loop-k.cells _ _ c.loop-k.k (greatest c.args.depth) c.loop-k.invariant (omega (arith, c.loop-k-test.true, c.requires.few)) (greatest_few c.args.depth)

pub loop-k-preserved : goal.loop-k-preserved
loop-k-preserved c =
    let q = c.requires in
    let me = c.args.self.now in
    let given = me.inputs.now in
    let d = c.args.depth in
    let rect = c.args.rect in
    let k = c.loop-k.k in
    let a = me.frame -ℤ pos me.radius in
    let z = to_z w64 (of_z w64 (to_z w64 (of_z w64 (to_z w64 (of_z w64 me.frame) -ℤ to_z w64 me.radius)) +ℤ to_z w64 k)) in
    let time : z ≡ a +ℤ pos k = omega (arith, ints, q.frame.0, q.frame.1, q.few, c.loop-k-test.true) in
    let y : FitsSigned w64 c.args.y = c.ranges.y in
    let shown = shown_of given 0 d c.args.components rect c.args.y z c.lend_row-line.result.now q.shows (simp to_z-of_z at c.lend_row-line.ensures.shows) in
    let long : length c.loop-k.cells ≡ columns rect * count c.args.components = omega (arith, c.loop-k.auto.cells, c.clear.auto.cells, q.cells) in
    let read = sample_read given z d c.args.components rect c.args.y c.args.bytes.now c.lend_row-line.result.now q.row shown in
    let before = simp to_z-of_z at c.loop-k.invariant in
    simp to_z-of_z (more_sums c.loop-k.cells c.add_row.new.cells (moment_sample given c.args.components rect c.args.y) a z k (greatest d) time c.add_row.auto.cells before
    (λ s low. c.add_row.ensures s low ∙ ap (λ v. slice_index c.loop-k.cells s + v) (read s (rw (← long) low)))
    (λ s low. term_bound given d c.args.components rect c.args.y s z c.pixels_fit.ensures q.shows.depth_is))

pub returns : goal.returns
returns c =
    let k : c.loop-k.k ≡ 2 * c.args.self.now.radius + 1 = omega (arith, c.loop-k-test.false, c.loop-k.auto.k-end) in
    let y : to_z w64 (of_z w64 c.args.y) ≡ c.args.y = to_z-of_z w64 c.args.y c.ranges.y in
    rw (k, y) at c.loop-k.invariant

pub add_row-requires-clause-long : goal.add_row-requires-clause-long
add_row-requires-clause-long c =
    cells_long _ _ _ (count c.args.components) (size c.args.depth)
    (c.lend_row-line.ensures.long ∙ c.loop-k.auto.bytes ∙ c.requires.row.long)
    (c.loop-k.auto.cells ∙ c.clear.auto.cells ∙ c.requires.cells)
