use Rattle.std.proofs.Common.{arith, ◌∙◌, w64, FitsSigned}
use Rattle.std.proofs.lemmas.Int.{to_z-of_z}
use Rattle.fx_effect.specs.Tap.{tap}
use Rattle.fx_effect.proofs.PieceLaws.{first_next, row_here, if_some}
use Rattle.fx_effect.proofs.inputs.row_in_pieces.Goals as goal

pub returns-then-meets-clause-pixels : goal.returns-then-meets-clause-pixels
returns-then-meets-clause-pixels c =
    let frame : FitsSigned w64 c.args.frame = c.ranges.frame in
    let at : FitsSigned w64 c.args.y = c.ranges.y in
    let rows = simp to_z-of_z at c.row.ensures in
    let same = simp to_z-of_z at (c.meets.ensures.is_for c.if-meets.true) in
    let before = simp to_z-of_z at c.loop-placed.invariant in
    if_some c.row.result _ _ (λ bytes row. row_here c.args.depth c.args.components c.args.pieces.now c.loop-placed.placed-index c.placed-item.result c.args.clip c.args.frame c.args.rect c.args.y bytes.now (omega (arith, c.loop-placed-test.true)) c.placed-item.is same row before) rows

pub loop-placed-preserved : goal.loop-placed-preserved
loop-placed-preserved c x inside =
    let frame : FitsSigned w64 c.args.frame = c.ranges.frame in
    let at : FitsSigned w64 c.args.y = c.ranges.y in
    let there = simp to_z-of_z at inside in
    let apart = simp to_z-of_z at c.meets.ensures.apart in
    let before = simp to_z-of_z at c.loop-placed.invariant in
    simp to_z-of_z (first_next c.args.depth c.args.components c.args.pieces.now c.loop-placed.placed-index c.placed-item.result (tap c.args.clip c.args.frame x c.args.y) (omega (arith, c.loop-placed-test.true)) c.placed-item.is (apart c.if-meets.false x there) ∙ before x there)
