use Rattle.std.proofs.Common.{sym, arith, ◌∙◌, w64, FitsSigned}
use Rattle.std.proofs.lemmas.Int.{to_z-of_z}
use Rattle.fx_effect.specs.Tap.{tap}
use Rattle.fx_effect.proofs.PieceLaws.{first_here}
use Rattle.fx_effect.proofs.inputs.pixel_in_pieces.Goals as goal

pub returns-then-holds-clause-value : goal.returns-then-holds-clause-value
returns-then-holds-clause-value c =
    let frame : FitsSigned w64 c.args.frame = c.ranges.frame in
    let column : FitsSigned w64 c.args.x = c.ranges.x in
    let row : FitsSigned w64 c.args.y = c.ranges.y in
    let value = simp to_z-of_z at c.pixel.ensures.value in
    let holds = simp to_z-of_z at c.holds.ensures in
    let before = simp to_z-of_z at c.loop-placed.invariant in
    value ∙ sym (first_here c.args.depth c.args.components c.args.pieces.now c.loop-placed.placed-index c.placed-item.result (tap c.args.clip c.args.frame c.args.x c.args.y) (omega (arith, c.loop-placed-test.true)) c.placed-item.is (sym holds ∙ c.if-holds.true))
    ∙ before
