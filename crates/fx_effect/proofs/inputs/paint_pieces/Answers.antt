use Rattle.std.proofs.Common.{◌≡◌, ◌<◌, ◌+◌, ◌-◌, length, arith, w64, to_z, of_z, FitsSigned}
use Rattle.std.proofs.lemmas.Int.{to_z-of_z}
use Rattle.fx_effect.specs.Tap.{tap}
use Rattle.fx_effect.proofs.RunLaws.{painted_first}
use Rattle.fx_effect.proofs.inputs.paint_pieces.Goals as goal

pub loop-n-preserved : goal.loop-n-preserved
loop-n-preserved c x inside =
    let pieces = c.args.pieces.now in
    let n = c.loop-n.n in
    let i = length pieces - 1 - n in
    let t = tap c.args.clip (to_z w64 (of_z w64 c.args.frame)) x (to_z w64 (of_z w64 c.args.y)) in
    let low : i < length pieces = omega (arith, c.loop-n-test.true) in
    let this : length pieces - (n + 1) ≡ i = omega arith in
    let next : length pieces - n ≡ i + 1 = omega (arith, c.loop-n-test.true) in
    let before = rw next at (c.loop-n.invariant x inside) in
    rw this (painted_first c.args.depth c.args.components pieces i c.index-pieces-pieces.result t _ _ _ low c.index-pieces-pieces.is before (c.paint_for.ensures x inside))

pub returns : goal.returns
returns c x inside =
    let row : FitsSigned w64 c.args.y = c.ranges.y in
    let time : FitsSigned w64 c.args.frame = c.ranges.frame in
    let done = simp to_z-of_z at c.loop-n.invariant in
    let none : length c.args.pieces.now - c.loop-n.n ≡ 0 = omega (arith, c.loop-n-test.false) in
    let all = rw none at (done x inside) in
    all
