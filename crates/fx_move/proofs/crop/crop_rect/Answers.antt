use Rattle.std.proofs.Common.{◌+ℤ◌, arith, w64, to_z, of_z}
use Rattle.std.proofs.lemmas.Int.{ints}
use Rattle.fx_effect.specs.Numbers.{number}
use Rattle.fx_move.specs.CropLaws.{crop_numbers}
use Rattle.fx_move.proofs.AnswerLaws.{rect_by}
use Rattle.fx_move.proofs.crop.crop_rect.Goals as goal

pub returns : goal.returns
returns c =
    let v = c.args.values.now in
    let n = crop_numbers c.requires.context v c.requires.there in
    let x = n.0.above in let x' = n.0.below in
    let y = n.1.above in let y' = n.1.below in
    let w = n.2.above in let w' = n.2.below in
    let h = n.3.above in let h' = n.3.below in
    let a = c.number-x.ensures in let b = c.number-y.ensures in
    let d = c.number-width.ensures in let e = c.number-height.ensures in
    let left = to_z w64 (of_z w64 c.number-x.result) in
    let low = to_z w64 (of_z w64 c.number-y.result) in
    let right = to_z w64 (of_z w64 (left +ℤ to_z w64 (of_z w64 c.number-width.result))) in
    let high = to_z w64 (of_z w64 (low +ℤ to_z w64 (of_z w64 c.number-height.result))) in
    rect_by c.of.result left low right high (number v 0) (number v 1) (number v 0 +ℤ number v 2) (number v 1 +ℤ number v 3) c.of.ensures (omega (arith, ints)) (omega (arith, ints)) (omega (arith, ints)) (omega (arith, ints))
