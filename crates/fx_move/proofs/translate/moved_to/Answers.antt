use Rattle.std.proofs.Common.{◌∙◌, pos, neg_ℤ, ◌-ℤ◌, ap, arith, w64, to_z, of_z}
use Rattle.std.proofs.lemmas.Int.{ints}
use Rattle.fx_base.specs.Rect.{hull, shifted}
use Rattle.fx_move.specs.Translate.{extra}
use Rattle.fx_move.specs.TranslateLaws.{extra_few}
use Rattle.fx_move.proofs.TranslateRows.{shift_by, hull_moved}
use Rattle.fx_move.proofs.translate.moved_to.Goals as goal

pub returns : goal.returns
returns c =
    let a = c.args.across in
    let b = c.args.upward in
    let rect = c.args.rect in
    let left = c.requires.across.first.0 in let right = c.requires.across.first.1 in
    let low = c.requires.upward.first.0 in let high = c.requires.upward.first.1 in
    let few = extra_few a in let less = extra_few b in
    let m = c.extra.ensures.value in let n = c.extra-2.ensures.value in
    let x = to_z w64 (of_z w64 (pos 0 -ℤ to_z w64 (of_z w64 a.first))) in
    let y = to_z w64 (of_z w64 (pos 0 -ℤ to_z w64 (of_z w64 b.first))) in
    let u = to_z w64 (of_z w64 (x -ℤ to_z w64 (of_z w64 c.extra.result))) in
    let v = to_z w64 (of_z w64 (y -ℤ to_z w64 (of_z w64 c.extra-2.result))) in
    let upper = shift_by c.shift-high.result rect x y (neg_ℤ a.first) (neg_ℤ b.first) c.shift-high.ensures.bounds (omega (arith, ints)) (omega (arith, ints)) in
    let lower = shift_by c.shift-low.result rect u v (neg_ℤ a.first -ℤ pos (extra a)) (neg_ℤ b.first -ℤ pos (extra b)) c.shift-low.ensures.bounds (omega (arith, ints)) (omega (arith, ints)) in
    c.hull.ensures.bounds ∙ ap (λ r. hull r c.shift-high.result) lower ∙ ap (hull (shifted rect (neg_ℤ a.first -ℤ pos (extra a)) (neg_ℤ b.first -ℤ pos (extra b)))) upper
    ∙ hull_moved rect (neg_ℤ a.first -ℤ pos (extra a)) (neg_ℤ b.first -ℤ pos (extra b)) (neg_ℤ a.first) (neg_ℤ b.first) (omega (arith, ints)) (omega (arith, ints))
