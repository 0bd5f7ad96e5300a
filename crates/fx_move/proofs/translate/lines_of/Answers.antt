use Rattle.std.proofs.Common.{◌∙◌, pos, ◌+ℤ◌, ap, arith, w64, to_z, of_z}
use Rattle.std.proofs.lemmas.Int.{ints}
use Rattle.fx_base.specs.Bounds.{Bounds}
use Rattle.fx_move.proofs.AnswerLaws.{rect_by}
use Rattle.fx_move.proofs.MirrorRows.{rect_of-proper}
use Rattle.fx_move.proofs.TranslateRows.{fits_wide}
use Rattle.fx_move.proofs.translate.lines_of.Goals as goal

pub overflow_add-x2-2 : goal.overflow_add-x2-2
overflow_add-x2-2 c =
    let near = c.requires.near in
    let p = near.left in let q = near.right in
    let wide = c.requires.wide in
    let left = c.requires.across.first.0 in let right = c.requires.across.first.1 in
    let x = ap (λ (b : Bounds). b.x2) c.rect.view_is in
    fits_wide (to_z w64 (of_z w64 (to_z w64 (of_z w64 c.rect.inside.x2) +ℤ to_z w64 (of_z w64 c.args.across.first))) +ℤ pos 1) (omega (arith, ints)) (omega (arith, ints))

pub returns : goal.returns
returns c =
    let a = c.args.across in
    let b = c.args.upward in
    let rect = c.args.rect in
    let near = c.requires.near in
    let p = near.left in let q = near.right in let r = near.bottom in let s = near.top in
    let wide = c.requires.wide in
    let above = c.requires.row.0 in let below = c.requires.row.1 in
    let left = c.requires.across.first.0 in let right = c.requires.across.first.1 in
    let low = c.requires.upward.first.0 in let high = c.requires.upward.first.1 in
    let x1 = ap (λ (b : Bounds). b.x1) c.rect.view_is in
    let x2 = ap (λ (b : Bounds). b.x2) c.rect.view_is in
    let x = to_z w64 (of_z w64 (to_z w64 (of_z w64 c.rect.inside.x1) +ℤ to_z w64 (of_z w64 a.first))) in
    let y = to_z w64 (of_z w64 (to_z w64 (of_z w64 c.args.y) +ℤ to_z w64 (of_z w64 b.first))) in
    let u = to_z w64 (of_z w64 (to_z w64 (of_z w64 (to_z w64 (of_z w64 c.rect.inside.x2) +ℤ to_z w64 (of_z w64 a.first))) +ℤ pos 1)) in
    let v = to_z w64 (of_z w64 (y +ℤ pos 2)) in
    rect_by c.of.result x y u v (rect.x1 +ℤ a.first) (c.args.y +ℤ b.first) (rect.x2 +ℤ a.first +ℤ pos 1) (c.args.y +ℤ b.first +ℤ pos 2) c.of.ensures (omega (arith, ints)) (omega (arith, ints)) (omega (arith, ints)) (omega (arith, ints))
    ∙ rect_of-proper (rect.x1 +ℤ a.first) (c.args.y +ℤ b.first) (rect.x2 +ℤ a.first +ℤ pos 1) (c.args.y +ℤ b.first +ℤ pos 2) (omega (arith, ints)) (omega (arith, ints))
