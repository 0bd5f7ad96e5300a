use Rattle.std.proofs.Common.{◌≡◌, ◌∙◌, true, false, ◌-ℤ◌, sym, ap, arith, w64, to_z, of_z}
use Rattle.std.proofs.lemmas.Int.{ints}
use Rattle.fx_base.specs.Bounds.{Bounds}
use Rattle.fx_move.specs.Mirror.{turns_columns}
use Rattle.fx_move.proofs.AnswerLaws.{rect_by}
use Rattle.fx_move.proofs.mirror.mirrored.Goals as goal

pub returns-then-turns_columns : goal.returns-then-turns_columns
returns-then-turns_columns c =
    let v = c.args.values.now in
    let r = c.args.rect in
    let test : turns_columns v ≡ true = sym c.turns_columns.ensures ∙ c.if-turns_columns.true in
    let side = ap (λ (b : Bounds). b.x2) c.project.view_is in
    let x1 = ap (λ (b : Bounds). b.x1) c.rect.view_is in
    let y1 = ap (λ (b : Bounds). b.y1) c.rect.view_is in
    let x2 = ap (λ (b : Bounds). b.x2) c.rect.view_is in
    let y2 = ap (λ (b : Bounds). b.y2) c.rect.view_is in
    let near = c.requires.near in
    let a = near.left in let b = near.bottom in let d = near.right in let e = near.top in
    let w = c.requires.project.wide in
    let side_of = to_z w64 (of_z w64 c.project.inside.x2) in
    rw test
    (rect_by c.of.result (to_z w64 (of_z w64 (side_of -ℤ to_z w64 (of_z w64 c.rect.inside.x2)))) (to_z w64 (of_z w64 c.rect.inside.y1)) (to_z w64 (of_z w64 (side_of -ℤ to_z w64 (of_z w64 c.rect.inside.x1)))) (to_z w64 (of_z w64 c.rect.inside.y2))
    (v.project.x2 -ℤ r.x2) r.y1 (v.project.x2 -ℤ r.x1) r.y2 c.of.ensures (omega (arith, ints)) (omega (arith, ints)) (omega (arith, ints)) (omega (arith, ints)))

pub returns-else-turns_columns : goal.returns-else-turns_columns
returns-else-turns_columns c =
    let v = c.args.values.now in
    let r = c.args.rect in
    let test : turns_columns v ≡ false = sym c.turns_columns.ensures ∙ c.if-turns_columns.false in
    let side = ap (λ (b : Bounds). b.y2) c.project.view_is in
    let x1 = ap (λ (b : Bounds). b.x1) c.rect.view_is in
    let y1 = ap (λ (b : Bounds). b.y1) c.rect.view_is in
    let x2 = ap (λ (b : Bounds). b.x2) c.rect.view_is in
    let y2 = ap (λ (b : Bounds). b.y2) c.rect.view_is in
    let near = c.requires.near in
    let a = near.left in let b = near.bottom in let d = near.right in let e = near.top in
    let h = c.requires.project.high in
    let side_of = to_z w64 (of_z w64 c.project.inside.y2) in
    rw test
    (rect_by c.of-else-turns_columns.result (to_z w64 (of_z w64 c.rect.inside.x1)) (to_z w64 (of_z w64 (side_of -ℤ to_z w64 (of_z w64 c.rect.inside.y2)))) (to_z w64 (of_z w64 c.rect.inside.x2)) (to_z w64 (of_z w64 (side_of -ℤ to_z w64 (of_z w64 c.rect.inside.y1))))
    r.x1 (v.project.y2 -ℤ r.y2) r.x2 (v.project.y2 -ℤ r.y1) c.of-else-turns_columns.ensures (omega (arith, ints)) (omega (arith, ints)) (omega (arith, ints)) (omega (arith, ints)))
