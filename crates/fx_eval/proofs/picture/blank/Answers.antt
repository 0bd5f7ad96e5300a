use Rattle.std.proofs.Common.{rules, ◌≤◌, ap, w64, arith}
use Rattle.std.proofs.lemmas.Int.{to_z-of_z, ints}
use mir.Val.{SFits}
use Rattle.fx_base.specs.Bounds.{Bounds}
use Rattle.fx_base.specs.Rect.{rows}
use Rattle.fx_image.proofs.ImageLaws.{gap_is}
use Rattle.fx_eval.proofs.PictureLemmas.{few_bytes}
use Rattle.fx_eval.proofs.picture.blank.Goals as goal

pub new-requires-clause-small : goal.new-requires-clause-small
new-requires-clause-small c =
    let f1 : SFits w64 c.project.inside.x1 = search rules in
    let f2 : SFits w64 c.project.inside.x2 = search rules in
    let e1 = ap (λ (q : Bounds). q.x1) c.project.view_is in
    let e2 = ap (λ (q : Bounds). q.x2) c.project.view_is in
    let left = c.requires.left in
    let bottom = c.requires.bottom in
    let wide = c.requires.wide in
    let high = c.requires.high in
    let up = gap_is c.args.project.y1 c.args.project.y2 (omega (arith, ints)) in
    let few : rows c.args.project ≤ 8192 = omega (arith, ints) in
    simp to_z-of_z (rw (c.count.ensures, c.size.ensures) (few_bytes (rows c.args.project) _ c.components_for-components.result c.args.depth few (omega (arith, ints))))
