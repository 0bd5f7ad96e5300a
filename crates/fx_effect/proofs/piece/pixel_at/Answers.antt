use Rattle.std.proofs.Common.{◌≡◌, ap, arith, ◌∙◌, w64, FitsSigned, rules}
use Rattle.std.specs.Int.{int_gap}
use Rattle.std.proofs.lemmas.Int.{ints, to_z-of_z}
use Rattle.fx_base.specs.Bounds.{Bounds}
use Rattle.fx_image.proofs.ImageLaws.{place_from}
use Rattle.fx_effect.proofs.PieceLaws.{column_room}
use Rattle.fx_effect.proofs.piece.pixel_at.Goals as goal

pub row-row-requires-clause-inside : goal.row-row-requires-clause-inside
row-row-requires-clause-inside c =
    let place = place_from c.args.view.now.rect c.args.x c.args.y c.requires.inside in
    (omega (arith, ints, place.bottom), omega (arith, ints, place.top))

pub offset-requires : goal.offset-requires
offset-requires c =
    let place = place_from c.args.view.now.rect c.args.x c.args.y c.requires.inside in
    let left = ap (λ (b : Bounds). b.x1) (c.left.view_is ∙ c.rect.ensures) in
    omega (arith, ints, left, place.left)

pub pixel-requires : goal.pixel-requires
pixel-requires c =
    let left = ap (λ (b : Bounds). b.x1) (c.left.view_is ∙ c.rect.ensures) in
    let fits : FitsSigned w64 c.left.inside.x1 = search rules in
    let column : FitsSigned w64 c.args.x = c.ranges.x in
    let row : FitsSigned w64 c.args.y = c.ranges.y in
    let there : c.offset.result ≡ int_gap c.args.view.now.rect.x1 c.args.x = (simp to_z-of_z at c.offset.ensures) ∙ ap (λ x. int_gap x c.args.x) left in
    rw (there, c.depth.ensures, c.components.ensures, c.row-row.ensures.len) (column_room c.args.view.now.rect c.args.x c.args.y _ c.requires.inside)

pub returns-clause-value : goal.returns-clause-value
returns-clause-value c =
    let left = ap (λ (b : Bounds). b.x1) (c.left.view_is ∙ c.rect.ensures) in
    let fits : FitsSigned w64 c.left.inside.x1 = search rules in
    let column : FitsSigned w64 c.args.x = c.ranges.x in
    let row : FitsSigned w64 c.args.y = c.ranges.y in
    let there : c.offset.result ≡ int_gap c.args.view.now.rect.x1 c.args.x = (simp to_z-of_z at c.offset.ensures) ∙ ap (λ x. int_gap x c.args.x) left in
    let shown = simp to_z-of_z at c.row-row.ensures.pixels in
    c.pixel.ensures.value ∙ (rw (there, c.depth.ensures, c.components.ensures) (shown c.args.x c.requires.inside))
