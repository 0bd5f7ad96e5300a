use Rattle.std.proofs.Common.{◌≡◌, ◌∙◌, pos, ◌+ℤ◌, ap, arith, w64, to_z, of_z, FitsSigned, rules}
use Rattle.std.proofs.lemmas.Int.{ints, to_z-of_z}
use Rattle.fx_base.specs.Bounds.{Bounds}
use Rattle.fx_area.proofs.AreaLaws.{fits_far, level_far, sides_of}
use Rattle.fx_area.proofs.SideLaws.{columns_are, columns_ordered}
use Rattle.fx_area.proofs.extreme.area_line.Goals as goal

pub returns-clause-place : goal.returns-clause-place
returns-clause-place c =
    let area = c.requires.area in
    let j = c.args.j in
    let a : FitsSigned w64 c.area.inside.x1 = search rules in
    let d : FitsSigned w64 c.area.inside.y1 = search rules in
    let y = to_z w64 (of_z w64 c.area.inside.y1) in
    let left : to_z w64 (of_z w64 c.area.inside.x1) ≡ c.args.area.x1 = to_z-of_z w64 c.area.inside.x1 a ∙ ap (λ (r : Bounds). r.x1) c.area.view_is in
    let low : y ≡ c.args.area.y1 = to_z-of_z w64 c.area.inside.y1 d ∙ ap (λ (r : Bounds). r.y1) c.area.view_is in
    let far = level_far c.args.area y j area low c.requires.row in
    let is : to_z w64 j ≡ pos j = omega (arith, ints, c.requires.row, (sides_of c.args.area area).few_rows) in
    let fits = fits_far (y +ℤ pos j) (omega (arith, ints, far.0)) (omega (arith, ints, far.1)) in
    let level : to_z w64 (of_z w64 (y +ℤ to_z w64 j)) ≡ y +ℤ pos j = rw is (to_z-of_z w64 (y +ℤ pos j) fits) in (
      (omega (arith, ints, left, area.near.left.0), omega (arith, ints, left, area.near.left.1)),
      (omega (arith, ints, level, far.0), omega (arith, ints, level, far.1)),
    )

pub offset-requires : goal.offset-requires
offset-requires c = columns_ordered _ c.args.area c.area.view_is c.requires.area

pub returns-clause-some : goal.returns-clause-some
returns-clause-some c =
    let w = columns_are _ c.args.area c.offset.result c.area.view_is c.requires.area c.offset.ensures in
    omega (arith, w, (sides_of c.args.area c.requires.area).some_columns)

pub returns-clause-few : goal.returns-clause-few
returns-clause-few c =
    let w = columns_are _ c.args.area c.offset.result c.area.view_is c.requires.area c.offset.ensures in
    omega (arith, w, (sides_of c.args.area c.requires.area).few_columns)
