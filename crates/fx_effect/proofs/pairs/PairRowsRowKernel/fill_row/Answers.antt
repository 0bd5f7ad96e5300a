use Rattle.std.proofs.Common.{◌≡◌, ◌≤◌, ◌+◌, ◌*◌, length, ap, ◌∙◌, w64, FitsSigned, rules}
use Rattle.std.specs.Int.{int_gap}
use Rattle.std.proofs.lemmas.Int.{to_z-of_z}
use Rattle.fx_base.specs.Rect.{columns}
use Rattle.fx_image.specs.Stored.{pixel_size, pixel_in}
use Rattle.fx_effect.specs.Rows.{ShowsRow}
use Rattle.fx_effect.specs.Given.{row_pixel}
use Rattle.fx_effect.proofs.PieceLaws.{column_room, is_wide}
use Rattle.fx_effect.proofs.pairs.PairRowsRowKernel.fill_row.Goals as goal

pub read_row-requires-clause-row : goal.read_row-requires-clause-row
read_row-requires-clause-row g c =
    let row = c.requires.row in
    let y : FitsSigned w64 c.args.y = c.ranges.y in
    let one = c.requires.makes.1.one in
    simp to_z-of_z (rw (one.depth_is, one.components_are) (record { wide = is_wide c.args.rect row.bounds; above = row.above; below = row.below; long = row.long }))

pub lend_row-other-requires-clause-row : goal.lend_row-other-requires-clause-row
lend_row-other-requires-clause-row g c =
    let row = c.requires.row in
    let y : FitsSigned w64 c.args.y = c.ranges.y in
    let other = c.requires.makes.1.other in
    simp to_z-of_z (rw (other.depth_is, other.components_are) (record { wide = is_wide c.args.rect row.bounds; above = row.above; below = row.below; long = c.requires.bytes }))

pub returns-clause-shows : goal.returns-clause-shows
returns-clause-shows g c x inside =
    let rect = c.args.rect in
    let k = c.args.self.now in
    let d = c.args.depth in
    let s = c.args.components in
    let y : FitsSigned w64 c.args.y = c.ranges.y in
    let fa : FitsSigned w64 k.first.frame = search rules in
    let fb : FitsSigned w64 k.second.frame = search rules in
    let size = pixel_size d s in
    let a = c.requires.makes.1.one in
    let b = c.requires.makes.1.other in
    let read = simp to_z-of_z at c.read_row.ensures in
    let read_other = simp to_z-of_z at c.lend_row-other.ensures.shows in
    let one : ShowsRow d s rect c.args.y (row_pixel k.inputs.now k.first.clip k.first.frame) c.read_row.new.row = rw (← a.depth_is, ← a.components_are) read in
    let other : ShowsRow d s rect c.args.y (row_pixel k.inputs.now k.second.clip k.second.frame) c.lend_row-other.result.now = rw (← b.depth_is, ← b.components_are) read_other in
    let long : length c.read_row.new.row ≡ columns rect * size = c.read_row.auto.row ∙ c.requires.row.long in
    let i = int_gap rect.x1 x in
    let room : i * size + size ≤ length c.read_row.new.row = rw long (column_room rect x c.args.y size inside) in
    let made = g.K.PairKernel.of k.kernel.now d in
    c.pair_row.ensures i room ∙ ap (λ p. made p (pixel_in d s c.lend_row-other.result.now i)) (one x inside) ∙ ap (made (row_pixel k.inputs.now k.first.clip k.first.frame x c.args.y)) (other x inside)
