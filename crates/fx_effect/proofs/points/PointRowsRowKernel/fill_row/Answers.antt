use Rattle.std.proofs.Common.{◌≡◌, ◌≤◌, ◌+◌, ◌*◌, length, ap, ◌∙◌, w64, FitsSigned, rules}
use Rattle.std.specs.Int.{int_gap}
use Rattle.std.proofs.lemmas.Int.{to_z-of_z}
use Rattle.fx_base.specs.Rect.{columns}
use Rattle.fx_image.specs.Stored.{pixel_size}
use Rattle.fx_effect.specs.Rows.{ShowsRow}
use Rattle.fx_effect.specs.Given.{row_pixel}
use Rattle.fx_effect.proofs.PieceLaws.{column_room, is_wide}
use Rattle.fx_effect.proofs.points.PointRowsRowKernel.fill_row.Goals as goal

pub read_row-requires-clause-row : goal.read_row-requires-clause-row
read_row-requires-clause-row g c =
    let row = c.requires.row in
    let y : FitsSigned w64 c.args.y = c.ranges.y in
    simp to_z-of_z (rw (c.requires.makes.1.depth_is, c.requires.makes.1.components_are) (record { wide = is_wide c.args.rect row.bounds; above = row.above; below = row.below; long = row.long }))

pub returns-in-Some-clause-shows : goal.returns-in-Some-clause-shows
returns-in-Some-clause-shows g c x inside =
    let rect = c.args.rect in
    let k = c.args.self.now in
    let y : FitsSigned w64 c.args.y = c.ranges.y in
    let frame : FitsSigned w64 k.frame = search rules in
    let size = pixel_size c.args.depth c.args.components in
    let read = simp to_z-of_z at c.in-Some.ensures.pixels in
    let shown : ShowsRow c.args.depth c.args.components rect c.args.y (row_pixel k.inputs.now k.clip k.frame) c.in-Some.source.now =
    rw (← c.requires.makes.1.depth_is, ← c.requires.makes.1.components_are) read in
    let long : length c.in-Some.source.now ≡ columns rect * size = rw (← c.requires.makes.1.depth_is, ← c.requires.makes.1.components_are) c.in-Some.ensures.long in
    let room : int_gap rect.x1 x * size + size ≤ length c.in-Some.source.now = rw long (column_room rect x c.args.y size inside) in
    c.each_from.ensures (int_gap rect.x1 x) room ∙ ap (g.K.PointKernel.of k.kernel.now c.args.depth) (shown x inside)

pub returns-in-None-clause-shows : goal.returns-in-None-clause-shows
returns-in-None-clause-shows g c x inside =
    let rect = c.args.rect in
    let k = c.args.self.now in
    let y : FitsSigned w64 c.args.y = c.ranges.y in
    let frame : FitsSigned w64 k.frame = search rules in
    let size = pixel_size c.args.depth c.args.components in
    let read = simp to_z-of_z at c.read_row.ensures in
    let shown : ShowsRow c.args.depth c.args.components rect c.args.y (row_pixel k.inputs.now k.clip k.frame) c.read_row.new.row =
    rw (← c.requires.makes.1.depth_is, ← c.requires.makes.1.components_are) read in
    let long : length c.read_row.new.row ≡ columns rect * size = c.read_row.auto.row ∙ c.requires.row.long in
    let room : int_gap rect.x1 x * size + size ≤ length c.read_row.new.row = rw long (column_room rect x c.args.y size inside) in
    c.each_pixel.ensures (int_gap rect.x1 x) room ∙ ap (g.K.PointKernel.of k.kernel.now c.args.depth) (shown x inside)
