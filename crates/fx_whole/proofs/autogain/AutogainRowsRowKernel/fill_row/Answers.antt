use Rattle.std.proofs.Common.{◌≡◌, ◌∙◌, ℤ, pos, ◌+ℤ◌, ap, refl, if◌then◌else◌, w64, FitsSigned, rules}
use Rattle.std.specs.Int.{int_gap}
use Rattle.std.proofs.lemmas.Int.{to_z-of_z}
use Rattle.fx_base.specs.Rect.{within}
use Rattle.fx_pixel.specs.Pixel.{greatest, zero}
use Rattle.fx_image.specs.Stored.{pixel_in}
use Rattle.fx_image.proofs.ImageLaws.{gap_is, gap_below, place_from}
use Rattle.fx_effect.specs.Given.{row_pixel}
use Rattle.fx_effect.specs.Rows.{ShowsRow}
use Rattle.fx_effect.proofs.PieceLaws.{is_wide}
use Rattle.fx_whole.specs.Autogain.{autogain_shape, levelled}
use Rattle.fx_whole.proofs.RenderLaws.{autogain_is, shows_source}
use Rattle.fx_whole.proofs.autogain.AutogainRowsRowKernel.fill_row.Goals as goal

pub lend_row-line-requires-clause-clip : goal.lend_row-line-requires-clause-clip
lend_row-line-requires-clause-clip c =
    let k = c.args.self.now in
    (shows_source autogain_shape k.values.now k.inputs.now c.args.depth c.args.components (λ context. refl) c.requires.makes.0).there

pub lend_row-line-requires-clause-row : goal.lend_row-line-requires-clause-row
lend_row-line-requires-clause-row c =
    let k = c.args.self.now in
    let row = c.requires.row in
    let y : FitsSigned w64 c.args.y = c.ranges.y in
    let shows = shows_source autogain_shape k.values.now k.inputs.now c.args.depth c.args.components (λ context. refl) c.requires.makes.0 in
    simp to_z-of_z (rw (shows.depth_is, shows.components_are) (record { wide = is_wide c.args.rect row.bounds; above = row.above; below = row.below; long = c.requires.bytes }))

pub returns-clause-shows : goal.returns-clause-shows
returns-clause-shows c x inside =
    let k = c.args.self.now in
    let v = k.values.now in
    let given = k.inputs.now in
    let rect = c.args.rect in
    let d = c.args.depth in
    let s = c.args.components in
    let m = greatest d in
    let level = k.level.level in
    let y : FitsSigned w64 c.args.y = c.ranges.y in
    let frame : FitsSigned w64 v.frame = search rules in
    let shows = shows_source autogain_shape v given d s (λ context. refl) c.requires.makes.0 in
    let read = simp to_z-of_z at c.lend_row-line.ensures.shows in
    let shown : ShowsRow d s rect c.args.y (row_pixel given 0 v.frame) c.lend_row-line.result.now = rw (← shows.depth_is, ← shows.components_are) read in
    let place = place_from rect x c.args.y inside in
    let i = int_gap rect.x1 x in
    let made = simp to_z-of_z at c.level_row.ensures in
    let column : rect.x1 +ℤ pos i ≡ x = gap_is rect.x1 x place.left in
    made i (gap_below rect.x1 x rect.x2 place.left place.right)
    ∙ ap (λ (z : ℤ). if within v.project z c.args.y then levelled m level (pixel_in d s c.lend_row-line.result.now i) else zero s) column
    ∙ ap (λ p. if within v.project x c.args.y then levelled m level p else zero s) (shown x inside)
    ∙ autogain_is v given d s level x c.args.y c.requires.makes.1.of_extent
