use Rattle.std.proofs.Common.{◌≡◌, ◌∙◌, ℤ, pos, ◌+ℤ◌, Bool, true, false, ap, refl, if◌then◌else◌, w64, FitsSigned, rules}
use Rattle.std.specs.Int.{int_gap}
use Rattle.std.proofs.lemmas.Int.{to_z-of_z}
use Rattle.fx_base.specs.Bounds.{Bounds}
use Rattle.fx_base.specs.Rect.{within}
use Rattle.fx_pixel.specs.declared.Depth.{Depth}
use Rattle.fx_pixel.specs.declared.Components.{Components}
use Rattle.fx_pixel.specs.Pixel.{zero}
use Rattle.fx_image.specs.Stored.{pixel_in}
use Rattle.fx_image.proofs.ImageLaws.{gap_is, gap_below, place_from}
use Rattle.fx_effect.specs.Given.{Given, row_pixel}
use Rattle.fx_effect.specs.Meaning.{rendered}
use Rattle.fx_effect.specs.Rows.{ShowsRow}
use Rattle.fx_effect.specs.declared.values.Values.{Values}
use Rattle.fx_effect.proofs.PieceLaws.{is_wide}
use Rattle.fx_effect.specs.SourceLaws.{shows_source}
use Rattle.fx_move.specs.Crop.{crop, crop_shape, crop_rect}
use Rattle.fx_move.proofs.crop.CropRowsRowKernel.fill_row.Goals as goal

-- the pixel of the effect, by the test of its place
crop_is : (v : Values) (given : Given) (depth : Depth) (c : Components) (x y : ℤ) → (if within (crop_rect v) x y then row_pixel given 0 v.frame x y else zero c) ≡ rendered crop v given depth c x y
crop_is v given depth c x y = go (within (crop_rect v) x y) refl
  where
    go : (b : Bool) → within (crop_rect v) x y ≡ b → (if within (crop_rect v) x y then row_pixel given 0 v.frame x y else zero c) ≡ rendered crop v given depth c x y
    go true is = rw is refl
    go false is = rw is refl

pub read_row-requires-clause-clip : goal.read_row-requires-clause-clip
read_row-requires-clause-clip c =
    let k = c.args.self.now in
    (shows_source crop_shape k.values.now k.inputs.now c.args.depth c.args.components (λ context. refl) c.requires.makes.0).there

pub read_row-requires-clause-row : goal.read_row-requires-clause-row
read_row-requires-clause-row c =
    let k = c.args.self.now in
    let row = c.requires.row in
    let y : FitsSigned w64 c.args.y = c.ranges.y in
    let shows = shows_source crop_shape k.values.now k.inputs.now c.args.depth c.args.components (λ context. refl) c.requires.makes.0 in
    simp to_z-of_z (rw (shows.depth_is, shows.components_are) (record { wide = is_wide c.args.rect row.bounds; above = row.above; below = row.below; long = row.long }))

pub returns-clause-shows : goal.returns-clause-shows
returns-clause-shows c x inside =
    let k = c.args.self.now in
    let v = k.values.now in
    let given = k.inputs.now in
    let rect = c.args.rect in
    let d = c.args.depth in
    let s = c.args.components in
    let y : FitsSigned w64 c.args.y = c.ranges.y in
    let frame : FitsSigned w64 v.frame = search rules in
    let shows = shows_source crop_shape v given d s (λ context. refl) c.requires.makes.0 in
    let read = simp to_z-of_z at c.read_row.ensures in
    let shown : ShowsRow d s rect c.args.y (row_pixel given 0 v.frame) c.read_row.new.row = rw (← shows.depth_is, ← shows.components_are) read in
    let place = place_from rect x c.args.y inside in
    let i = int_gap rect.x1 x in
    let cleared = simp to_z-of_z at c.clear_outside.ensures in
    let column : rect.x1 +ℤ pos i ≡ x = gap_is rect.x1 x place.left in
    cleared i (gap_below rect.x1 x rect.x2 place.left place.right)
    ∙ ap (λ (z : ℤ). if within k.crop z c.args.y then pixel_in d s c.read_row.new.row i else zero s) column
    ∙ ap (λ p. if within k.crop x c.args.y then p else zero s) (shown x inside)
    ∙ ap (λ (r : Bounds). if within r x c.args.y then row_pixel given 0 v.frame x c.args.y else zero s) c.requires.makes.1
    ∙ crop_is v given d s x c.args.y
