use Rattle.std.proofs.Common.{◌≡◌, ◌≤◌, ◌+◌, ◌*◌, length, ap, arith, ◌∙◌, w64, FitsSigned, rules}
use Rattle.std.specs.Int.{int_gap}
use Rattle.std.proofs.lemmas.Int.{to_z-of_z}
use Rattle.fx_base.specs.Rect.{columns}
use Rattle.fx_pixel.specs.Pixel.{greatest}
use Rattle.fx_pixel.specs.declared.Components.TheVariants.{Alpha}
use Rattle.fx_image.specs.Stored.{pixel_size, pixel_in}
use Rattle.fx_effect.specs.Given.{row_pixel}
use Rattle.fx_effect.proofs.PieceLaws.{column_room}
use Rattle.fx_merge.specs.Keymix.{keyed}
use Rattle.fx_merge.proofs.LineLaws.{line_of, shown_of}
use Rattle.fx_merge.proofs.keymix.KeyRowsRowKernel.fill_row.Goals as goal

pub read_row-requires-2-clause-row : goal.read_row-requires-2-clause-row
read_row-requires-2-clause-row c =
    let y : FitsSigned w64 c.args.y = c.ranges.y in
    simp to_z-of_z (line_of c.args.self.now.inputs.now 1 c.args.depth c.args.components c.args.components c.args.rect c.args.y c.args.row.now c.split_at_mut-other.result.0.now
    c.requires.makes.1 c.requires.row (c.split_at_mut-other.ensures.front_len ∙ c.requires.row.long))

pub read_row-requires-3-clause-row : goal.read_row-requires-3-clause-row
read_row-requires-3-clause-row c =
    let y : FitsSigned w64 c.args.y = c.ranges.y in
    let back : length c.split_at_mut-other.result.1.now ≡ columns c.args.rect * pixel_size c.args.depth Alpha =
    omega (arith, c.split_at_mut-other.ensures.back_len, c.requires.bytes, c.requires.row.long) in
    simp to_z-of_z (line_of c.args.self.now.inputs.now 2 c.args.depth c.args.components Alpha c.args.rect c.args.y c.args.row.now c.split_at_mut-other.result.1.now
    c.requires.makes.2 c.requires.row back)

pub returns-clause-shows : goal.returns-clause-shows
returns-clause-shows c x inside =
    let rect = c.args.rect in
    let me = c.args.self.now in
    let given = me.inputs.now in
    let d = c.args.depth in
    let s = c.args.components in
    let y : FitsSigned w64 c.args.y = c.ranges.y in
    let frame : FitsSigned w64 me.frame = search rules in
    let size = pixel_size d s in
    let first = shown_of given 0 d s rect c.args.y me.frame c.read_row.new.row c.requires.makes.0 (simp to_z-of_z at c.read_row.ensures) in
    let second = shown_of given 1 d s rect c.args.y me.frame c.read_row-2.new.row c.requires.makes.1 (simp to_z-of_z at c.read_row-2.ensures) in
    let third = shown_of given 2 d Alpha rect c.args.y me.frame c.read_row-3.new.row c.requires.makes.2 (simp to_z-of_z at c.read_row-3.ensures) in
    let long : length c.read_row.new.row ≡ columns rect * size = c.read_row.auto.row ∙ c.requires.row.long in
    let i = int_gap rect.x1 x in
    let room : i * size + size ≤ length c.read_row.new.row = rw long (column_room rect x c.args.y size inside) in
    let m = greatest d in
    c.key_row.ensures i room
    ∙ ap (λ p. keyed m p (pixel_in d s c.read_row-2.new.row i) (pixel_in d Alpha c.read_row-3.new.row i)) (first x inside)
    ∙ ap (λ p. keyed m (row_pixel given 0 me.frame x c.args.y) p (pixel_in d Alpha c.read_row-3.new.row i)) (second x inside)
    ∙ ap (keyed m (row_pixel given 0 me.frame x c.args.y) (row_pixel given 1 me.frame x c.args.y)) (third x inside)
