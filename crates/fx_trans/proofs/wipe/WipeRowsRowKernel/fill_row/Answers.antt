use Rattle.std.proofs.Common.{◌≡◌, Bool, true, false, ap, ◌∙◌, w64, FitsSigned, rules, nat_lt, if◌then◌else◌}
use Rattle.std.specs.Int.{int_gap}
use Rattle.std.proofs.lemmas.Int.{to_z-of_z}
use Rattle.fx_base.proofs.RectLemmas.{IsInside-from_holds}
use Rattle.fx_pixel.specs.declared.Pixel.{Pixel}
use Rattle.fx_image.specs.Stored.{pixel_in}
use Rattle.fx_effect.specs.Given.{row_pixel}
use Rattle.fx_effect.proofs.PieceLaws.{is_wide}
use Rattle.fx_trans.specs.Wipe.{shows_to}
use Rattle.fx_trans.proofs.LineLaws.{line_of, shown_of}
use Rattle.fx_trans.proofs.wipe.WipeRowsRowKernel.fill_row.Goals as goal

pub read_row-requires-2-clause-row : goal.read_row-requires-2-clause-row
read_row-requires-2-clause-row c =
    let y : FitsSigned w64 c.args.y = c.ranges.y in
    simp to_z-of_z (line_of c.args.self.now.inputs.now 1 c.args.depth c.args.components c.args.components c.args.rect c.args.y c.args.row.now c.args.bytes.now
    c.requires.makes.1 c.requires.row c.requires.bytes)

pub shown-requires : goal.shown-requires
shown-requires c = is_wide c.args.rect c.requires.row.bounds

pub returns-clause-shows : goal.returns-clause-shows
returns-clause-shows c x inside =
    let rect = c.args.rect in
    let me = c.args.self.now in
    let given = me.inputs.now in
    let d = c.args.depth in
    let k = c.args.components in
    let y : FitsSigned w64 c.args.y = c.ranges.y in
    let frame : FitsSigned w64 me.frame = search rules in
    let place = IsInside-from_holds rect x c.args.y inside in
    let first = shown_of given 0 d k rect c.args.y me.frame c.read_row.new.row c.requires.makes.0 (simp to_z-of_z at c.read_row.ensures) in
    let second = shown_of given 1 d k rect c.args.y me.frame c.read_row-2.new.row c.requires.makes.1 (simp to_z-of_z at c.read_row-2.ensures) in
    let i = int_gap rect.x1 x in
    c.copy_first.ensures i
    ∙ ap (λ (b : Bool). if b then pixel_in d k c.read_row-2.new.row i else pixel_in d k c.read_row.new.row i) (c.shown.ensures.columns x place.left place.right)
    ∙ ap (λ (p : Pixel). if shows_to me.level me.edge x then p else pixel_in d k c.read_row.new.row i) (second x inside)
    ∙ ap (λ (p : Pixel). if shows_to me.level me.edge x then row_pixel given 1 me.frame x c.args.y else p) (first x inside)
