use Rattle.std.proofs.Common.{◌∙◌, pos, ◌+ℤ◌, ap, arith, w64, to_z, of_z}
use Rattle.std.proofs.lemmas.Int.{to_z-of_z}
use Rattle.fx_base.specs.Rect.{columns, rows}
use Rattle.fx_image.specs.Stored.{pixel_size}
use Rattle.fx_effect.specs.Given.{row_pixel}
use Rattle.fx_area.specs.declared.lines.Line.{Line}
use Rattle.fx_area.proofs.AreaLaws.{area_more, row_fits, product_fits, sides_of}
use Rattle.fx_area.proofs.SideLaws.{columns_are, rows_are, columns_ordered, rows_ordered}
use Rattle.fx_area.proofs.extreme.fill_area.Goals as goal

pub loop-j-init : goal.loop-j-init
loop-j-init c =
    record {
      until = rows_are _ c.args.area c.offset-j-end.result c.area.view_is c.requires.area c.offset-j-end.ensures;
      wide_is = columns_are _ c.args.area c.offset-width.result c.area.view_is c.requires.area c.offset-width.ensures;
      shows = λ i j low less. absurd (omega (arith, less));
    }

pub overflow_mul-j : goal.overflow_mul-j
overflow_mul-j c =
    let inv = c.loop-j.invariant in
    let sides = sides_of c.args.area c.requires.area in
    product_fits c.loop-j.j c.offset-width.result (omega (arith, inv.until, c.loop-j-test.true, sides.few_rows))
    (omega (arith, inv.wide_is, sides.few_columns))

pub copy_pixels-requires-clause-room : goal.copy_pixels-requires-clause-room
copy_pixels-requires-clause-room c =
    let inv = c.loop-j.invariant in
    let area = c.args.area in
    let size = pixel_size c.args.depth c.args.components in
    rw (c.loop-j.auto.bytes ∙ c.requires.long, inv.wide_is)
    (row_fits c.loop-j.j (columns area) (rows area) size (omega (arith, inv.until, c.loop-j-test.true)))

pub loop-j-preserved : goal.loop-j-preserved
loop-j-preserved c =
    let inv = c.loop-j.invariant in
    let given = c.args.inputs.now in
    let place = c.area_line-place.ensures.value in
    let line = c.lend_line-pixels.result.now in
    record {
      until = inv.until;
      wide_is = inv.wide_is;
      shows = area_more given (to_z w64 (of_z w64 c.args.frame)) c.args.depth c.args.components c.args.area c.offset-width.result c.loop-j.j
          line c.loop-j.bytes c.copy_pixels.new.row inv.wide_is inv.shows
          (λ i low. c.lend_line-pixels.ensures.pixels i (omega (arith, low, inv.wide_is, ap (λ (l : Line). l.count) place))
          ∙ ap (λ (l : Line). row_pixel given 0 l.frame (l.x +ℤ pos i) l.y) place)
          c.copy_pixels.ensures.copied c.copy_pixels.ensures.others;
    }

pub returns : goal.returns
returns c = λ i j low less.
    let inv = c.loop-j.invariant in
    let area = c.args.area in
    inv.shows i j low (omega (arith, less, inv.until, c.loop-j-test.false))
    ∙ ap (λ t. row_pixel c.args.inputs.now 0 t (area.x1 +ℤ pos i) (area.y1 +ℤ pos j))
    (to_z-of_z w64 c.args.frame c.ranges.frame)

pub offset-width-requires : goal.offset-width-requires
offset-width-requires c = columns_ordered _ c.args.area c.area.view_is c.requires.area

pub offset-j-end-requires : goal.offset-j-end-requires
offset-j-end-requires c = rows_ordered _ c.args.area c.area.view_is c.requires.area
