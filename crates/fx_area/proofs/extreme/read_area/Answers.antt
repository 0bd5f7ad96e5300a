use Rattle.std.proofs.Common.{◌∙◌, ◌+◌, ◌*◌, pos, ◌+ℤ◌, ap, length, drop, arith, w64}
use Rattle.std.proofs.lemmas.Int.{ints, to_z-of_z}
use Rattle.fx_base.specs.Bounds.{Bounds}
use Rattle.fx_base.specs.Rect.{columns, rows}
use Rattle.fx_image.specs.Stored.{pixel_size, pixel_in}
use Rattle.fx_effect.specs.Given.{row_pixel}
use Rattle.fx_area.proofs.AreaLaws.{counted, take_all, product_fits, sides_of}
use Rattle.fx_area.proofs.SideLaws.{columns_are, rows_are}
use Rattle.fx_area.proofs.extreme.read_area.Goals as goal

pub offset-requires : goal.offset-requires
offset-requires c =
    let area = c.requires.area in
    let p = ap (λ (r : Bounds). r.x1) c.area.view_is in
    let q = ap (λ (r : Bounds). r.x2) c.area.view_is in
    omega (arith, ints, p, q, area.wide, area.near.left.0, area.near.left.1, area.near.right.0, area.near.right.1)

pub offset-requires-2 : goal.offset-requires-2
offset-requires-2 c =
    let area = c.requires.area in
    let p = ap (λ (r : Bounds). r.y1) c.area.view_is in
    let q = ap (λ (r : Bounds). r.y2) c.area.view_is in
    omega (arith, ints, p, q, area.high, area.near.bottom.0, area.near.bottom.1, area.near.top.0, area.near.top.1)

pub overflow_mul-row : goal.overflow_mul-row
overflow_mul-row c =
    let w = columns_are _ c.args.area c.offset.result c.area.view_is c.requires.area c.offset.ensures in
    product_fits c.offset.result c.pixel_size.result
    (omega (arith, w, (sides_of c.args.area c.requires.area).few_columns)) (omega (arith, c.pixel_size.ensures.small))

pub fill_area-requires-clause-line : goal.fill_area-requires-clause-line
fill_area-requires-clause-line c =
    let w = columns_are _ c.args.area c.offset.result c.area.view_is c.requires.area c.offset.ensures in
    c.as_mut_slice-line.ensures.len ∙ c.in_ok-line.ensures ∙ ap (λ n. n * c.pixel_size.result) w
    ∙ ap (λ n. columns c.args.area * n) c.pixel_size.ensures.value

pub fill_area-requires-clause-long : goal.fill_area-requires-clause-long
fill_area-requires-clause-long c =
    let area = c.args.area in
    let w = columns_are _ area c.offset.result c.area.view_is c.requires.area c.offset.ensures in
    let h = rows_are _ area c.offset-2.result c.area.view_is c.requires.area c.offset-2.ensures in
    counted (length c.as_mut_slice-rows.result.now) c.in-Some.count c.offset-2.result c.offset.result
    c.pixel_size.result (rows area) (columns area) (pixel_size c.args.depth c.args.components)
    (c.as_mut_slice-rows.ensures.len ∙ c.in_ok-bytes.ensures) c.in-Some.ensures.1 h w
    c.pixel_size.ensures.value

pub returns-clause-long : goal.returns-clause-long
returns-clause-long c =
    let area = c.args.area in
    let w = columns_are _ area c.offset.result c.area.view_is c.requires.area c.offset.ensures in
    let h = rows_are _ area c.offset-2.result c.area.view_is c.requires.area c.offset-2.ensures in
    counted c.in_ok-bytes.bytes.len c.in-Some.count c.offset-2.result c.offset.result c.pixel_size.result
    (rows area) (columns area) (pixel_size c.args.depth c.args.components) c.in_ok-bytes.ensures
    c.in-Some.ensures.1 h w c.pixel_size.ensures.value

pub returns-clause-pixels : goal.returns-clause-pixels
returns-clause-pixels c i j low less =
    let n = j * columns c.args.area + i in
    let bytes = c.fill_area.new.bytes in
    ap (λ bs. pixel_in c.args.depth c.args.components bs n)
    (take_all c.in_ok-bytes.bytes.len bytes (drop (length bytes) c.in_ok-bytes.bytes.items)
    (c.fill_area.auto.bytes ∙ c.as_mut_slice-rows.ensures.len))
    ∙ c.fill_area.ensures i j low less
    ∙ ap (λ t. row_pixel c.args.inputs.now 0 t (c.args.area.x1 +ℤ pos i) (c.args.area.y1 +ℤ pos j))
    (to_z-of_z w64 c.args.frame c.ranges.frame)
