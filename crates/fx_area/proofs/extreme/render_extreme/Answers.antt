use Rattle.std.proofs.Common.{◌≡◌, ◌∙◌, ◌*◌, length, drop, ap, sym, subst, arith, w64, to_z, of_z, FitsSigned, rules}
use Rattle.std.proofs.lemmas.Int.{to_z-of_z}
use Rattle.fx_base.specs.Bounds.{Bounds}
use Rattle.fx_base.specs.Rect.{columns, rows, grown, IsNear}
use Rattle.fx_pixel.specs.Pixel.{IsOfDepth}
use Rattle.fx_image.specs.Stored.{pixel_size}
use Rattle.fx_effect.specs.Given.{ShowsClip, input_pixel}
use Rattle.fx_area.specs.Erode.{radius}
use Rattle.fx_area.specs.Gathered.{area_pixel, extreme_pixel}
use Rattle.fx_area.proofs.AreaLaws.{sides_of, take_all, rows_fit}
use Rattle.fx_area.proofs.SideLaws.{columns_are, rows_are, columns_ordered, rows_ordered, low_end}
use Rattle.fx_area.proofs.SquareLaws.{round_of, shows_as, picked_as, area_as, part_pixel, written_as}
use Rattle.fx_area.proofs.extreme.render_extreme.Goals as goal

pub read_area-requires-clause-area : goal.read_area-requires-clause-area
read_area-requires-clause-area c =
    let v = c.args.values.now in
    let rect = c.args.out.now.rect in
    let round =
    round_of rect c.grow-area.result c.radius-radius.result (radius v) c.requires.part.rect c.requires.some_window
    c.row_bytes-near.ensures.near c.radius-radius.ensures.value c.radius-radius.ensures.few
    (c.grow-area.ensures.bounds
    ∙ ap (λ (r : Bounds). grown r (to_z w64 c.radius-radius.result) (to_z w64 c.radius-radius.result)) c.rect-rect.ensures) in
    round.proper

pub offset-width-requires : goal.offset-width-requires
offset-width-requires c =
    let v = c.args.values.now in
    let rect = c.args.out.now.rect in
    let round =
    round_of rect c.grow-area.result c.radius-radius.result (radius v) c.requires.part.rect c.requires.some_window
    c.row_bytes-near.ensures.near c.radius-radius.ensures.value c.radius-radius.ensures.few
    (c.grow-area.ensures.bounds
    ∙ ap (λ (r : Bounds). grown r (to_z w64 c.radius-radius.result) (to_z w64 c.radius-radius.result)) c.rect-rect.ensures) in
    columns_ordered _ c.grow-area.result c.area.view_is round.proper

pub offset-height-requires : goal.offset-height-requires
offset-height-requires c =
    let v = c.args.values.now in
    let rect = c.args.out.now.rect in
    let round =
    round_of rect c.grow-area.result c.radius-radius.result (radius v) c.requires.part.rect c.requires.some_window
    c.row_bytes-near.ensures.near c.radius-radius.ensures.value c.radius-radius.ensures.few
    (c.grow-area.ensures.bounds
    ∙ ap (λ (r : Bounds). grown r (to_z w64 c.radius-radius.result) (to_z w64 c.radius-radius.result)) c.rect-rect.ensures) in
    rows_ordered _ c.grow-area.result c.area.view_is round.proper

pub pick_squares-requires-clause-wide : goal.pick_squares-requires-clause-wide
pick_squares-requires-clause-wide c =
    let v = c.args.values.now in
    let rect = c.args.out.now.rect in
    let round =
    round_of rect c.grow-area.result c.radius-radius.result (radius v) c.requires.part.rect c.requires.some_window
    c.row_bytes-near.ensures.near c.radius-radius.ensures.value c.radius-radius.ensures.few
    (c.grow-area.ensures.bounds
    ∙ ap (λ (r : Bounds). grown r (to_z w64 c.radius-radius.result) (to_z w64 c.radius-radius.result)) c.rect-rect.ensures) in
    let w = columns_are _ c.grow-area.result c.offset-width.result c.area.view_is round.proper c.offset-width.ensures in
    omega (arith, w, round.columns_are, round.some_columns, c.radius-radius.ensures.value)

pub pick_squares-requires-clause-long : goal.pick_squares-requires-clause-long
pick_squares-requires-clause-long c =
    let v = c.args.values.now in
    let rect = c.args.out.now.rect in
    let round =
    round_of rect c.grow-area.result c.radius-radius.result (radius v) c.requires.part.rect c.requires.some_window
    c.row_bytes-near.ensures.near c.radius-radius.ensures.value c.radius-radius.ensures.few
    (c.grow-area.ensures.bounds
    ∙ ap (λ (r : Bounds). grown r (to_z w64 c.radius-radius.result) (to_z w64 c.radius-radius.result)) c.rect-rect.ensures) in
    let area = c.grow-area.result in
    let size = pixel_size c.depth-depth.result c.components-components.result in
    let w = columns_are _ area c.offset-width.result c.area.view_is round.proper c.offset-width.ensures in
    let h = rows_are _ area c.offset-height.result c.area.view_is round.proper c.offset-height.ensures in
    c.as_mut_slice-squares.ensures.len ∙ c.in_ok-bytes.ensures.long
    ∙ ap (λ n. n * columns area * size) (sym h) ∙ ap (λ n. c.offset-height.result * n * size) (sym w)

pub read_area-requires-clause-source : goal.read_area-requires-clause-source
read_area-requires-clause-source c =
    let given = c.args.inputs.now in
    let image = c.args.out.now.image.now in
    subst (λ d. ShowsClip given 0 d c.components-components.result) (sym c.depth-depth.ensures)
    (subst (ShowsClip given 0 image.depth) (sym c.components-components.ensures) c.requires.source)

pub pick_squares-requires-clause-high : goal.pick_squares-requires-clause-high
pick_squares-requires-clause-high c =
    let v = c.args.values.now in
    let rect = c.args.out.now.rect in
    let round =
    round_of rect c.grow-area.result c.radius-radius.result (radius v) c.requires.part.rect c.requires.some_window
    c.row_bytes-near.ensures.near c.radius-radius.ensures.value c.radius-radius.ensures.few
    (c.grow-area.ensures.bounds
    ∙ ap (λ (r : Bounds). grown r (to_z w64 c.radius-radius.result) (to_z w64 c.radius-radius.result)) c.rect-rect.ensures) in
    let h = rows_are _ c.grow-area.result c.offset-height.result c.area.view_is round.proper c.offset-height.ensures in
    omega (arith, h, round.rows_are, round.some_rows, c.radius-radius.ensures.value)

pub fill_with-requires-clause-makes : goal.fill_with-requires-clause-makes
fill_with-requires-clause-makes c =
    let v = c.args.values.now in
    let rect = c.args.out.now.rect in
    let round =
    round_of rect c.grow-area.result c.radius-radius.result (radius v) c.requires.part.rect c.requires.some_window
    c.row_bytes-near.ensures.near c.radius-radius.ensures.value c.radius-radius.ensures.few
    (c.grow-area.ensures.bounds
    ∙ ap (λ (r : Bounds). grown r (to_z w64 c.radius-radius.result) (to_z w64 c.radius-radius.result)) c.rect-rect.ensures) in
    let w = columns_are _ c.grow-area.result c.offset-width.result c.area.view_is round.proper c.offset-width.ensures in
    omega (arith, w, (sides_of c.grow-area.result round.proper).few_columns)

pub fill_with-requires-clause-ready : goal.fill_with-requires-clause-ready
fill_with-requires-clause-ready c =
    let v = c.args.values.now in
    let rect = c.args.out.now.rect in
    let round =
    round_of rect c.grow-area.result c.radius-radius.result (radius v) c.requires.part.rect c.requires.some_window
    c.row_bytes-near.ensures.near c.radius-radius.ensures.value c.radius-radius.ensures.few
    (c.grow-area.ensures.bounds
    ∙ ap (λ (r : Bounds). grown r (to_z w64 c.radius-radius.result) (to_z w64 c.radius-radius.result)) c.rect-rect.ensures) in
    let area = c.grow-area.result in
    let image = c.args.out.now.image.now in
    let size = pixel_size image.depth image.components in
    let w = columns_are _ area c.offset-width.result c.area.view_is round.proper c.offset-width.ensures in
    let new = c.pick_squares.new.bytes in
    let bytes =
    c.as_slice.ensures.value
    ∙ take_all c.in_ok-bytes.bytes.len new (drop (length new) c.in_ok-bytes.bytes.items)
    (c.pick_squares.auto.bytes ∙ c.as_mut_slice-squares.ensures.len) in
    let long : length c.as_slice.result.now ≡ rows area * columns area * size =
    ap length bytes ∙ c.pick_squares.auto.bytes ∙ c.as_mut_slice-squares.ensures.len ∙ c.in_ok-bytes.ensures.long
    ∙ ap (λ d. rows area * columns area * pixel_size d c.components-components.result) c.depth-depth.ensures
    ∙ ap (λ e. rows area * columns area * pixel_size image.depth e) c.components-components.ensures in
    record {
      left_is = sym (
          ap (λ (r : Bounds). to_z w64 (of_z w64 r.x1)) (c.rect.view_is ∙ c.rect-rect.ensures)
          ∙ low_end rect.x1 rect.x2 c.row_bytes-near.ensures.near.left round.wide c.row_bytes-near.ensures.near.right);
      bottom_is = sym (
          ap (λ (r : Bounds). to_z w64 (of_z w64 r.y1)) (c.rect.view_is ∙ c.rect-rect.ensures)
          ∙ low_end rect.y1 rect.y2 c.row_bytes-near.ensures.near.bottom round.high c.row_bytes-near.ensures.near.top);
      wide = omega (arith, w, round.columns_are);
      long = rw (long, w) (rows_fit (rows rect) (rows area) (columns area) size (omega (arith, round.rows_are)));
    }

pub returns-clause-ok : goal.returns-clause-ok
returns-clause-ok c =
    let v = c.args.values.now in
    let rect = c.args.out.now.rect in
    let round =
    round_of rect c.grow-area.result c.radius-radius.result (radius v) c.requires.part.rect c.requires.some_window
    c.row_bytes-near.ensures.near c.radius-radius.ensures.value c.radius-radius.ensures.few
    (c.grow-area.ensures.bounds
    ∙ ap (λ (r : Bounds). grown r (to_z w64 c.radius-radius.result) (to_z w64 c.radius-radius.result)) c.rect-rect.ensures) in
    let area = c.grow-area.result in
    let given = c.args.inputs.now in
    let e = c.args.extreme in
    let d = c.args.out.now.image.now.depth in
    let s = c.args.out.now.image.now.components in
    let w = columns_are _ area c.offset-width.result c.area.view_is round.proper c.offset-width.ensures in
    let h = rows_are _ area c.offset-height.result c.area.view_is round.proper c.offset-height.ensures in
    let frame : FitsSigned w64 v.frame = search rules in
    let left_is =
    ap (λ (r : Bounds). to_z w64 (of_z w64 r.x1)) (c.rect.view_is ∙ c.rect-rect.ensures)
    ∙ low_end rect.x1 rect.x2 c.row_bytes-near.ensures.near.left round.wide c.row_bytes-near.ensures.near.right in
    let bottom_is =
    ap (λ (r : Bounds). to_z w64 (of_z w64 r.y1)) (c.rect.view_is ∙ c.rect-rect.ensures)
    ∙ low_end rect.y1 rect.y2 c.row_bytes-near.ensures.near.bottom round.high c.row_bytes-near.ensures.near.top in
    let old = c.as_mut_slice-squares.result.now in
    let new = c.pick_squares.new.bytes in
    let bytes =
    c.as_slice.ensures.value
    ∙ take_all c.in_ok-bytes.bytes.len new (drop (length new) c.in_ok-bytes.bytes.items)
    (c.pick_squares.auto.bytes ∙ c.as_mut_slice-squares.ensures.len) in
    let shows =
    shows_as given (to_z w64 (of_z w64 v.frame)) v.frame c.depth-depth.result d c.components-components.result s area
    (rows area) c.in_ok-bytes.bytes.items old (to_z-of_z w64 v.frame frame) c.depth-depth.ensures
    c.components-components.ensures (sym c.as_mut_slice-squares.ensures.value) c.in_ok-bytes.ensures.pixels in
    let picked =
    picked_as e c.depth-depth.result d c.components-components.result s c.offset-width.result (columns area)
    c.offset-height.result (rows area) c.radius-radius.result (radius v) old new c.depth-depth.ensures
    c.components-components.ensures w h c.radius-radius.ensures.value c.pick_squares.ensures in
    written_as c.args.out.now c.fill_with.new.out
    (area_pixel (to_z w64 (of_z w64 c.rect.inside.x1)) (to_z w64 (of_z w64 c.rect.inside.y1)) c.offset-width.result d s c.as_slice.result.now)
    (extreme_pixel e v given d s)
    (λ x y held.
    area_as (to_z w64 (of_z w64 c.rect.inside.x1)) rect.x1 (to_z w64 (of_z w64 c.rect.inside.y1)) rect.y1
    c.offset-width.result (columns area) d s c.as_slice.result.now new x y left_is bottom_is w bytes
    ∙ part_pixel e v given d s rect area old new round.wide round.high round.area_is
    (λ t. subst (λ k. IsOfDepth k (input_pixel given t)) c.requires.source.depth_is (c.pixels_fit.ensures.depth t)) shows
    picked x y held)
    c.fill_with.ensures.written

pub grow-area-requires-clause-near : goal.grow-area-requires-clause-near
grow-area-requires-clause-near c = subst IsNear (sym c.rect-rect.ensures) c.row_bytes-near.ensures.near
