use Rattle.std.proofs.Common.{◌≡◌, ◌+◌, ◌*◌, ◌∙◌, length, ap, arith, w64, FitsSigned, rules}
use Rattle.std.specs.Int.{int_gap}
use Rattle.std.proofs.lemmas.Int.{to_z-of_z}
use Rattle.fx_base.specs.Rect.{columns, rows}
use Rattle.fx_image.specs.Stored.{pixel_size, pixel_in}
use Rattle.fx_image.proofs.ImageLaws.{gap_below, place_from}
use Rattle.fx_area.proofs.AreaLaws.{product_fits, near_rows, copy_room, row_few, pixel_fits}
use Rattle.fx_area.proofs.extreme.AreaRowsRowKernel.fill_row.Goals as goal

pub overflow_mul-first : goal.overflow_mul-first
overflow_mul-first c =
    let row = c.requires.row in
    let a : FitsSigned w64 c.rect.inside.y1 = search rules in
    let y = c.ranges.y in
    let gap = simp to_z-of_z at c.offset.ensures in
    let is : c.offset.result ≡ int_gap c.args.rect.y1 c.args.y = rw (← c.rect.view_is) gap in
    let near = near_rows c.args.rect c.args.y row.near row.above row.below in
    product_fits c.offset.result c.args.self.now.width (omega (arith, is, near.1)) c.requires.makes

pub take_pixels-requires : goal.take_pixels-requires
take_pixels-requires c =
    let row = c.requires.row in
    let k = c.args.self.now in
    let ready = c.requires.ready in
    let a : FitsSigned w64 c.rect.inside.y1 = search rules in
    let y = c.ranges.y in
    let gap = simp to_z-of_z at c.offset.ensures in
    let is : c.offset.result ≡ int_gap c.args.rect.y1 c.args.y = rw (← c.rect.view_is) gap in
    let near = near_rows c.args.rect c.args.y row.near row.above row.below in
    let size = pixel_size c.args.depth c.args.components in
    record {
      room =
          copy_room c.offset.result k.width (rows c.args.rect) size (length c.args.row.now) (length k.bytes.now)
          (omega (arith, is, near.0))
          (row_few (columns c.args.rect) k.width size (length c.args.row.now) row.long ready.wide) ready.long;
    }

pub returns-clause-shows : goal.returns-clause-shows
returns-clause-shows c x inside =
    let row = c.requires.row in
    let k = c.args.self.now in
    let ready = c.requires.ready in
    let d = c.args.depth in
    let e = c.args.components in
    let rect = c.args.rect in
    let a : FitsSigned w64 c.rect.inside.y1 = search rules in
    let y = c.ranges.y in
    let gap = simp to_z-of_z at c.offset.ensures in
    let is : c.offset.result ≡ int_gap rect.y1 c.args.y = rw (← c.rect.view_is) gap in
    let place = place_from rect x c.args.y inside in
    let i = int_gap rect.x1 x in
    let low = gap_below rect.x1 x rect.x2 place.left place.right in
    c.take_pixels.ensures i (pixel_fits i (columns rect) (pixel_size d e) (length c.args.row.now) row.long low)
    ∙ ap (λ j. pixel_in d e k.bytes.now (j * k.width + i)) is
    ∙ ap (λ b. pixel_in d e k.bytes.now (int_gap b c.args.y * k.width + i)) ready.bottom_is
    ∙ ap (λ l. pixel_in d e k.bytes.now (int_gap k.bottom c.args.y * k.width + int_gap l x)) ready.left_is
