use Rattle.std.proofs.Common.{◌∙◌, ap}
use Rattle.fx_pixel.specs.Pixel.{count}
use Rattle.fx_area.proofs.SideLaws.{rect_ordered, order_near, columns_near, line_fits, samples_fit}
use Rattle.fx_area.proofs.boxblur.BoxRows.cell_count.Goals as goal

pub offset-requires : goal.offset-requires
offset-requires c =
    let rect = c.args.out.now.rect in
    order_near _ rect (c.rect.view_is ∙ c.rect-rect.ensures) c.row_bytes-near.ensures.near
    (rect_ordered rect c.requires.part.rect)

pub overflow_add-line : goal.overflow_add-line
overflow_add-line c =
    let rect = c.args.out.now.rect in
    let near = c.row_bytes-near.ensures.near in
    let order = rect_ordered rect c.requires.part.rect in
    let is = columns_near _ rect c.offset.result (c.rect.view_is ∙ c.rect-rect.ensures) near order c.offset.ensures in
    line_fits rect c.offset.result c.args.self.now.rx is near order c.requires.narrow

pub overflow_mul-result : goal.overflow_mul-result
overflow_mul-result c =
    let rect = c.args.out.now.rect in
    let near = c.row_bytes-near.ensures.near in
    let order = rect_ordered rect c.requires.part.rect in
    let is = columns_near _ rect c.offset.result (c.rect.view_is ∙ c.rect-rect.ensures) near order c.offset.ensures in
    let step = c.count.ensures ∙ ap count c.components.ensures in
    samples_fit rect c.args.out.now.image.now.components c.offset.result c.args.self.now.rx c.count.result is step near
    order c.requires.narrow
