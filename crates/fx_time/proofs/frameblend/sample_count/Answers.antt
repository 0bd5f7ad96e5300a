use Rattle.std.proofs.Common.{◌∙◌, ap}
use Rattle.fx_pixel.specs.Pixel.{count}
use Rattle.fx_effect.proofs.PieceLaws.{is_wide}
use Rattle.fx_time.proofs.WidthLaws.{order_near, columns_near, samples_fit, samples_small}
use Rattle.fx_time.proofs.frameblend.sample_count.Goals as goal

pub offset-requires : goal.offset-requires
offset-requires c =
    let rect = c.args.out.now.rect in
    order_near _ rect (c.rect.view_is ∙ c.rect-rect.ensures) c.row_bytes-small.ensures.near
    (is_wide rect c.requires.rect)

pub overflow_mul-result : goal.overflow_mul-result
overflow_mul-result c =
    let rect = c.args.out.now.rect in
    let near = c.row_bytes-small.ensures.near in
    let order = is_wide rect c.requires.rect in
    let is = columns_near _ rect c.offset.result (c.rect.view_is ∙ c.rect-rect.ensures) near order c.offset.ensures in
    let step = c.count.ensures ∙ ap count c.components.ensures in
    samples_fit rect c.args.out.now.image.now.components c.offset.result c.count.result is step near order

pub overflow_cast-result-2 : goal.overflow_cast-result-2
overflow_cast-result-2 c =
    let rect = c.args.out.now.rect in
    let bytes = c.row_bytes-small in
    let order = is_wide rect c.requires.rect in
    let is = columns_near _ rect c.offset.result (c.rect.view_is ∙ c.rect-rect.ensures) bytes.ensures.near order
    c.offset.ensures in
    let step = c.count.ensures ∙ ap count c.components.ensures in
    samples_small c.args.out.now.image.now.depth c.offset.result _ c.count.result _ bytes.result is step
    bytes.ensures.value bytes.ensures.small
