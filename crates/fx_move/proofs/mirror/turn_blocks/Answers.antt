use Rattle.std.proofs.Common.{◌≡◌, ◌≤◌, ◌<◌, ◌+◌, ◌*◌, ◌/◌, length, ap, sym, subst, ◌∙◌, arith}
use Rattle.fx_pixel.specs.declared.Components.TheVariants.{Rgba}
use Rattle.fx_image.specs.Stored.{pixel_size}
use Rattle.fx_move.proofs.TurnLaws.{turned_next, turned_all}
use Rattle.fx_move.proofs.mirror.turn_blocks.Goals as goal

pub loop-block-preserved : goal.loop-block-preserved
loop-block-preserved c n k whole =
    let block = c.loop-block.block in
    let row = c.loop-block.row in
    let source = c.args.source.now in
    let same : length row ≡ length source = omega arith in
    let room : 32 * block + 32 ≤ length source = omega arith in
    turned_next c.args.depth n block source row c.turned.result c.turned.ensures.len same whole room
    (λ j before. c.loop-block.invariant n j whole before) c.turned.ensures.value k

pub returns : goal.returns
returns c n i whole low =
    let d = c.args.depth in
    let block = c.loop-block.block in
    let source = c.args.source.now in
    let all : length source / 32 ≡ block = omega arith in
    let first : 32 / c.pixel_size.result * (length source / 32) ≡ 32 / pixel_size d Rgba * block =
    ap (λ s. 32 / s * (length source / 32)) c.pixel_size.ensures.value ∙ ap (λ b. 32 / pixel_size d Rgba * b) all in
    turned_all d n (32 / pixel_size d Rgba * block) source c.loop-block.row c.turn_each.new.row
    (λ k before. c.loop-block.invariant n k whole before)
    (λ k before. c.turn_each.ensures.left k (subst (λ f. k < f) (sym first) before)) i
    (λ behind. c.turn_each.ensures.done n i whole low (subst (λ f. f ≤ i) (sym first) behind))
