use Rattle.std.proofs.Common.{◌≡◌, ◌≤◌, ◌+◌, ◌-◌, ◌*◌, ◌/◌, length, take, drop, ap, ◌∙◌, rules, arith}
use Rattle.std.proofs.lemmas.Simd.{length-chunk}
use lib.Lanes.{chunk}
use Rattle.fx_pixel.specs.declared.Depth.TheVariants.{Byte}
use Rattle.fx_pixel.specs.declared.Components.TheVariants.{Rgba}
use Rattle.fx_image.specs.Stored.{pixel_in}
use Rattle.fx_effect.proofs.EightLaws.{eight_read, rest_read, eights_next, eights_all}
use Rattle.fx_effect.proofs.points.by_eights.Goals as goal

pub loop-block-preserved : goal.loop-block-preserved
loop-block-preserved g c =
    let block = c.loop-block.block in
    let source = c.args.source.now in
    let of = g.K.PointKernel.of c.args.kernel.now Byte in
    let room : 32 * block + 32 ≤ length source = omega arith in
    let lanes : length (chunk (32 * block) 32 source) ≡ 32 = length-chunk (32 * block) 32 source room in
    eights_next (λ k. of (pixel_in Byte Rgba source k)) c.loop-block.row c.eight-made.result block (omega arith) (omega arith) c.loop-block.invariant
    (λ i few. c.eight-made.ensures i (omega arith) ∙ ap of (eight_read source block i few))

pub returns : goal.returns
returns g c k room =
    let source = c.args.source.now in
    let row = c.loop-block.row in
    let made = c.each_of.new.row in
    let whole = length source / 32 in
    let of = g.K.PointKernel.of c.args.kernel.now Byte in
    let over : 32 * whole ≤ length source = omega arith in
    let all : c.loop-block.block ≡ whole = omega arith in
    let left : length (take (length source - 32 * whole) (drop (32 * whole) source)) ≡ length source - 32 * whole = search (rules, arith) in
    let long : length made ≡ length source - 32 * whole = c.each_of.auto.row ∙ search (rules, arith) in
    eights_all (λ i. of (pixel_in Byte Rgba source i)) row made whole (length row - 32 * whole) (omega arith)
    (λ i below. c.loop-block.invariant i (omega arith))
    (λ i fits. c.each_of.ensures i (omega arith) ∙ ap of (rest_read source whole (length source - 32 * whole) i (omega arith))) k (omega arith)
