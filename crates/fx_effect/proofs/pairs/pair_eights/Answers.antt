use Rattle.std.proofs.Common.{◌≡◌, ◌≤◌, ◌+◌, ◌-◌, ◌*◌, ◌/◌, length, take, drop, ap, ◌∙◌, rules, arith}
use Rattle.std.proofs.lemmas.Simd.{length-chunk}
use lib.Lanes.{chunk}
use Rattle.fx_pixel.specs.declared.Depth.TheVariants.{Byte}
use Rattle.fx_pixel.specs.declared.Components.TheVariants.{Rgba}
use Rattle.fx_image.specs.Stored.{pixel_in}
use Rattle.fx_effect.proofs.EightLaws.{eight_read, eight_behind, rest_read, eights_next, eights_all}
use Rattle.fx_effect.proofs.pairs.pair_eights.Goals as goal

pub loop-block-preserved : goal.loop-block-preserved
loop-block-preserved g c =
    let block = c.loop-block.block in
    let row = c.loop-block.row in
    let was = c.args.row.now in
    let other = c.args.other.now in
    let made = c.pair_eight-made.result in
    let of = g.K.PairKernel.of c.args.kernel.now Byte in
    let room : 32 * block + 32 ≤ length row = omega arith in
    let there : 32 * block + 32 ≤ length other = omega arith in
    let lanes : length (chunk (32 * block) 32 row) ≡ 32 = length-chunk (32 * block) 32 row room in
    let long : length made ≡ 32 = omega arith in
    record {
      done = eights_next (λ k. of (pixel_in Byte Rgba was k) (pixel_in Byte Rgba other k)) row made block long room c.loop-block.invariant.done
          (λ i few. c.pair_eight-made.ensures i (omega arith)
          ∙ ap (λ p. of p (pixel_in Byte Rgba (chunk (32 * block) 32 other) i)) (eight_read row block i few ∙ c.loop-block.invariant.left (8 * block + i) (omega arith))
          ∙ ap (of (pixel_in Byte Rgba was (8 * block + i))) (eight_read other block i few));
      left = λ k behind. eight_behind row made block k long behind ∙ c.loop-block.invariant.left k (omega arith);
    }

pub returns : goal.returns
returns g c k room =
    let row = c.loop-block.row in
    let was = c.args.row.now in
    let other = c.args.other.now in
    let made = c.pair_each.new.row in
    let whole = length was / 32 in
    let n = length row - 32 * whole in
    let of = g.K.PairKernel.of c.args.kernel.now Byte in
    let over : 32 * whole ≤ length was = omega arith in
    let all : c.loop-block.block ≡ whole = omega arith in
    let left : length (take n (drop (32 * whole) row)) ≡ n = search (rules, arith) in
    let long : length made ≡ n = c.pair_each.auto.row ∙ left in
    eights_all (λ i. of (pixel_in Byte Rgba was i) (pixel_in Byte Rgba other i)) row made whole n (omega arith)
    (λ i below. c.loop-block.invariant.done i (omega arith))
    (λ i fits. c.pair_each.ensures i (omega arith)
    ∙ ap (λ p. of p (pixel_in Byte Rgba (take (length other - 32 * whole) (drop (32 * whole) other)) i)) (rest_read row whole n i (omega arith) ∙ c.loop-block.invariant.left (8 * whole + i) (omega arith))
    ∙ ap (of (pixel_in Byte Rgba was (8 * whole + i))) (rest_read other whole (length other - 32 * whole) i (omega arith))) k (omega arith)
