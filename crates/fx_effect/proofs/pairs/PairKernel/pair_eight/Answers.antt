use Rattle.std.proofs.Common.{◌≡◌, ap, ◌∙◌, arith}
use Rattle.fx_pixel.specs.declared.Depth.TheVariants.{Byte}
use Rattle.fx_pixel.specs.declared.Components.TheVariants.{Rgba}
use Rattle.fx_pixel.specs.Pixel.{components_of}
use Rattle.fx_image.specs.Stored.{pixel_in}
use Rattle.fx_effect.proofs.EightLaws.{one_more, one_beside}
use Rattle.fx_effect.proofs.pairs.PairKernel.pair_eight.Goals as goal

pub loop-i-preserved : goal.loop-i-preserved
loop-i-preserved g c =
    let i = c.loop-i.i in
    let row = c.loop-i.bytes in
    let new = c.set_pixel.new.row in
    let of = g.Self.PairKernel.of c.args.self.now Byte in
    let made = c.pair.result in
    let is : components_of made ≡ Rgba = c.pair.ensures.components ∙ c.pixel-p.ensures.components in
    let p = c.pixel-p.ensures.value ∙ c.loop-i.invariant.left i (omega arith) in
    record {
      done = one_more (λ k. of (pixel_in Byte Rgba c.args.first k) (pixel_in Byte Rgba c.args.second k)) row new i (components_of made) is
          (c.set_pixel.ensures.there ∙ c.pair.ensures.value ∙ ap (λ x. of x c.pixel-q.result) p ∙ ap (of (pixel_in Byte Rgba c.args.first i)) c.pixel-q.ensures.value)
          c.set_pixel.ensures.others c.loop-i.invariant.done;
      left = λ k behind. one_beside row new i k (components_of made) is c.set_pixel.ensures.others behind ∙ c.loop-i.invariant.left k (omega arith);
    }
