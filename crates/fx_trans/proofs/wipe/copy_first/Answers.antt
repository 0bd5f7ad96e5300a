use Rattle.std.proofs.Common.{◌≡◌, ◌*◌, ◌-◌, refl, ap, sym, inr, arith, ◌∙◌, nat_lt}
use Rattle.fx_image.specs.Stored.{pixel_size, pixel_in}
use Rattle.fx_trans.proofs.EdgeLaws.{chosen, plus_zero, minus_zero, pixel_in_front}
use Rattle.fx_trans.proofs.wipe.copy_first.Goals as goal

pub returns : goal.returns
returns c i =
    let d = c.args.depth in
    let k = c.args.components in
    let size = ap (λ n. c.args.count * n) c.pixel_size.ensures.value in
    chosen (nat_lt i c.args.count) i c.args.count (pixel_in d k c.args.source.now i) (pixel_in d k c.args.row.now i) (pixel_in d k c.copy_pixels.new.row i) refl
    (λ low. ap (pixel_in d k c.copy_pixels.new.row) (sym (plus_zero i)) ∙ c.copy_pixels.ensures.copied i low ∙ pixel_in_front d k c.args.source.now (c.args.count * c.pixel_size.result - 0) c.args.count i (minus_zero (c.args.count * c.pixel_size.result) ∙ size) low)
    (λ high. c.copy_pixels.ensures.others i (inr (omega (arith, high))))
