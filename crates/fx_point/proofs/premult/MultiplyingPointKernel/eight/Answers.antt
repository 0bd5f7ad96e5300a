use Rattle.std.proofs.Common.{get_or, ap, ◌∙◌}
use Rattle.fx_kernel.specs.Blends.{product}
use Rattle.fx_point.proofs.premult.MultiplyingPointKernel.eight.Goals as goal

pub returns : goal.returns
returns c =
    let pixels = c.args.pixels in
    c.recoloured.ensures (λ a s. product 255 s a)
    (λ j low. c.product.ensures.value j low ∙ ap (product 255 (get_or pixels j 0)) (c.alphas.ensures.value j low))
