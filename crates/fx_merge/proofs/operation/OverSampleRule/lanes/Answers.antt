use Rattle.std.proofs.Common.{◌≡◌, ◌≤◌, ◌+◌, ◌-◌, min, get_or, ap, ◌∙◌, arith}
use Rattle.std.proofs.lemmas.List.{get_or-map}
use Rattle.fx_kernel.specs.Blends.{product}
use Rattle.fx_kernel.specs.BlendLaws.{product_bound}
use Rattle.fx_kernel.proofs.ByteLaws.{lane_low}
use Rattle.fx_merge.proofs.LaneLaws.{rest, sum_at}
use Rattle.fx_merge.proofs.operation.OverSampleRule.lanes.Goals as goal

pub returns : goal.returns
returns c i low =
    let a = c.args.a in
    let b = get_or c.args.b i 0 in
    let alpha = get_or c.args.alpha i 0 in
    let through = c.product.result in
    let is : get_or through i 0 ≡ product 255 b (255 - alpha) =
    c.product.ensures.value i low ∙ ap (product 255 b) (get_or-map rest c.args.alpha i 0 0 (omega (arith, c.fits-alpha.0))) in
    let few : get_or through i 0 ≤ 255 =
    omega (arith, is, product_bound 255 b (255 - alpha) (omega arith) (lane_low c.args.b i c.fits-b.1) (omega arith)) in
    sum_at a through i (omega (arith, c.fits-a.0)) (omega (arith, c.product.ensures.len)) (lane_low a i c.fits-a.1) few
    ∙ ap (λ n. min 255 (get_or a i 0 + n)) is
