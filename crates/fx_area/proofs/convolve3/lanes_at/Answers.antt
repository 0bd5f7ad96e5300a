use Rattle.std.proofs.Common.{◌+◌, arith, ◌∙◌}
use Rattle.std.proofs.lemmas.List.{get_or-map}
use Rattle.std.proofs.lemmas.Simd.{length-chunk, get_or-chunk}
use lib.Lanes.{chunk}
use Rattle.fx_area.proofs.convolve3.lanes_at.Goals as goal

pub returns-clause-value : goal.returns-clause-value
returns-clause-value c i low =
    let xs = c.args.line.now in
    get_or-map (λ x. x) (chunk c.args.at 16 xs) i 0 0 (omega (arith, length-chunk c.args.at 16 xs c.requires))
    ∙ get_or-chunk c.args.at 16 xs i 0 low

pub returns-clause-few : goal.returns-clause-few
returns-clause-few c i low =
    let fit = c.type_inv.line (c.args.at + i) in
    let few = fit.fits in
    omega (arith, returns-clause-value c i low, few)
