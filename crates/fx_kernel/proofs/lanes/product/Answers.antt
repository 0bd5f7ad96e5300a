use Rattle.std.proofs.Common.{◌<◌, ℕ, arith}
use Rattle.std.proofs.lemmas.Simd.{Each1-all, Each2-splat}
use Rattle.fx_kernel.proofs.ByteLaws.{sums, product_at, quotients_long, quotients_fit}
use Rattle.fx_kernel.proofs.lanes.product.Goals as goal

pub nonzero_div-result : goal.nonzero_div-result
nonzero_div-result c =
    let xs = sums 32 c.args.a c.args.b in
    Each2-splat (λ (a b : ℕ). 0 < b) xs 32 255 (Each1-all (λ a. 0 < 255) (λ a. omega arith) xs)

pub overflow_cast-result : goal.overflow_cast-result
overflow_cast-result c = quotients_fit 32 c.args.a c.args.b c.fits-a.1 c.fits-b.1

pub returns-clause-len : goal.returns-clause-len
returns-clause-len c = quotients_long 32 c.args.a c.args.b c.fits-a.0 c.fits-b.0

pub returns-clause-value : goal.returns-clause-value
returns-clause-value c i low = product_at 32 c.args.a c.args.b i c.fits-a.0 c.fits-b.0 low c.fits-a.1 c.fits-b.1
