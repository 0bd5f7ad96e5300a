use Rattle.std.proofs.Common.{◌*◌, ◌≤◌, arith, rules}
use Rattle.fx_pixel.specs.Pixel.{greatest}
use Rattle.fx_kernel.specs.RowLaws.{greatest_few}
use Rattle.fx_kernel.specs.SampleLaws.{rounded_bound}
use Rattle.fx_kernel.specs.Samples.{rounded}
use Rattle.fx_proxy.proofs.BlockLaws.{square_some}
use Rattle.fx_proxy.proofs.blocks.BlockRows.block_mean.Goals as goal

pub overflow_cast-result : goal.overflow_cast-result
overflow_cast-result c =
    let q = c.args.side in
    let low = rounded_bound c.args.sum (q * q) (greatest c.args.depth) (square_some q c.requires.side.0) c.requires.sum in
    let few : rounded c.args.sum (q * q) ≤ 65535 = omega (arith, low, greatest_few c.args.depth) in
    search rules

pub returns-in-2-clause-bound : goal.returns-in-2-clause-bound
returns-in-2-clause-bound c =
    let q = c.args.side in
    rounded_bound c.args.sum (q * q) (greatest c.args.depth) (square_some q c.requires.side.0) c.requires.sum
