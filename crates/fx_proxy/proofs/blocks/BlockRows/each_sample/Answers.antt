use Rattle.std.proofs.Common.{◌≤◌, ◌+◌, ◌*◌, subst}
use Rattle.fx_pixel.specs.Pixel.{greatest}
use Rattle.fx_kernel.specs.Window.{strided, window}
use Rattle.fx_proxy.specs.Blocks.{first_cell}
use Rattle.fx_proxy.proofs.blocks.BlockRows.each_sample.Goals as goal

pub block_means-requires-clause-bound : goal.block_means-requires-clause-bound
block_means-requires-clause-bound c s low =
    subst (λ q. window (strided c.args.cells.now c.args.step (first_cell q c.args.step (c.args.first + s))) q ≤ (q * q) * greatest c.args.depth)
    c.in-2.is (c.requires.bound s low)

pub block_means-requires-in-4-clause-bound : goal.block_means-requires-in-4-clause-bound
block_means-requires-in-4-clause-bound c s low =
    subst (λ q. window (strided c.args.cells.now c.args.step (first_cell q c.args.step (c.args.first + s))) q ≤ (q * q) * greatest c.args.depth)
    c.in-4.is (c.requires.bound s low)

pub block_means-requires-in-8-clause-bound : goal.block_means-requires-in-8-clause-bound
block_means-requires-in-8-clause-bound c s low =
    subst (λ q. window (strided c.args.cells.now c.args.step (first_cell q c.args.step (c.args.first + s))) q ≤ (q * q) * greatest c.args.depth)
    c.in-8.is (c.requires.bound s low)
