use Rattle.std.proofs.Common.{◌≤◌, ◌+◌, ◌-◌, arith, rules}
use Rattle.fx_pixel.specs.Pixel.{greatest}
use Rattle.fx_kernel.specs.RowLaws.{greatest_few}
use Rattle.fx_merge.specs.MergeLaws.{greatest_some, screen_low}
use Rattle.fx_merge.proofs.operation.ScreenSampleRule.sample.Goals as goal

pub returns-clause-bound : goal.returns-clause-bound
returns-clause-bound c =
    rw (c.from.ensures, c.from-2.ensures, c.from-3.ensures, c.product-both.ensures.value)
    (screen_low (greatest c.args.depth) c.args.a c.args.b (greatest_some c.args.depth) c.requires.a c.requires.b)

pub overflow_cast-result : goal.overflow_cast-result
overflow_cast-result c =
    let few = greatest_few c.args.depth in
    let low : c.from.result + c.from-2.result - c.from-3.result ≤ greatest c.args.depth = returns-clause-bound c in
    let fits : c.from.result + c.from-2.result - c.from-3.result ≤ 65535 = omega (arith, few, low) in
    search rules
