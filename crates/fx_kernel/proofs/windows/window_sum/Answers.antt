use Rattle.std.proofs.Common.{◌+◌, ◌≤◌, arith}
use Rattle.std.proofs.Math.Nat.{mul-le-mul_left}
use Rattle.fx_kernel.proofs.windows.window_sum.Goals as goal

pub bounds-cells-first : goal.bounds-cells-first
bounds-cells-first c =
    let next : c.loop-t.t + 1 ≤ c.args.count = omega (arith, c.loop-t-test.true) in
    omega (arith, mul-le-mul_left c.args.step next, c.requires.room, c.requires.first)
