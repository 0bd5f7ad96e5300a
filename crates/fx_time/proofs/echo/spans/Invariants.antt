use Rattle.std.proofs.Common.{◌≡◌, ◌+◌, ◌-◌, ◌++◌, suc, map}
use Rattle.fx_time.specs.Times.{alone}
use Rattle.fx_time.specs.Echo.{moments}
use Rattle.fx_time.proofs.echo.spans.Given as goal

abbrev pub invariant-loop-n : goal.invariant-loop-n
invariant-loop-n l = l.spans.items ++ map alone (moments l.fn.frame l.gap (l.count + 1 - l.n)) ≡ map alone (moments l.fn.frame l.gap (suc l.count))
