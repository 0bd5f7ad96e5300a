use Rattle.std.proofs.Common.{length, take}
use Rattle.std.specs.List.{AllZip}
use Rattle.fx_proxy.specs.Proxy.{IsScaledFrame}
use Rattle.fx_proxy.proofs.frames.scale_each.Given as goal

abbrev pub invariant-loop-frame : goal.invariant-loop-frame
invariant-loop-frame l = AllZip (IsScaledFrame l.q) (take (length l.yielded) l.fn.frames.items) l.small.items
