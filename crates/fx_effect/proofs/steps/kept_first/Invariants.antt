use Rattle.std.proofs.Common.{take}
use Rattle.fx_effect.specs.Given.{Keep}
use Rattle.fx_effect.proofs.steps.kept_first.Given as goal

abbrev pub invariant-loop-i : goal.invariant-loop-i
invariant-loop-i l = Keep l.depth l.components (take l.i l.steps)
