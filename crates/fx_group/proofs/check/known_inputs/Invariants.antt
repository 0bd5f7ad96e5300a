use Rattle.std.proofs.Common.{take}
use Rattle.fx_group.specs.Known.{IsKnown}
use Rattle.fx_group.proofs.check.known_inputs.Given as goal

abbrev pub invariant-loop-input : goal.invariant-loop-input
invariant-loop-input l = IsKnown l.known (take l.input-index l.inputs)
