use Rattle.std.proofs.Common.{◌≡◌, ◌++◌, drop}
use Rattle.fx_group.specs.Expansion.{inputs_meant}
use Rattle.fx_group.proofs.flatten.inputs_meant.Given as goal

abbrev pub invariant-loop-input : goal.invariant-loop-input
invariant-loop-input l = l.others.items ++ inputs_meant (drop l.input-index l.inputs) l.clips ≡ inputs_meant l.inputs l.clips
