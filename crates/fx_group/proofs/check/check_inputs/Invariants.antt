use Rattle.std.proofs.Common.{◌≡◌, [], take, drop}
use Rattle.fx_group.specs.Faults.{inputs_fault}
use Rattle.fx_group.proofs.check.check_inputs.Given as goal

abbrev pub invariant-loop-k : goal.invariant-loop-k
invariant-loop-k l = inputs_fault l.path 0 [] l.inputs ≡ inputs_fault l.path l.k (take l.k l.inputs) (drop l.k l.inputs)
