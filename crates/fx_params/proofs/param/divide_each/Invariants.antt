use Rattle.std.proofs.Common.{◌≡◌, ◌++◌, map, take, drop}
use Rattle.fx_params.specs.Parameter.{divided_from, with_value}
use Rattle.fx_params.proofs.param.divide_each.Given as goal

abbrev pub invariant-loop-key : goal.invariant-loop-key
invariant-loop-key l =
    l.key-items ≡ map (with_value (divided_from l.least l.by)) (take l.key-index l.initial.key-items) ++ drop l.key-index l.initial.key-items
