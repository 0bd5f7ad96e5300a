use Rattle.std.proofs.Common.{◌≡◌, map, take}
use Rattle.fx_props.specs.Entries.{whole}
use Rattle.fx_effect.proofs.args.wholes.Given as goal

abbrev pub invariant-loop-n : goal.invariant-loop-n
invariant-loop-n l = l.values.items ≡ map whole (take l.n-index l.numbers)
