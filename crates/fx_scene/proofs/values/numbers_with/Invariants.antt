use Rattle.std.proofs.Common.{◌≡◌, map, take}
use Rattle.fx_params.specs.Parameter.{value_at}
use Rattle.fx_scene.proofs.values.numbers_with.Given as goal

abbrev pub invariant-loop-param : goal.invariant-loop-param
invariant-loop-param l = l.numbers.items ≡ map (λ p. value_at p.now l.frame) (take l.param-index l.row)
