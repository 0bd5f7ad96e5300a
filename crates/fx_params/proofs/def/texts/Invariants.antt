use Rattle.std.proofs.Common.{◌≡◌, take, map}
use Rattle.fx_params.proofs.def.texts.Given as goal

abbrev pub invariant-loop-text : goal.invariant-loop-text
invariant-loop-text l = l.names.items ≡ map (λ text. text.now) (take l.text-index l.choices)
