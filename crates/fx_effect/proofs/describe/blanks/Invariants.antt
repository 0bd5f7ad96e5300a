use Rattle.std.proofs.Common.{◌≡◌, [], map, take}
use Rattle.fx_props.specs.Entries.{blank_entry}
use Rattle.fx_effect.proofs.describe.blanks.Given as goal

abbrev pub invariant-loop-name : goal.invariant-loop-name
invariant-loop-name l = l.entries.items ≡ map (λ k. blank_entry [] k.1 k.0.now) (take l.name-index l.kinds)
