use Rattle.std.proofs.Common.{◌≡◌, ℕ, List, take}
use Rattle.fx_props.specs.Entries.{HasValues, texts_entry}
use Rattle.fx_props.proofs.read.texts_at.Given as goal

abbrev pub invariant-loop-k : goal.invariant-loop-k
invariant-loop-k l = (items : List (List ℕ)) → HasValues l.set (texts_entry l.name items) → l.texts.items ≡ take l.k items
