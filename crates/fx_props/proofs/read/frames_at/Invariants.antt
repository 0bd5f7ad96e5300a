use Rattle.std.proofs.Common.{◌≡◌, ℤ, List, take}
use Rattle.fx_props.specs.Entries.{HasValues}
use Rattle.fx_props.specs.Entries.{frames_entry}
use Rattle.fx_props.proofs.read.frames_at.Given as goal

abbrev pub invariant-loop-k : goal.invariant-loop-k
invariant-loop-k l = (spans : List (ℤ × ℤ)) → HasValues l.set (frames_entry l.name spans) → l.spans.items ≡ take l.k spans
