use Rattle.std.proofs.Common.{◌≡◌, ◌++◌, drop}
use Rattle.fx_graph.specs.Described.{contexts_in}
use Rattle.fx_graph.proofs.described.contexts_in.Given as goal

abbrev pub invariant-loop-text : goal.invariant-loop-text
invariant-loop-text l = l.found.items ++ contexts_in (drop l.text-index l.texts) ≡ contexts_in l.texts
