use Rattle.std.proofs.Common.{◌≡◌, ◌*◌, string_bytes}
use Rattle.fx_bench.specs.Generator.{state}
use Rattle.fx_bench.specs.Graphs as made
use Rattle.fx_bench.proofs.graph.nodes_text.Given as goal

abbrev pub invariant-loop-k : goal.invariant-loop-k
invariant-loop-k l = record {
  state_is : l.draws.state ≡ state l.initial.draws.state (2 * l.k);
  text_is : string_bytes l.text ≡ made.nodes_text l.initial.draws.state l.k;
}
