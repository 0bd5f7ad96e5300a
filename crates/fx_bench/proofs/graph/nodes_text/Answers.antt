use Rattle.std.proofs.Common.{sym, ap, ◌∙◌, ℕ, string_bytes}
use Rattle.fx_bench.specs.Generator.{next_state}
use Rattle.fx_bench.proofs.DrawLemmas.{state_none, state_pair, nodes_none, node_added}
use Rattle.fx_bench.proofs.graph.nodes_text.Goals as goal

pub loop-k-init : goal.loop-k-init
loop-k-init c = record {
  state_is = sym (state_none c.args.draws.now.state);
  text_is = c.new-text.ensures.bytes ∙ sym (nodes_none c.args.draws.now.state);
}

pub loop-k-preserved : goal.loop-k-preserved
loop-k-preserved c =
    let r = c.args.draws.now.state in
    record {
      state_is =
          c.add_node.ensures.state ∙ ap (λ (s : ℕ). next_state (next_state s)) c.loop-k.invariant.state_is
          ∙ sym (state_pair r c.loop-k.k);
      text_is =
          node_added r c.loop-k.k c.loop-k.draws.state (string_bytes c.loop-k.text) (string_bytes c.add_node.new.text)
          c.loop-k.invariant.text_is c.loop-k.invariant.state_is c.in_ok-add_node.ensures.text;
    }
