use Rattle.std.proofs.Common.{sym, ap, ◌∙◌, ◌/◌, ◌%◌, ℕ, List}
use Rattle.fx_bench.specs.Generator.{next_state}
use Rattle.fx_bench.specs.Graphs.{graph_with, nodes_text, operation}
use Rattle.fx_bench.proofs.DrawLemmas.{state_next}
use Rattle.fx_bench.proofs.graph.graph_text.Goals as goal

pub returns-clause-state : goal.returns-clause-state
returns-clause-state c =
    c.next.ensures.state ∙ ap next_state c.in_ok-nodes.ensures.state ∙ sym (state_next c.args.draws.now.state 18)

pub returns-clause-text : goal.returns-clause-text
returns-clause-text c =
    let r = c.args.draws.now.state in
    let drawn = c.next.ensures.state ∙ ap next_state c.in_ok-nodes.ensures.state ∙ sym (state_next r 18) in
    ap (λ (v : _). v.items) c.into_bytes.ensures.value ∙ c.in_ok-text.ensures
    ∙ ap (λ (nodes : List ℕ). graph_with nodes c.operation-operation.result.now)
    (c.as_str.ensures.value ∙ c.in_ok-nodes.ensures.text)
    ∙ ap (graph_with (nodes_text r 9)) (c.operation-operation.ensures
    ∙ ap (λ (v : ℕ). operation (v % 7)) (c.next.ensures.value ∙ ap (λ (s : ℕ). s / 65536) drawn))
