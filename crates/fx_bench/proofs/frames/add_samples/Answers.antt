use Rattle.std.proofs.Common.{sym, ap, ◌∙◌, ◌/◌, ◌++◌, ℕ, List}
use Rattle.std.proofs.lemmas.List.{append-nil}
use Rattle.fx_bench.specs.Generator.{next_state}
use Rattle.fx_bench.proofs.DrawLemmas.{state_none, state_next, samples_none, sample_added}
use Rattle.fx_bench.proofs.frames.add_samples.Goals as goal

pub loop-init : goal.loop-init
loop-init c = record {
  state_is = sym (state_none c.args.draws.now.state);
  bytes_are =
      sym (append-nil c.args.bytes.now.items) ∙ ap (λ (s : List ℕ). c.args.bytes.now.items ++ s) (sym (samples_none c.args.draws.now.state));
}

pub loop-preserved : goal.loop-preserved
loop-preserved c =
    let r = c.args.draws.now.state in
    let next = c.next.ensures.state ∙ ap next_state c.loop.invariant.state_is ∙ sym (state_next r c.loop.counter) in
    record {
      state_is = next;
      bytes_are =
          sample_added r c.loop.counter c.next.result c.args.bytes.now.items c.loop.bytes.items c.push.new.self.items
          c.loop.invariant.bytes_are (c.next.ensures.value ∙ ap (λ (s : ℕ). s / 65536) next)
          c.in_ok-push.ensures.items;
    }
