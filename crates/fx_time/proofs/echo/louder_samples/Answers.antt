use Rattle.std.proofs.Common.{◌≢◌, ◌∙◌, ◌≤◌, max, ap, below_more, arith}
use Rattle.fx_time.specs.Echo.{weighed}
use Rattle.fx_time.proofs.echo.louder_samples.Goals as goal

pub loop-s-preserved : goal.loop-s-preserved
loop-s-preserved c =
    let s = c.loop-s.s in
    let w = c.args.weight in
    let others = c.set_sample.ensures.others in
    let inv = c.loop-s.invariant in
    let here : s ≤ s = omega arith in
    let there = c.weighed-weighed.ensures.value ∙ ap (weighed w.count w.back) c.sample.ensures.value in
    let own = c.sample-in-loop-s.ensures.value ∙ inv.rest s here in
    record {
      done = below_more _ _
          (λ k low. let other : k ≢ s = omega (arith, low) in others k other ∙ inv.done k low)
          (c.set_sample.ensures.there ∙ c.max.ensures ∙ ap (λ n. max n c.sample-in-loop-s.result) there ∙ ap (max _) own);
      rest = λ k low.
          let other : k ≢ s = omega (arith, low) in
          others k other ∙ inv.rest k (omega (arith, low));
    }
