use Rattle.std.proofs.Common.{◌≢◌, ◌∙◌, refl, below_more, arith}
use Rattle.fx_move.proofs.RowFits.{sample_below}
use Rattle.fx_move.proofs.translate.weigh_each.Goals as goal

pub loop-s-preserved : goal.loop-s-preserved
loop-s-preserved c =
    let s = c.loop-s.s in
    below_more _ _
    (λ k low. let other : k ≢ s = omega arith in c.set_sample.ensures.others k other ∙ c.loop-s.invariant k low)
    (c.set_sample.ensures.there ∙ c.weigh-weighed.ensures.value
    ∙ rw (c.sample-left_low.ensures.value, c.sample-left_high.ensures.value, c.sample-right_low.ensures.value, c.sample-right_high.ensures.value, c.count-step.ensures) refl)

pub returns : goal.returns
returns c s room = c.loop-s.invariant s (sample_below c.args.depth s _ _ c.size.result c.size.ensures room c.loop-s-test.false)
