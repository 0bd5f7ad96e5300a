use Rattle.std.proofs.Common.{◌≡◌, ◌≢◌, ◌≤◌, ◌+◌, ◌∙◌, ap, below_more, arith}
use Rattle.fx_pixel.specs.declared.Depth.TheVariants.{Short}
use Rattle.fx_image.specs.Stored.{sample_in}
use Rattle.fx_area.specs.Extreme.{pick}
use Rattle.fx_area.proofs.extreme.spread_each.Goals as goal

pub loop-s-preserved : goal.loop-s-preserved
loop-s-preserved c =
    let s = c.loop-s.s in
    let e = c.args.extreme in
    let inv = c.loop-s.invariant in
    let first = c.sample-a.ensures.value ∙ inv.rest s (omega arith) in
    let second = c.sample-b.ensures.value ∙ inv.rest (s + c.args.shift) (omega arith) in
    record {
      done = λ k from low. below_more (λ j. c.args.first ≤ j → sample_in Short c.set_sample.new.row j ≡ pick e (sample_in Short c.args.bytes.now j) (sample_in Short c.args.bytes.now (j + c.args.shift))) s
          (λ j before begun. let other : j ≢ s = omega arith in c.set_sample.ensures.others j other ∙ inv.done j begun before)
          (λ begun. c.set_sample.ensures.there ∙ c.pick.ensures.value ∙ ap (λ x. pick e x c.sample-b.result) first ∙ ap (pick e (sample_in Short c.args.bytes.now s)) second)
          k low from;
      rest = λ k low. let other : k ≢ s = omega arith in c.set_sample.ensures.others k other ∙ inv.rest k (omega arith);
      left = λ k low. let other : k ≢ s = omega arith in c.set_sample.ensures.others k other ∙ inv.left k low;
    }
