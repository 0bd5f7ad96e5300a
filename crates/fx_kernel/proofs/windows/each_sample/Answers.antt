use Rattle.std.proofs.Common.{◌≡◌, ◌+◌, ◌*◌, inl, inr, subst, arith, ◌∙◌}
use Rattle.std.proofs.lemmas.Bool.{cases_lt}
use Rattle.fx_image.specs.Stored.{sample_in}
use Rattle.fx_kernel.specs.Samples.{rounded}
use Rattle.fx_kernel.specs.Window.{window, strided}
use Rattle.fx_kernel.proofs.WindowLaws.{other_sample}
use Rattle.fx_kernel.proofs.windows.each_sample.Goals as goal

pub loop-first-preserved : goal.loop-first-preserved
loop-first-preserved c i k there low =
    let first = c.loop-first.first in
    let step = c.args.windows.step in
    elim (cases_lt k first) [
      | inl before ↦ c.slide.ensures.others (k + step * i) (λ j. other_sample step k first i j before c.loop-first-test.true) ∙ c.loop-first.invariant i k there before
      | inr behind ↦
          let is : first ≡ k = omega arith in
          subst (λ n. sample_in c.args.depth c.slide.new.row (n + step * i) ≡ rounded (window (strided c.args.cells.now step (n + step * i)) (c.args.windows.more + 1)) c.args.mean) is (c.slide.ensures.done i there)
    ]
