use Rattle.std.proofs.Common.{◌≤◌, ◌+◌, ◌*◌, ℕ, length, inl, inr, ap, ◌∙◌, arith}
use Rattle.std.proofs.lemmas.Bool.{cases_lt}
use Rattle.fx_pixel.specs.declared.Depth.TheVariants.{Byte}
use Rattle.fx_pixel.specs.Pixel.{count}
use Rattle.fx_kernel.specs.Samples.{clamped}
use Rattle.fx_kernel.proofs.LaneLaws.{lanes_next}
use Rattle.fx_area.specs.Convolve3.{rounded_z}
use Rattle.fx_area.specs.ConvolveRows.{triple_sum, convolved_sample}
use Rattle.fx_area.proofs.NineLaws.{nines_few, nines_are}
use Rattle.fx_area.proofs.convolve3.ConvolvedRows.convolve_bytes.Goals as goal

pub means-requires-clause-sums : goal.means-requires-clause-sums
means-requires-clause-sums c i low =
    let high = c.lanes-high in let level = c.lanes-level in let deep = c.lanes-low in
    nines_few high.result level.result deep.result i high.ensures.len level.ensures.len deep.ensures.len low
    (high.ensures.few i low) (level.ensures.few i low) (deep.ensures.few i low)

pub loop-block-preserved : goal.loop-block-preserved
loop-block-preserved c =
    let high = c.lanes-high in let level = c.lanes-level in let deep = c.lanes-low in
    let row = c.loop-block.row in
    let at = 16 * c.loop-block.block in
    let k = c.args.self.now in
    let top = c.args.top.now in let middle = c.args.middle.now in let bottom = c.args.bottom.now in
    let sample = λ (step s : ℕ). convolved_sample k.factors k.divisor Byte step top middle bottom s in
    let step = c.count-step.result in
    let room : at + 16 ≤ length row = omega arith in
    λ s below. lanes_next (sample (count c.args.components)) row c.means.result at 16 c.means.ensures.len room
    c.loop-block.invariant
    (λ i low. c.means.ensures.value i low
    ∙ ap (λ z. clamped 255 (rounded_z z k.divisor))
    (nines_are high.result level.result deep.result i high.ensures.len level.ensures.len deep.ensures.len low
    (high.ensures.few i low) (level.ensures.few i low) (deep.ensures.few i low)
    (triple_sum k.factors.top Byte step top (at + i))
    (triple_sum k.factors.middle Byte step middle (at + i)) (triple_sum k.factors.bottom Byte step bottom (at + i))
    (high.ensures.value i low) (level.ensures.value i low) (deep.ensures.value i low))
    ∙ ap (λ step. sample step (at + i)) c.count-step.ensures) s (omega (arith, below))

pub returns : goal.returns
returns c s low =
    elim (cases_lt s (16 * c.loop-block.block)) [
      | inl before ↦ c.convolve_each.ensures.left s (omega (arith, before)) ∙ c.loop-block.invariant s before
      | inr behind ↦ c.convolve_each.ensures.done s (omega (arith, behind)) (omega (arith, low))
    ]
