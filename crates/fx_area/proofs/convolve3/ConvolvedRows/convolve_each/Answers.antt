use Rattle.std.proofs.Common.{◌≡◌, ◌≤◌, ◌<◌, ◌+◌, ◌*◌, ◌/◌, ◌≢◌, ◌∙◌, ℕ, length, ap, refl, sym, subst, below_more}
use Rattle.std.proofs.Common.{arith}
use Rattle.fx_pixel.specs.declared.Depth.{Depth}
use Rattle.fx_pixel.specs.declared.Depth.TheVariants.{Byte, Short}
use Rattle.fx_pixel.specs.declared.Components.{Components}
use Rattle.fx_pixel.specs.declared.Components.TheVariants as components
use Rattle.fx_pixel.specs.Pixel.{greatest, size, count}
use Rattle.fx_area.specs.Convolve3.{rounded_z}
use Rattle.fx_kernel.specs.Samples.{clamped}
use Rattle.fx_area.proofs.ConvolveLaws.{two_sum, three_sum, three_are, sample_below}
use Rattle.fx_area.proofs.SideLaws.{step_is}
use Rattle.fx_area.proofs.convolve3.ConvolvedRows.convolve_each.Goals as goal

-- sample s of a row, and the one two pixels behind it in a line of two pixels more
own_room : (d : Depth) (row long s : ℕ) → s < row / size d → long ≡ row → size d * s + size d ≤ long
own_room Byte row long s low is = omega (arith, low, is)
own_room Short row long s low is = omega (arith, low, is)

line_room : (d : Depth) (c : Components) (row long s : ℕ) → s < row / size d → long ≡ row + 2 * (count c * size d)
    → size d * (s + 2 * count c) + size d ≤ long
line_room Byte components.Rgba row long s low is = omega (arith, low, is)
line_room Byte components.Alpha row long s low is = omega (arith, low, is)
line_room Short components.Rgba row long s low is = omega (arith, low, is)
line_room Short components.Alpha row long s low is = omega (arith, low, is)

room_of : (d : Depth) (c : Components) (row long s q k : ℕ) → s < row / q → q ≡ size d → k ≡ count c
    → long ≡ row + 2 * (count c * size d) → size d * (s + 2 * k) + size d ≤ long
room_of d c row long s q k low by step is =
    subst (λ n. size d * (s + 2 * n) + size d ≤ long) (sym step)
    (line_room d c row long s (subst (λ n. s < row / n) by low) is)

pub overflow_add-high : goal.overflow_add-high
overflow_add-high c = two_sum c.sum-high.result c.sum-level.result c.sum-high.ensures.near c.sum-level.ensures.near

pub overflow_add-high-in-loop-s : goal.overflow_add-high-in-loop-s
overflow_add-high-in-loop-s c =
    three_sum c.sum-high.result c.sum-level.result c.sum-low.result c.sum-high.ensures.near c.sum-level.ensures.near
    c.sum-low.ensures.near

pub loop-s-preserved : goal.loop-s-preserved
loop-s-preserved c =
    let s = c.loop-s.s in
    let sum =
    three_are c.sum-high.result c.sum-level.result c.sum-low.result c.sum-high.ensures.near c.sum-level.ensures.near
    c.sum-low.ensures.near in
    let others = c.set_sample.ensures.others in
    record {
      done = below_more _ _
          (λ k low from. let other : k ≢ s = omega arith in others k other ∙ c.loop-s.invariant.done k low from)
          (λ from. c.set_sample.ensures.there ∙ c.divided.ensures.value
          ∙ ap (λ z. clamped (greatest c.args.depth) (rounded_z z c.args.self.now.divisor)) sum
          ∙ rw (c.sum-high.ensures.value, c.sum-level.ensures.value, c.sum-low.ensures.value, c.count-step.ensures)
          refl);
      left = λ k before. let other : k ≢ s = omega arith in others k other ∙ c.loop-s.invariant.left k before;
    }

pub returns-clause-done : goal.returns-clause-done
returns-clause-done c s from room =
    c.loop-s.invariant.done s
    (sample_below c.args.depth s _ _ c.size.result c.size.ensures room c.loop-s-test.false) from

pub sum-high-requires-clause-step : goal.sum-high-requires-clause-step
sum-high-requires-clause-step c = (step_is c.args.components c.count-step.result c.count-step.ensures).1

pub sum-high-requires-clause-room : goal.sum-high-requires-clause-room
sum-high-requires-clause-room c =
    room_of c.args.depth c.args.components _ _ c.loop-s.s c.size.result c.count-step.result c.loop-s-test.true
    c.size.ensures c.count-step.ensures c.requires.top

pub sum-level-requires-clause-step : goal.sum-level-requires-clause-step
sum-level-requires-clause-step c = (step_is c.args.components c.count-step.result c.count-step.ensures).1

pub sum-level-requires-clause-room : goal.sum-level-requires-clause-room
sum-level-requires-clause-room c =
    room_of c.args.depth c.args.components _ _ c.loop-s.s c.size.result c.count-step.result c.loop-s-test.true
    c.size.ensures c.count-step.ensures c.requires.middle

pub sum-low-requires-clause-step : goal.sum-low-requires-clause-step
sum-low-requires-clause-step c = (step_is c.args.components c.count-step.result c.count-step.ensures).1

pub sum-low-requires-clause-room : goal.sum-low-requires-clause-room
sum-low-requires-clause-room c =
    room_of c.args.depth c.args.components _ _ c.loop-s.s c.size.result c.count-step.result c.loop-s-test.true
    c.size.ensures c.count-step.ensures c.requires.bottom

pub set_sample-requires-clause-room : goal.set_sample-requires-clause-room
set_sample-requires-clause-room c =
    let low = subst (λ n. c.loop-s.s < length c.args.row.now / n) c.size.ensures c.loop-s-test.true in
    own_room c.args.depth _ _ c.loop-s.s low c.loop-s.auto.row
