use Rattle.std.proofs.Common.{◌≡◌, ◌<◌, ◌+◌, ◌*◌, length, ap, below_more, arith, ◌∙◌}
use Rattle.fx_kernel.specs.Samples.{rounded}
use Rattle.fx_kernel.proofs.FactorLaws.{fits_64}
use Rattle.fx_kernel.proofs.WindowLaws.{place_apart, last_cell, sum_more, sum_enough, sum_next, sum_fits, room_for}
use Rattle.fx_kernel.proofs.windows.slide.Goals as goal

pub window_sum-sum-requires-clause-room : goal.window_sum-sum-requires-clause-room
window_sum-sum-requires-clause-room c = let all : (c.args.windows.count + c.args.windows.more) * c.args.windows.step ≡ length c.args.cells.now = c.requires.cells in omega arith

pub overflow_add-sum-in-loop-i : goal.overflow_add-sum-in-loop-i
overflow_add-sum-in-loop-i c = fits_64 _ (sum_fits c.args.cells.now c.args.windows.step (c.args.first + c.args.windows.step * c.loop-i.i) c.args.windows.more c.loop-i.sum c.loop-i.invariant.value c.requires.few c.requires.small)

pub sample-requires : goal.sample-requires
sample-requires c = rw (sum_more c.args.cells.now c.args.windows.step (c.args.first + c.args.windows.step * c.loop-i.i) c.args.windows.more c.loop-i.sum c.loop-i.invariant.value) (c.requires.bound c.loop-i.i c.loop-i-test.true)

pub set_sample-requires-clause-room : goal.set_sample-requires-clause-room
set_sample-requires-clause-room c =
    let within = last_cell c.args.first c.args.windows.step c.loop-i.i c.args.windows.count 0 (c.args.windows.count * c.args.windows.step) c.requires.first c.loop-i-test.true (omega arith) in
    room_for c.args.depth (c.args.first + c.args.windows.step * c.loop-i.i) (c.args.windows.count * c.args.windows.step) _ (omega (arith, within)) (c.loop-i.auto.row ∙ c.requires.long)

pub overflow_sub-sum : goal.overflow_sub-sum
overflow_sub-sum c = sum_enough c.args.cells.now c.args.windows.step (c.args.first + c.args.windows.step * c.loop-i.i) c.args.windows.more c.loop-i.sum c.loop-i.invariant.value

pub loop-i-preserved : goal.loop-i-preserved
loop-i-preserved c =
    let cells = c.args.cells.now in
    let step = c.args.windows.step in
    let i = c.loop-i.i in
    let s = c.args.first + step * i in
    let inv = c.loop-i.invariant in
    let some : 0 < step = omega (arith, c.requires.first) in
    let mean = sum_more cells step s c.args.windows.more c.loop-i.sum inv.value in
    record {
      value = sum_next cells step s c.args.windows.more c.loop-i.sum inv.value (c.args.first + step * (i + 1)) (omega arith);
      done = below_more _ _
          (λ k low. c.set_sample.ensures.others (c.args.first + step * k) (place_apart c.args.first step k i some low) ∙ inv.done k low)
          (c.set_sample.ensures.there ∙ c.sample.ensures.value ∙ ap (λ w. rounded w c.args.mean) mean);
      others = λ j apart. c.set_sample.ensures.others j (apart i) ∙ inv.others j apart;
    }
