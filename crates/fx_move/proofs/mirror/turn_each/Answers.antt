use Rattle.std.proofs.Common.{◌≡◌, ◌≢◌, ◌-◌, ◌/◌, length, ap, below_more, arith, ◌∙◌}
use Rattle.fx_image.specs.Stored.{pixel_in, pixel_size}
use Rattle.fx_move.proofs.MirrorRows.{whole_count}
use Rattle.fx_move.proofs.RowFits.{size_some}
use Rattle.fx_move.proofs.mirror.turn_each.Goals as goal

pub loop-i-preserved : goal.loop-i-preserved
loop-i-preserved c =
    let there = rw c.pixel.ensures.components at c.set_pixel.ensures.there in
    let others = rw c.pixel.ensures.components at c.set_pixel.ensures.others in
    let inv = c.loop-i.invariant in
    record {
      done = below_more _ _
          (λ k low begun. let other : k ≢ c.loop-i.i = omega arith in others k other ∙ inv.done k low begun)
          (λ begun. there ∙ c.pixel.ensures.value);
      left = λ k low. let other : k ≢ c.loop-i.i = omega arith in others k other ∙ inv.left k low;
    }

pub returns-clause-done : goal.returns-clause-done
returns-clause-done c n i is low begun =
    let d = c.args.depth in
    let s = c.args.components in
    let count : length c.args.source.now / c.pixel_size.result ≡ n = ap (λ k. length c.args.source.now / k) c.pixel_size.ensures.value ∙ whole_count n (pixel_size d s) (length c.args.source.now) (size_some d s) is in
    let done = c.loop-i.invariant.done i (omega (arith, count, c.loop-i-test.false)) begun in
    done ∙ ap (λ k. pixel_in d s c.args.source.now ((k - 1) - i)) count
