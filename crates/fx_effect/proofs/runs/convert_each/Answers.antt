use Rattle.std.proofs.Common.{◌≢◌, ◌+◌, length, ap, below_more, arith, ◌∙◌, rules}
use Rattle.fx_image.specs.Stored.{pixel_size}
use Rattle.fx_image.proofs.RowsLaws.{rows_apart}
use Rattle.fx_effect.specs.Given.{converted}
use Rattle.fx_effect.proofs.RunLaws.{few_pixels, few_fit, run_room, beside_run}
use Rattle.fx_effect.proofs.runs.convert_each.Goals as goal

pub pixel-p-requires : goal.pixel-p-requires
pixel-p-requires c = rw c.requires.source (rows_apart c.loop-i.i c.args.count (pixel_size c.args.from c.args.seen) c.loop-i-test.true)

pub overflow_add-first : goal.overflow_add-first
overflow_add-first c =
    let few = few_pixels c.args.depth c.args.components (c.args.first + c.args.count) (length c.args.row.now) c.requires.room in
    few_fit c.args.first c.args.count c.loop-i.i (length c.args.row.now) few c.loop-i-test.true (search rules)

pub set_pixel-requires-clause-room : goal.set_pixel-requires-clause-room
set_pixel-requires-clause-room c =
    rw c.convert-q.ensures.components (run_room c.args.depth c.args.components c.args.first c.args.count c.loop-i.i (length c.loop-i.row) (rw c.loop-i.auto.row c.requires.room) c.loop-i-test.true)

pub loop-i-preserved : goal.loop-i-preserved
loop-i-preserved c =
    let i = c.loop-i.i in
    let there = rw c.convert-q.ensures.components at c.set_pixel.ensures.there in
    let others = rw c.convert-q.ensures.components at c.set_pixel.ensures.others in
    record {
      painted = below_more _ _
          (λ k low. let other : c.args.first + k ≢ c.args.first + i = λ e. absurd (omega arith) in others (c.args.first + k) other ∙ c.loop-i.invariant.painted k low)
          (there ∙ c.convert-q.ensures.value ∙ ap (converted c.args.from c.args.through.now c.args.depth c.args.components) c.pixel-p.ensures.value);
      others = λ j out. others j (beside_run c.args.first c.args.count i j c.loop-i-test.true out) ∙ c.loop-i.invariant.others j out;
    }
