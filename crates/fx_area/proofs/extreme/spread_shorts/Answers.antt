use Rattle.std.proofs.Common.{◌≡◌, ◌≤◌, ◌+◌, ◌*◌, ◌/◌, length, slice_index, ap, ◌∙◌, arith}
use lib.Lanes.{chunk}
use Rattle.fx_pixel.specs.declared.Depth.TheVariants.{Short}
use Rattle.fx_image.specs.Stored.{sample_in}
use Rattle.fx_area.specs.Extreme.{pick}
use Rattle.fx_area.proofs.ShortLaws.{stored_behind, block_picked, rest_picked}
use Rattle.fx_area.proofs.extreme.spread_shorts.Goals as goal

pub loop-block-preserved : goal.loop-block-preserved
loop-block-preserved c =
    let block = c.loop-block.block in
    let row = c.loop-block.bytes in
    let inv = c.loop-block.invariant in
    let made = c.bytes_of.result in
    let e = c.args.extreme in
    let long = c.bytes_of.ensures.len in
    let room : 32 * block + 32 ≤ length row = omega arith in
    record {
      done = block_picked e c.args.shift block c.args.bytes.now row made long room inv.done inv.left
          (λ i low. c.bytes_of.ensures.value i low ∙ c.pick_lanes.ensures i low
          ∙ ap (λ a. pick e a (slice_index c.samples_of-there.result i)) (c.samples_of-here.ensures i low)
          ∙ ap (pick e (sample_in Short (chunk (32 * block) 32 row) i)) (c.samples_of-there.ensures i low));
      left = λ k behind. stored_behind block row made k long behind ∙ inv.left k (omega arith);
    }

pub returns : goal.returns
returns c s low =
    let block = c.loop-block.block in
    let inv = c.loop-block.invariant in
    let all : block ≡ c.saturating_sub-whole.result / 16 = omega arith in
    rest_picked c.args.extreme c.args.shift (16 * block) c.args.bytes.now c.loop-block.bytes c.spread_each.new.bytes inv.done inv.left
    (λ k before. c.spread_each.ensures.left k (omega (arith, all, before))) s
    (λ behind. c.spread_each.ensures.done s (omega (arith, all, behind)) low)
