use Rattle.std.proofs.Common.{◌≤◌, ◌+◌, ◌*◌, length, slice_index, ap, ◌∙◌, arith}
use Rattle.std.proofs.lemmas.Simd.{get_or-chunk, get_or-put_chunk_above}
use lib.Lanes.{chunk}
use Rattle.fx_kernel.specs.Blends.{blended}
use Rattle.fx_kernel.proofs.LaneLaws.{lanes_next}
use Rattle.fx_kernel.proofs.blend.blend_bytes.Goals as goal

pub loop-block-preserved : goal.loop-block-preserved
loop-block-preserved c =
    let block = c.loop-block.block in
    let row = c.loop-block.row in
    let was = c.args.row.now in
    let other = c.args.other.now in
    let made = c.blend_lanes.result in
    let level = c.args.level in
    let at = 32 * block in
    let long = c.blend_lanes.ensures.len in
    let room : at + 32 ≤ length row = omega arith in
    record {
      done = λ k below. lanes_next (λ k. blended level (slice_index was k) (slice_index other k)) row made at 32 long
          room c.loop-block.invariant.done
          (λ i low. c.blend_lanes.ensures.value i low
          ∙ ap (λ s. blended level s (slice_index (chunk at 32 other) i))
          (get_or-chunk at 32 row i 0 low ∙ c.loop-block.invariant.left (at + i) (omega arith))
          ∙ ap (blended level (slice_index was (at + i))) (get_or-chunk at 32 other i 0 low)) k (omega (arith, below));
      left = λ k behind. get_or-put_chunk_above at row made k 0 (omega arith)
          ∙ c.loop-block.invariant.left k (omega arith);
    }
