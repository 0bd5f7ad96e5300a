use Rattle.std.proofs.Common.{◌≡◌, ◌≤◌, ◌<◌, ◌+◌, ◌-◌, ◌*◌, ◌∙◌, ℕ, min, arith}
use Rattle.fx_pixel.specs.declared.Depth.{Depth}
use Rattle.fx_pixel.specs.declared.Depth.TheVariants.{Byte, Short}
use Rattle.fx_pixel.specs.declared.Components.TheVariants.{Alpha}
use Rattle.fx_image.specs.Stored.{pixel_size}
use Rattle.fx_pixel.specs.Pixel.{size}
use Rattle.fx_area.proofs.BlockLaws.{block_done, block_rest}
use Rattle.fx_area.proofs.extreme.spread_blocks.Goals as goal

-- a block lies in the samples
block_room : (d : Depth) (first few end count shift long : ℕ) → few ≡ min 256 (end - first) → first < end
    → end ≡ count - shift → long ≡ count * size d → (first + few) * pixel_size d Alpha ≤ long
block_room Byte first few end count shift long most low is all =
    omega (arith, most, low, is, all)
block_room Short first few end count shift long most low is all =
    omega (arith, most, low, is, all)

pub loop-first-preserved : goal.loop-first-preserved
loop-first-preserved c =
    let inv = c.loop-first.invariant in
    let first = c.loop-first.first in
    let few = c.min-few.result in
    let old = c.args.bytes.now in
    let mid = c.loop-first.bytes in
    let block = c.pick_block.new.block in
    let new = c.copy_pixels.new.row in
    record {
      end_is = inv.end_is;
      most = omega (arith, c.min-few.ensures, inv.most);
      done = block_done c.args.extreme c.args.depth first few c.args.shift old mid block new inv.done inv.rest c.pick_block.ensures
          c.copy_pixels.ensures.copied c.copy_pixels.ensures.others;
      rest = block_rest c.args.depth first few old mid new inv.rest c.copy_pixels.ensures.others;
    }

pub copy_pixels-requires-clause-room : goal.copy_pixels-requires-clause-room
copy_pixels-requires-clause-room c =
    block_room c.args.depth c.loop-first.first c.min-few.result c.saturating_sub-end.result c.args.count c.args.shift _
    c.min-few.ensures c.loop-first-test.true c.loop-first.invariant.end_is (c.loop-first.auto.bytes ∙ c.requires.long)
