use Rattle.std.proofs.Common.{◌≡◌, ◌<◌, ◌-◌, ◌*◌, ◌/◌, ℕ, length}
use Rattle.fx_pixel.specs.declared.Components.TheVariants.{Rgba}
use Rattle.fx_image.specs.Stored.{pixel_size, pixel_in}
use Rattle.fx_move.proofs.mirror.turn_blocks.Given as goal

abbrev pub invariant-loop-block : goal.invariant-loop-block
invariant-loop-block l =
    (n k : ℕ) → n * pixel_size l.depth Rgba ≡ length l.source → k < 32 / pixel_size l.depth Rgba * l.block
    → pixel_in l.depth Rgba l.row k ≡ pixel_in l.depth Rgba l.source ((n - 1) - k)
