use Rattle.std.proofs.Common.{◌≡◌, ℤ, ◌-◌, length, drop, map}
use Rattle.std.specs.Int.{int_gap}
use Rattle.fx_base.specs.Rect.{Holds}
use Rattle.fx_image.specs.Stored.{pixel_in}
use Rattle.fx_effect.specs.Tap.{tap}
use Rattle.fx_effect.specs.Given.{pixel_over}
use Rattle.fx_effect.specs.Placed.{given_piece}
use Rattle.fx_effect.proofs.inputs.paint_pieces.Given as goal

abbrev pub invariant-loop-n : goal.invariant-loop-n
invariant-loop-n l =
    (x : ℤ) → Holds l.fn.rect x l.fn.y → let i = int_gap l.fn.rect.x1 x in
    pixel_in l.depth l.components l.row i ≡ pixel_over l.depth l.components (map given_piece (drop (length l.pieces - l.n) l.pieces)) (tap l.clip l.fn.frame x l.fn.y) (pixel_in l.depth l.components l.fn.row i)
