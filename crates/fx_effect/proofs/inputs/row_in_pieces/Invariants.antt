use Rattle.std.proofs.Common.{◌≡◌, ℤ, drop, map}
use Rattle.fx_base.specs.Rect.{Holds}
use Rattle.fx_effect.specs.Tap.{tap}
use Rattle.fx_effect.specs.Given.{first_pixel}
use Rattle.fx_effect.specs.Placed.{given_piece}
use Rattle.fx_effect.proofs.inputs.row_in_pieces.Given as goal

abbrev pub invariant-loop-placed : goal.invariant-loop-placed
invariant-loop-placed l =
    (x : ℤ) → Holds l.rect x l.y → first_pixel l.depth l.components (map given_piece (drop l.placed-index l.pieces)) (tap l.clip l.frame x l.y) ≡ first_pixel l.depth l.components (map given_piece l.pieces) (tap l.clip l.frame x l.y)
