use Rattle.std.proofs.Common.{◌≡◌, drop, map}
use Rattle.fx_effect.specs.Tap.{tap}
use Rattle.fx_effect.specs.Given.{first_pixel}
use Rattle.fx_effect.specs.Placed.{given_piece}
use Rattle.fx_effect.proofs.inputs.pixel_in_pieces.Given as goal

abbrev pub invariant-loop-placed : goal.invariant-loop-placed
invariant-loop-placed l =
    let t = tap l.clip l.frame l.x l.y in
    first_pixel l.depth l.components (map given_piece (drop l.placed-index l.pieces)) t ≡ first_pixel l.depth l.components (map given_piece l.pieces) t
