use Rattle.std.proofs.Common.{◌≡◌, ℤ, ◌≤ℤ◌, ◌<ℤ◌, true, map}
use Rattle.fx_effect.specs.Tap.{tap}
use Rattle.fx_effect.specs.Given.{any_holds}
use Rattle.fx_effect.specs.Placed.{given_piece}
use Rattle.fx_effect.proofs.inputs.cover_row.Given as goal

abbrev pub invariant-loop-placed : goal.invariant-loop-placed
invariant-loop-placed l =
    (x : ℤ) → l.fn.rect.x1 ≤ℤ x → x <ℤ l.reach → any_holds (map given_piece l.pieces) (tap l.clip l.fn.frame x l.fn.y) ≡ true
