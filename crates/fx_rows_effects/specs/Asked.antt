-- How the rows of the effects ask.
use Rattle.std.specs.Prelude.{◌≢◌, ℤ, Bool, true, false, pos, negsuc, ◌≤ℤ◌}
use Rattle.fx_base.specs.Bounds.{Bounds, none}
use Rattle.fx_effect.specs.Asked.{IsWindow}

-- a window that isn't empty and lies within 64 pixels of the origin
pub record IsSmallWindow (r : Bounds) : Type 0 where
  pub window : IsWindow r
  pub some : r ≢ none
  pub left : negsuc 63 ≤ℤ r.x1
  pub bottom : negsuc 63 ≤ℤ r.y1
  pub right : r.x2 ≤ℤ pos 64
  pub top : r.y2 ≤ℤ pos 64

-- where the source of a clip has pixels: in columns 0 to 3 of row 0
abbrev pub source_region : Bool → Bounds
source_region true = record { x1 = pos 0; y1 = pos 0; x2 = pos 4; y2 = pos 1 }
source_region false = none
