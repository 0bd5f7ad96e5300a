-- Regions of nodes that may be rendered.
use Rattle.std.specs.Prelude.{◌≢◌, ◌≤◌}
use Rattle.fx_base.specs.Bounds.{Bounds, none}
use Rattle.fx_base.specs.Rect.{columns, rows}
use Rattle.fx_base.specs.declared.limits.TheConstants.{MOST_SIDE}
use Rattle.fx_effect.specs.Asked.{IsWindow}

-- no more columns and rows than a project may have
abbrev pub IsSmall : Bounds → Type 0
IsSmall r = (columns r ≤ MOST_SIDE) × (rows r ≤ MOST_SIDE)

-- a region that may be rendered at once: it has a place, and is no larger than a project may be
pub record IsRegion (region : Bounds) : Type 0 where
  pub some : region ≢ none
  pub window : IsWindow region
  pub small : IsSmall region
