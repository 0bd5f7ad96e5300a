-- The bounds of a rectangle, as contracts see a `Rect`.
use Rattle.std.specs.Prelude.{◌≡◌, ℤ, pos, ◌<ℤ◌, ◌⊎◌}

pub record Bounds : Type 0 where
  pub x1 : ℤ
  pub y1 : ℤ
  pub x2 : ℤ
  pub y2 : ℤ

-- the bounds of no pixel
abbrev pub none : Bounds
none = record { x1 = pos 0; y1 = pos 0; x2 = pos 0; y2 = pos 0 }

-- The one empty rectangle is (0, 0, 0, 0). Every other has a column and a row.
abbrev pub IsRect : Bounds → Type 0
IsRect r = (r ≡ none) ⊎ ((r.x1 <ℤ r.x2) × (r.y1 <ℤ r.y2))
