-- Rectangles as sets of places: half open, the y axis upwards (OpenFX 1.4, "Coordinate Systems").
use Rattle.std.specs.Prelude.{ℕ, ℤ, pos, negsuc, ◌≤ℤ◌, ◌+ℤ◌, ◌-ℤ◌, neg_ℤ, Bool, ◌&&◌, ◌||◌, IsTrue, if◌then◌else◌}
use Rattle.std.specs.Int.{int_gap, int_min, int_max, int_div_euclid}
use Rattle.std.specs.Int.Signed.{le_z, lt_z}
use Rattle.fx_base.specs.declared.fix.Fix.{Fix}
use Rattle.fx_base.specs.Bounds.{Bounds, none}

-- whether the place lies in the rectangle: x1 <= x < x2 and y1 <= y < y2
abbrev pub within : Bounds → ℤ → ℤ → Bool
within r x y = le_z r.x1 x && lt_z x r.x2 && le_z r.y1 y && lt_z y r.y2

-- the place lies in the rectangle
abbrev pub Holds : Bounds → ℤ → ℤ → Type 0
Holds r x y = IsTrue (within r x y)

-- these bounds, or those of no pixel where they hold none
abbrev pub rect_of : ℤ → ℤ → ℤ → ℤ → Bounds
rect_of x1 y1 x2 y2 = if lt_z x1 x2 && lt_z y1 y2 then record { x1 = x1; y1 = y1; x2 = x2; y2 = y2 } else none

-- each place of the first lies in the second
abbrev pub IsWithin : Bounds → Bounds → Type 0
IsWithin r s = (x y : ℤ) → Holds r x y → Holds s x y

-- how many columns and how many rows
abbrev pub columns : Bounds → ℕ
columns r = int_gap r.x1 r.x2

abbrev pub rows : Bounds → ℕ
rows r = int_gap r.y1 r.y2

-- frames lie between -2^30 and 2^30
abbrev pub IsFrame : ℤ → Type 0
IsFrame t = (negsuc 1073741823 ≤ℤ t) × (t ≤ℤ pos 1073741824)

-- coordinates lie between -2^30 and 2^30
pub record IsNear (r : Bounds) : Type 0 where
  pub left : negsuc 1073741823 ≤ℤ r.x1
  pub right : r.x2 ≤ℤ pos 1073741824
  pub bottom : negsuc 1073741823 ≤ℤ r.y1
  pub top : r.y2 ≤ℤ pos 1073741824

-- a number between -k and k
abbrev pub IsStep : ℕ → ℤ → Type 0
IsStep k d = (neg_ℤ (pos k) ≤ℤ d) × (d ≤ℤ pos k)

-- no coordinate is greater in magnitude than n
pub record IsUpTo (n : ℕ) (r : Bounds) : Type 0 where
  pub left : IsStep n r.x1
  pub bottom : IsStep n r.y1
  pub right : IsStep n r.x2
  pub top : IsStep n r.y2

-- whether these bounds hold no place
abbrev pub is_empty : Bounds → Bool
is_empty r = le_z r.x2 r.x1 || le_z r.y2 r.y1

-- the places of both
abbrev pub meet : Bounds → Bounds → Bounds
meet r s = rect_of (int_max r.x1 s.x1) (int_max r.y1 s.y1) (int_min r.x2 s.x2) (int_min r.y2 s.y2)

-- the least bounds round both, or the other one where one is empty
abbrev pub hull : Bounds → Bounds → Bounds
hull r s =
    if is_empty r
    then s
    else (if is_empty s
    then r
    else record { x1 = int_min r.x1 s.x1; y1 = int_min r.y1 s.y1; x2 = int_max r.x2 s.x2; y2 = int_max r.y2 s.y2 })

-- each bound moved, or the empty one as it is
abbrev pub stretched : Bounds → ℤ → ℤ → ℤ → ℤ → Bounds
stretched r left bottom right top =
    if is_empty r then none else record { x1 = r.x1 +ℤ left; y1 = r.y1 +ℤ bottom; x2 = r.x2 +ℤ right; y2 = r.y2 +ℤ top }

-- h more columns and v more rows on either side, or the empty one as it is
abbrev pub grown : Bounds → ℤ → ℤ → Bounds
grown r h v = if is_empty r then none else record { x1 = r.x1 -ℤ h; y1 = r.y1 -ℤ v; x2 = r.x2 +ℤ h; y2 = r.y2 +ℤ v }

-- a place of the rectangle lies at most h columns and v rows away from the place (x, y)
pub record Reaches (r : Bounds) (h v x y : ℤ) : Type 0 where
  pub column : ℤ
  pub row : ℤ
  pub held : Holds r column row
  pub left : (x -ℤ h) ≤ℤ column
  pub right : column ≤ℤ (x +ℤ h)
  pub bottom : (y -ℤ v) ≤ℤ row
  pub top : row ≤ℤ (y +ℤ v)

-- moved by dx columns and dy rows, or the empty one as it is
abbrev pub shifted : Bounds → ℤ → ℤ → Bounds
shifted r dx dy =
    if is_empty r then none else record { x1 = r.x1 +ℤ dx; y1 = r.y1 +ℤ dy; x2 = r.x2 +ℤ dx; y2 = r.y2 +ℤ dy }

-- the greatest whole number up to a fixed-point number (`int_div_euclid` by a positive number is the floor)
abbrev pub floor : Fix → ℤ
floor n = int_div_euclid n.raw (pos 65536)

-- the least whole number from a fixed-point number on
abbrev pub ceiling : Fix → ℤ
ceiling n = neg_ℤ (int_div_euclid (neg_ℤ n.raw) (pos 65536))

-- the pixels of a canonical rectangle
abbrev pub cover : Fix → Fix → Fix → Fix → Bounds
cover x1 y1 x2 y2 = rect_of (floor x1) (floor y1) (ceiling x2) (ceiling y2)
