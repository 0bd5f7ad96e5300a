-- Regions in pieces.
use Rattle.std.specs.Prelude.{◌≡◌, ◌≢◌, ◌≤◌, ◌+◌, ◌*◌, ◌/◌, ℕ, ◌||◌, ℤ, pos, neg_ℤ, ◌≤ℤ◌, ◌<ℤ◌, List, [], ◌∷◌, Bool, true, false, All}
use Rattle.fx_base.specs.Bounds.{Bounds, IsRect, none}
use Rattle.fx_base.specs.Rect.{Holds, within, IsNear, columns, rows}

-- whether a rectangle of the list has the place
abbrev pub has_place : List Bounds → ℤ → ℤ → Bool
has_place [] x y = false
has_place (r ∷ rs) x y = within r x y || has_place rs x y

-- each place of the rectangle lies in one of the list
abbrev pub Cover : List Bounds → Bounds → Type 0
Cover rects r = (x y : ℤ) → Holds r x y → has_place rects x y ≡ true

-- a piece: some pixels, at most 4,096 by 4,096
pub record IsCut (region : Bounds) : Type 0 where
  pub some : region ≢ none
  pub bounds : IsRect region
  pub near : IsNear region
  pub wide : columns region ≤ 4096
  pub high : rows region ≤ 4096

-- how many pieces reach along so many pixels, and how many a region is cut into
abbrev pub along : ℕ → ℕ
along n = (n + 4095) / 4096

abbrev pub pieces : Bounds → ℕ
pieces r = along (rows r) * along (columns r)

-- ---- on the way there

-- two places between -2^30 and 2^30, the second not before the first
pub record IsNearSpan (from to : ℤ) : Type 0 where
  pub low : neg_ℤ (pos 1073741824) ≤ℤ from
  pub rises : from ≤ℤ to
  pub high : to ≤ℤ pos 1073741824

-- what the first pieces of a row add, up to column `to`
pub record AddsUpTo (x1 x2 to bottom top : ℤ) (old new : List Bounds) : Type 0 where
  pub small : All IsCut old → All IsCut new
  pub keeps : (x y : ℤ) → has_place old x y ≡ true → has_place new x y ≡ true
  pub covers :
      (x y : ℤ) → x1 ≤ℤ x → x <ℤ x2 → x <ℤ to → bottom ≤ℤ y → y <ℤ top → has_place new x y ≡ true

-- what a row adds
abbrev pub AddsRow : ℤ → ℤ → ℤ → ℤ → List Bounds → List Bounds → Type 0
AddsRow x1 x2 bottom top old new = AddsUpTo x1 x2 x2 bottom top old new
