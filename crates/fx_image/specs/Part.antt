-- Parts of an image, to be written row by row.
use Rattle.std.specs.Prelude.{◌≡◌, ℤ, ℕ, ◌≤ℤ◌, ◌<ℤ◌, List, [], length, if◌then◌else◌}
use Rattle.std.specs.Int.{int_gap}
use Rattle.std.specs.Borrow.{Lends, MutBor, Fml, Array, u8}
use Rattle.fx_base.specs.Bounds.{Bounds, IsRect}
use Rattle.fx_base.specs.Rect.{Holds, IsWithin, within}
use Rattle.fx_pixel.specs.declared.Pixel.{Pixel}
use Rattle.fx_pixel.specs.Pixel.{zero}
use Rattle.fx_image.specs.Rows.{HasRows}
use Rattle.fx_image.specs.Stored.{Stored, IsStored, SameFrame, pixel_in, shown}
use Rattle.fx_image.specs.Runs.{row_size}
use Rattle.fx_image.specs.ImageLending.{with_row}
use Rattle.fx_image.specs.declared.part.Part.{Part}
use Rattle.fx_image.specs.contracts.part.Part as part
use mir.Syntax.{named}

-- the part's rectangle lies in its image
pub record IsPart (p : Part) : Type 0 where
  pub rect : IsRect p.rect
  pub within : IsWithin p.rect p.image.now.rect

-- the pixel at a place of the part, and zero outside it
abbrev pub part_shown : Part → ℤ → ℤ → Pixel
part_shown p x y = if within p.rect x y then shown p.image.now x y else zero p.image.now.components

-- q is the same part of the same image
abbrev pub SamePart : Part → Part → Type 0
SamePart p q = (q.image.ghost_name ≡ p.image.ghost_name) × (q.rect ≡ p.rect) × SameFrame p.image.now q.image.now

-- the bytes from the pixel at column x of row y on are ws
abbrev pub with_run : Part → ℤ → ℤ → List ℕ → Part
with_run p x y ws = record p { image = record p.image { now = with_row p.image.now x y ws } }

-- the bytes of the part's row y are ws
abbrev pub part_with : Part → ℤ → List ℕ → Part
part_with p y ws = with_run p p.rect.x1 y ws

abbrev pub LendsPartRow : MutBor Part → ℤ → ℤ → MutBor (List ℕ) → Fml
LendsPartRow s x y r = Lends (part.the_row (record { mir = named 1; lft = [] })) (Array u8 0) s r (with_run s.now x y)

-- the part, as far as a rectangle goes
abbrev pub narrowed : Part → Bounds → Part
narrowed p rect = record p { rect = rect }

-- The part's rows below y show f's pixels now, and every other pixel is as it was when the part was p.
pub record WroteRows (p : Part) (now : Stored) (y : ℤ) (f : ℤ → ℤ → Pixel) : Type 0 where
  pub inside : (x' y' : ℤ) → Holds p.rect x' y' → y' <ℤ y → shown now x' y' ≡ f x' y'
  pub outside :
      (x' y' : ℤ) → (Holds p.rect x' y' → y' <ℤ y → ⊥) → shown now x' y' ≡ shown p.image.now x' y'

-- the part q is what the part p has become: it shows f's pixels, and no other pixel of the image changed
abbrev pub IsWritten : Part → Part → (ℤ → ℤ → Pixel) → Type 0
IsWritten p q f = SamePart p q × WroteRows p q.image.now p.rect.y2 f

-- Of the part q, which p has become, the bytes ws come to row y, where f's pixels are; the rows below show f already.
pub record IsNextRow (p q : Part) (y : ℤ) (f : ℤ → ℤ → Pixel) (ws : List ℕ) : Type 0 where
  pub same : SamePart p q
  pub part : IsPart p
  pub stored : IsStored q.image.now
  pub rows : HasRows q.image.now.raster
  pub above : p.rect.y1 ≤ℤ y
  pub below : y <ℤ p.rect.y2
  pub long : length ws ≡ row_size q.image.now p.rect
  pub right :
      let s = q.image.now in
      (x : ℤ) → Holds p.rect x y → pixel_in s.depth s.components ws (int_gap p.rect.x1 x) ≡ f x y
  pub before : WroteRows p q.image.now y f
