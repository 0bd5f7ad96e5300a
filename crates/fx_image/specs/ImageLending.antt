-- What an image is when a lent run of one of its rows comes back.
use Rattle.std.specs.Prelude.{◌≡◌, ℕ, ℤ, List, ◌⊎◌, ◌≢◌}
use Rattle.std.specs.Int.{int_gap}
use Rattle.std.specs.Borrow.{Lends, MutBor, Fml, Array, u8}
use Rattle.fx_pixel.specs.declared.Pixel.{Pixel}
use Rattle.fx_image.specs.Rows.{with_run}
use Rattle.fx_image.specs.Stored.{Stored, SameFrame, shown}
use Rattle.fx_image.specs.Runs.{place_of}
use Rattle.fx_image.specs.contracts.image.Image.{the_row}

-- the bytes from the pixel at column x of row y on are ws
abbrev pub with_row : Stored → ℤ → ℤ → List ℕ → Stored
with_row s x y ws = record s { raster = with_run s.raster (int_gap s.rect.y1 y) (place_of s x) ws }

abbrev pub LendsRow : MutBor Stored → ℤ → ℤ → MutBor (List ℕ) → Fml
LendsRow s x y r = Lends the_row (Array u8 0) s r (with_row s.now x y)

-- the pixel at a place is p now, and every other is as before
pub record Puts (x y : ℤ) (p : Pixel) (old new : Stored) : Type 0 where
  pub frame : SameFrame old new
  pub there : shown new x y ≡ p
  pub others : (x' y' : ℤ) → (x' ≢ x) ⊎ (y' ≢ y) → shown new x' y' ≡ shown old x' y'
