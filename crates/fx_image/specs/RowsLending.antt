-- What the rows are when a lent run of bytes comes back.
use Rattle.std.specs.Prelude.{ℕ, List}
use Rattle.std.specs.Borrow.{Lends, MutBor, Fml, Array, u8}
use Rattle.fx_image.specs.Rows.{Raster, written, with_run}
use Rattle.fx_image.specs.contracts.rows.Rows.{the_row}
use Rattle.fx_image.specs.contracts.rows.Block as block

abbrev pub LendsBytes : MutBor (List ℕ) → ℕ → MutBor (List ℕ) → Fml
LendsBytes s from r = Lends block.the_row (Array u8 0) s r (written s.now from)

abbrev pub LendsRun : MutBor Raster → ℕ → ℕ → MutBor (List ℕ) → Fml
LendsRun s y from r = Lends the_row (Array u8 0) s r (with_run s.now y from)
