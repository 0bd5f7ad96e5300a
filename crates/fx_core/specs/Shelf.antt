-- The kept values under their keys, the most recently used first, and how many there may be.
use Rattle.std.specs.Prelude.{ℕ, List}

pub record Shelf (K V : Type 0) : Type 0 where
  pub entries : List (K × V)
  pub capacity : ℕ
