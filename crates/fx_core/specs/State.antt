-- What contracts see of a core: lists and numbers.
use Rattle.std.specs.Prelude.{◌≡◌, ℕ, List, []}
use Rattle.fx_core.specs.declared.totals.Totals.{Totals}

-- kept: the keys with their values, the most recently used first.
-- flying: the number and the key of each flight, in the order in which they began.
-- next: the number of the next flight
pub record State (K V : Type 0) : Type 0 where
  pub scene : ℕ
  pub kept : List (K × V)
  pub flying : List (ℕ × K)
  pub capacity : ℕ
  pub next : ℕ
  pub totals : Totals

abbrev pub no_totals : Totals
no_totals = record { asks = 0; hits = 0; busies = 0; flights = 0; landed = 0; dropped = 0; evicted = 0 }

-- a core as it is made
abbrev pub start : {K V : Type 0} → ℕ → ℕ → State K V
start scene capacity =
    record { scene = scene; kept = []; flying = []; capacity = capacity; next = 0; totals = no_totals }

-- the scene and the capacity stay as the core was made
abbrev pub SameMake : {K V : Type 0} → State K V → State K V → Type 0
SameMake old new = (new.scene ≡ old.scene) × (new.capacity ≡ old.capacity)
