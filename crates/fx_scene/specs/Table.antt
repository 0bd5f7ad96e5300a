-- Tables by the place in a list, where what stands at a place is said by what stands before it.
use Rattle.std.specs.Prelude.{ℕ, zero, suc, nat_eq, if◌then◌else◌}

-- what stands at each place below one, by what stands before it; from there on none
unfoldable pub below : {A : Type 0} → A → ((ℕ → A) → ℕ → A) → ℕ → ℕ → A
below none step zero m = none
below none step (suc k) m = if nat_eq m k then step (below none step k) k else below none step k m

-- what stands at a place
abbrev pub at_place : {A : Type 0} → A → ((ℕ → A) → ℕ → A) → ℕ → A
at_place none step n = step (below none step n) n
