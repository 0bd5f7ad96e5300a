-- A tally is six numbers. That of a row is kept in parts: each seat has the part that came by its own turns.
use Rattle.std.specs.Prelude.{ℕ, ◌+◌, ◌-◌, ◌<◌, ◌≤◌, List, [], ◌∷◌, slice_index, sum_by}

abbrev pub six : (ℕ → ℕ) → List ℕ
six f = f 0 ∷ f 1 ∷ f 2 ∷ f 3 ∷ f 4 ∷ f 5 ∷ []

abbrev pub zeros : List ℕ
zeros = six (λ _. 0)

-- number by number
abbrev pub plus : List ℕ → List ℕ → List ℕ
plus s t = six (λ i. slice_index s i + slice_index t i)

-- no number of the first is above that of the second
abbrev pub IsAtMost : List ℕ → List ℕ → Type 0
IsAtMost s t = (i : ℕ) → i < 6 → slice_index s i ≤ slice_index t i

-- what the seat had, and what the value gained while it was held
abbrev pub tally_after : List ℕ → List ℕ → List ℕ → List ℕ
tally_after before now mine = six (λ i. slice_index mine i + (slice_index now i - slice_index before i))

-- the tallies of all values, added up
abbrev pub tally_of_all : {V : Type 0} → (V → List ℕ) → List V → List ℕ
tally_of_all tally values = six (λ i. sum_by (λ v. slice_index (tally v) i) values)
