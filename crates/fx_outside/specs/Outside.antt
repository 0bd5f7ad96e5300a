-- What the outside tells: files by their names, bytes written, and counts of faults.
use Rattle.std.specs.Prelude.{◌≡◌, ◌≢◌, ℕ, ◌+◌, ◌^◌, ◌<◌, ◌≤◌, ◌⊎◌, List, ◌++◌, take, Option, Some}

-- the bytes that each name has
abbrev pub Files : Type 0
Files = List ℕ → Option (List ℕ)

-- The count rose. One that stands at its end counts as risen.
abbrev pub HasRisen : ℕ → ℕ → Type 0
HasRisen before now = (before < now) ⊎ (2 ^ 64 ≤ now + 1)

-- each name has what it had
abbrev pub SameFiles : Files → Files → Type 0
SameFiles old new = (name : List ℕ) → new name ≡ old name

-- each name but this one has what it had
abbrev pub SameBut : List ℕ → Files → Files → Type 0
SameBut name old new = (other : List ℕ) → other ≢ name → new other ≡ old other

-- this name has these bytes now, and each other name what it had
pub record Sets (name bytes : List ℕ) (old new : Files) : Type 0 where
  pub bytes_there : new name ≡ Some bytes
  pub others : SameBut name old new

-- a front of these bytes was added
abbrev pub AddsPrefix : List ℕ → List ℕ → List ℕ → Type 0
AddsPrefix bytes old new = (n : ℕ) × (new ≡ old ++ take n bytes)
