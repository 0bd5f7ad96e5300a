-- A claim is a number with a mark, which is plain data. The claims of a value are those of the seats of its row: each
-- is with one seat.
use Rattle.std.specs.Prelude.{◌≡◌, ℕ, ◌≤◌, ◌==◌, ◌⊎◌, List, ◌++◌, count_by, filter, Option, Some, option_map, is_none}
use Rattle.std.specs.List.{filter_map}
use Rattle.std.specs.Map.{lookup}

module _ {M : Type 0} where
  -- how many of the claims have the number
  abbrev pub times : ℕ → List (ℕ × M) → ℕ
  times n claims = count_by (λ c. c.0 == n) claims

  -- the mark that the number has among the claims
  abbrev pub mark_of : ℕ → List (ℕ × M) → Option M
  mark_of n claims = lookup (λ k. k == n) claims

  abbrev pub NumbersDiffer : List (ℕ × M) → Type 0
  NumbersDiffer claims = (n : ℕ) → times n claims ≤ 1

  -- each claim of the first is one of the second
  abbrev pub AreAmong : List (ℕ × M) → List (ℕ × M) → Type 0
  AreAmong these those = (n : ℕ) (m : M) → mark_of n these ≡ Some m → mark_of n those ≡ Some m

  -- each claim that left, while the value was held, was the seat's
  abbrev pub OnlyOwnLeft : List (ℕ × M) → List (ℕ × M) → List (ℕ × M) → Type 0
  OnlyOwnLeft mine before now =
      (n : ℕ) (m : M) → mark_of n before ≡ Some m → (mark_of n now ≡ Some m) ⊎ (mark_of n mine ≡ Some m)

  -- those of the seat's claims whose number the value still has, with the mark that it has there
  abbrev pub still : List (ℕ × M) → List (ℕ × M) → List (ℕ × M)
  still now mine = filter_map (λ c. option_map (λ m. (c.0, m)) (mark_of c.0 now)) mine

  -- the claims that the value gained
  abbrev pub gained : List (ℕ × M) → List (ℕ × M) → List (ℕ × M)
  gained before now = filter (λ c. is_none (mark_of c.0 before)) now

  -- the seat's claims without those that left, and then those that came
  abbrev pub claims_after : List (ℕ × M) → List (ℕ × M) → List (ℕ × M) → List (ℕ × M)
  claims_after before now mine = still now mine ++ gained before now

  -- the same claims, in whatever order
  pub record SameClaims (these those : List (ℕ × M)) : Type 0 where
    pub marks : (n : ℕ) → mark_of n these ≡ mark_of n those
    pub counts : (n : ℕ) → times n these ≡ times n those
