-- What stands at a place of a table is its step over what stands at the others.
use Rattle.std.proofs.Common.{◌≡◌, ◌≢◌, ℕ, zero, suc, ◌<◌, ◌≤◌, true, false, nat_eq, refl, arith}
use Rattle.std.proofs.lemmas.Bool.Decides.{nat_tests}
use Rattle.std.proofs.lemmas.Bool.{cases_eq}
use mathlib.Core.Logic.{inl, inr}
use Rattle.fx_scene.specs.Table.{below, at_place}

same_nat : (k : ℕ) → nat_eq k k ≡ true
same_nat k = grind (arith, nat_tests)

other_nat : (m k : ℕ) → m ≢ k → nat_eq m k ≡ false
other_nat m k h = grind (arith, nat_tests)

-- what stands below a place is what stands at its own place
pub below_is : {A : Type 0} (none : A) (step : (ℕ → A) → ℕ → A) (k m : ℕ) → m < k → below none step k m ≡ at_place none step m
unfolding below
below_is none step zero m h = absurd (omega arith)
below_is none step (suc k) m h =
    elim (cases_eq m k) [
      | inl e ↦ rw (e, same_nat k) refl
      | inr e ↦ rw (other_nat m k e) (below_is none step k m (omega arith))
    ]

-- from it on there is none
pub below_past : {A : Type 0} (none : A) (step : (ℕ → A) → ℕ → A) (k m : ℕ) → k ≤ m → below none step k m ≡ none
unfolding below
below_past none step zero m h = refl
below_past none step (suc k) m h =
    let other : m ≢ k = λ e. absurd (omega (arith, h, e)) in
    rw (other_nat m k other) (below_past none step k m (omega (arith, h)))
