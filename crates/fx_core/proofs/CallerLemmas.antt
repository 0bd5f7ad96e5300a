-- For callers: the elements of a list, and flights whose numbers differ.
use Rattle.std.proofs.Common.{◌≡◌, ℕ, zero, suc, ◌+◌, ◌<◌, ◌≤◌, ◌==◌, true, false, List, [], ◌∷◌, length, get_or, Some, Contains, ◌⊎◌, inl, inr, refl, ap, arith, eq-eqb}
use Rattle.std.specs.Prelude.{nat_eq, count_by}
use Rattle.std.specs.Cmp.{nat_eq_equiv}
use Rattle.std.specs.List.{IsDistinct}
use Rattle.std.specs.Map.{lookup, keys_of}
use Rattle.fx_core.proofs.Counting.{count, count-map, count-agree, count_by-is, once_from_distinct}

module _ {A : Type 0} where
  pub cases : (y : A) (xs : List A) (x : A) → Contains (y ∷ xs) x → (y ≡ x) ⊎ Contains xs x
  cases y xs x c = at c.0 c.1 c.2 where
    at : (k : ℕ) → k < length (y ∷ xs) → get_or (y ∷ xs) k x ≡ x → (y ≡ x) ⊎ Contains xs x
    at zero h e = inl e
    at (suc k) h e = inr (k, omega arith, e)

  pub none_in : (x : A) → Contains [] x → ⊥
  none_in x c = let h : c.0 < 0 = c.1 in omega arith

  pub first : (x : A) (xs : List A) → Contains (x ∷ xs) x
  first x xs = (0, omega arith, refl)

  pub later : (y : A) (xs : List A) (x : A) → Contains xs x → Contains (y ∷ xs) x
  later y xs x c = let within = c.1 in (suc c.0, omega arith, c.2)

module _ {K : Type 0} where
  -- numbers differ by count
  pub numbers_once : (fs : List (ℕ × K)) → IsDistinct nat_eq (keys_of fs) → (n : ℕ) → count_by (λ f. f.0 == n) fs ≤ 1
  numbers_once fs differ n =
      let once = once_from_distinct nat_eq nat_eq_equiv (keys_of fs) differ n in
      let a = count_by-is (λ (f : ℕ × K). f.0 == n) fs in
      let b = count-agree (λ (f : ℕ × K). nat_eq n f.0) (λ (f : ℕ × K). f.0 == n) (λ f. nat_eq_equiv.symm n f.0) fs in
      let c = count-map (nat_eq n) (λ (f : ℕ × K). f.0) fs in
      omega arith

  -- the key that flies under the number of a flight that stands
  pub key_under : (fs : List (ℕ × K)) (f : ℕ × K) → count_by (λ g. g.0 == f.0) fs ≤ 1 → Contains fs f → lookup (λ m. m == f.0) fs ≡ Some f.1
  key_under fs f once there = under fs (let same = count_by-is (λ (g : ℕ × K). g.0 == f.0) fs in omega arith) there where
    above : (fs : List (ℕ × K)) → Contains fs f → 1 ≤ count (λ g. g.0 == f.0) fs
    above [] c = absurd (none_in f c)
    above (g ∷ fs) c = elim (cases g fs f c) [
      | inl e ↦ rw (eq-eqb g.0 f.0 (ap (λ (z : ℕ × K). z.0) e)) (omega arith)
      | inr d ↦ let h = above fs d in omega arith
    ]

    under : (fs : List (ℕ × K)) → count (λ g. g.0 == f.0) fs ≤ 1 → Contains fs f → lookup (λ m. m == f.0) fs ≡ Some f.1
    under [] once c = absurd (none_in f c)
    under (g ∷ fs) once c = elim (cases g fs f c) [
      | inl e ↦ rw (eq-eqb g.0 f.0 (ap (λ (z : ℕ × K). z.0) e)) (ap (λ (z : ℕ × K). Some z.1) e)
      | inr d ↦ let h = above fs d in (elim (g.0 == f.0) as (λ b. (g.0 == f.0) ≡ b → lookup (λ m. m == f.0) (g ∷ fs) ≡ Some f.1) [
        | true ↦ λ is. let two : 1 + count (λ g. g.0 == f.0) fs ≤ 1 = rw is at once in absurd (omega arith)
        | false ↦ λ is. let rest : 0 + count (λ g. g.0 == f.0) fs ≤ 1 = rw is at once in rw is (under fs (omega arith) d)
      ]) refl
    ]
