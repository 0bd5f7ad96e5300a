-- The elements of a list, and what a look-up finds among them.
use Rattle.std.proofs.Common.{◌≡◌, ℕ, zero, suc, ◌≤◌, Bool, true, false, cond, List, [], ◌∷◌, take, Some, Contains, ◌⊎◌, inl, inr, sym, refl, ap, subst, arith}
use Rattle.std.specs.Map.{lookup, remove_entry}
use Rattle.fx_core.proofs.CallerLemmas.{cases, none_in, first, later}
use Rattle.fx_core.proofs.Counting.{count}

module _ {A : Type 0} where
  pub one_from_member : (t : A → Bool) (xs : List A) (x : A) → Contains xs x → t x ≡ true → 1 ≤ count t xs
  one_from_member t [] x c is = absurd (none_in x c)
  one_from_member t (y ∷ xs) x c is = elim (cases y xs x c) [
    | inl e ↦ rw (subst (λ z. t z ≡ true) (sym e) is) (omega arith)
    | inr d ↦ let h = one_from_member t xs x d is in omega arith
  ]

module _ {K X : Type 0} where
  -- tests that agree find the same
  pub lookup-agree : (t u : K → Bool) → ((k : K) → t k ≡ u k) → (es : List (K × X)) → lookup t es ≡ lookup u es
  lookup-agree t u e [] = refl
  lookup-agree t u e (x ∷ xs) = rw (e x.0) (ap (cond (u x.0) (Some x.1)) (lookup-agree t u e xs))

  -- what is found in a front is found in the whole
  pub lookup-take : (t : K → Bool) (n : ℕ) (es : List (K × X)) (v : X) → lookup t (take n es) ≡ Some v → lookup t es ≡ Some v
  lookup-take t zero es v h = cc
  lookup-take t (suc n) [] v h = cc
  lookup-take t (suc n) (x ∷ xs) v h = (elim (t x.0) as (λ b. t x.0 ≡ b → lookup t (x ∷ xs) ≡ Some v) [
    | true ↦ λ is. let h' = rw is at h in rw is h'
    | false ↦ λ is. rw is (lookup-take t n xs v (rw is at h))
  ]) refl

  -- an entry stays, or it is one that passes
  pub stays : (t : K → Bool) (es : List (K × X)) (e : K × X) → Contains es e → (t e.0 ≡ true) ⊎ Contains (remove_entry t es) e
  stays t [] e c = absurd (none_in e c)
  stays t (x ∷ xs) e c = (elim (t x.0) as (λ b. t x.0 ≡ b → (t e.0 ≡ true) ⊎ Contains (cond b xs (x ∷ remove_entry t xs)) e) [
    | true ↦ λ is. elim (cases x xs e c) [ inl same ↦ inl (subst (λ (z : K × X). t z.0 ≡ true) same is) | inr d ↦ inr d ]
    | false ↦ λ is. elim (cases x xs e c) [
      | inl same ↦ inr (subst (Contains (x ∷ remove_entry t xs)) same (first x (remove_entry t xs)))
      | inr d ↦ elim (stays t xs e d) [ inl p ↦ inl p | inr f ↦ inr (later x (remove_entry t xs) e f) ]
    ]
  ]) refl
