-- How many entries pass a test. That keys differ is that no key passes for two: counts are easy to carry through a step.
use Rattle.std.proofs.Common.{◌≡◌, ℕ, zero, suc, ◌+◌, ◌≤◌, Bool, true, false, cond, List, [], ◌∷◌, ◌++◌, length, map, take, Some, None, sym, refl, ap, arith}
use Rattle.std.proofs.lemmas.List.Recursion.{is_count_by}
use Rattle.std.proofs.lemmas.Map.Keys.{IsDistinct-head, IsDistinct-tail, IsDistinct-cons}
use Rattle.std.specs.Cmp.{IsEquivalence}
use Rattle.std.specs.Map.{lookup, lookup_entry, remove_entry}
use Rattle.std.specs.List.{list_any, count_by, AllByRecursion, IsDistinct}
use Rattle.fx_core.specs.Step.{with_front}

-- how many pass
abbrev pub count : {A : Type 0} → (A → Bool) → List A → ℕ
count t [] = 0
count t (x ∷ xs) = cond (t x) 1 0 + count t xs

module _ {A : Type 0} where
  pub count-append : (t : A → Bool) (xs ys : List A) → count t (xs ++ ys) ≡ count t xs + count t ys
  count-append t [] ys = omega arith
  count-append t (x ∷ xs) ys = let h = count-append t xs ys in omega arith

  pub count-take-le : (t : A → Bool) (n : ℕ) (xs : List A) → count t (take n xs) ≤ count t xs
  count-take-le t zero xs = omega arith
  count-take-le t (suc n) [] = omega arith
  count-take-le t (suc n) (x ∷ xs) = let h = count-take-le t n xs in omega arith

  -- two tests that agree count the same
  pub count-agree : (t u : A → Bool) → ((x : A) → t x ≡ u x) → (xs : List A) → count t xs ≡ count u xs
  count-agree t u e [] = refl
  count-agree t u e (x ∷ xs) = let a : cond {A = ℕ} (t x) 1 0 ≡ cond {A = ℕ} (u x) 1 0 = ap (λ (b : Bool). cond {A = ℕ} b 1 0) (e x) in let h = count-agree t u e xs in omega arith

  pub count-map : {B : Type 0} (t : A → Bool) (f : B → A) (xs : List B) → count t (map f xs) ≡ count (λ x. t (f x)) xs
  count-map t f [] = refl
  count-map t f (x ∷ xs) = ap (λ (n : ℕ). cond {A = ℕ} (t (f x)) 1 0 + n) (count-map t f xs)

  pub none_from_any : (t : A → Bool) (xs : List A) → list_any t xs ≡ false → count t xs ≡ 0
  none_from_any t [] e = refl
  none_from_any t (x ∷ xs) e = (elim (t x) as (λ b. t x ≡ b → count t (x ∷ xs) ≡ 0) [
    | true ↦ λ is. let f = rw is at e in cc
    | false ↦ λ is. let f : list_any t xs ≡ false = rw is at e in let h = none_from_any t xs f in rw is (omega arith)
  ]) refl

  pub any_from_none : (t : A → Bool) (xs : List A) → count t xs ≡ 0 → list_any t xs ≡ false
  any_from_none t [] c = refl
  any_from_none t (x ∷ xs) c = (elim (t x) as (λ b. t x ≡ b → list_any t (x ∷ xs) ≡ false) [
    | true ↦ λ is. let h : 1 + count t xs ≡ 0 = rw is at c in absurd (omega arith)
    | false ↦ λ is. let h : 0 + count t xs ≡ 0 = rw is at c in rw is (any_from_none t xs (omega arith))
  ]) refl

  none_passes : (t : A → Bool) (xs : List A) → count t xs ≡ 0 → AllByRecursion (λ x. t x ≡ false) xs
  none_passes t [] c = tt
  none_passes t (x ∷ xs) c = (elim (t x) as (λ b. t x ≡ b → AllByRecursion (λ x. t x ≡ false) (x ∷ xs)) [
    | true ↦ λ is. let h : 1 + count t xs ≡ 0 = rw is at c in absurd (omega arith)
    | false ↦ λ is. let h : 0 + count t xs ≡ 0 = rw is at c in (is, none_passes t xs (omega arith))
  ]) refl

  none_counted : (t u : A → Bool) (xs : List A) → ((x : A) → t x ≡ u x) → AllByRecursion (λ x. u x ≡ false) xs → count t xs ≡ 0
  none_counted t u [] e h = refl
  none_counted t u (x ∷ xs) e h = let c = none_counted t u xs e h.1 in rw (e x) (rw (h.0) (omega arith))

none_differ : {K : Type 0} (eq : K → K → Bool) → IsDistinct eq []
unfolding IsDistinct
none_differ eq = tt

module _ {K : Type 0} (eq : K → K → Bool) (laws : IsEquivalence eq) where
  pub once_from_distinct : (ks : List K) → IsDistinct eq ks → (k : K) → count (eq k) ks ≤ 1
  once_from_distinct [] d k = omega arith
  once_from_distinct (j ∷ ks) d k = (elim (eq k j) as (λ b. eq k j ≡ b → count (eq k) (j ∷ ks) ≤ 1) [
    | true ↦ λ is. let c = none_counted (eq k) (eq j) ks (λ x. laws.congr k j x is) (IsDistinct-head eq j ks d) in rw is (omega arith)
    | false ↦ λ is. let c = once_from_distinct ks (IsDistinct-tail eq j ks d) k in rw is (omega arith)
  ]) refl

  pub distinct_from_once : (ks : List K) → ((k : K) → count (eq k) ks ≤ 1) → IsDistinct eq ks
  distinct_from_once [] once = none_differ eq
  distinct_from_once (j ∷ ks) once = let c : cond {A = ℕ} (eq j j) 1 0 + count (eq j) ks ≤ 1 = once j in let c' = rw (laws.refl j) at c in
      IsDistinct-cons eq j ks (none_passes (eq j) ks (omega arith)) (distinct_from_once ks (λ k. let h : cond {A = ℕ} (eq k j) 1 0 + count (eq k) ks ≤ 1 = once k in omega arith))

module _ {K X : Type 0} where
  -- the entry that a test finds, and what is left without it
  pub count-remove_entry : (t : K → Bool) (u : K × X → Bool) (es : List (K × X)) (e : K × X) → lookup_entry t es ≡ Some e → cond (u e) 1 0 + count u (remove_entry t es) ≡ count u es
  count-remove_entry t u [] e f = cc
  count-remove_entry t u (x ∷ xs) e f = (elim (t x.0) as (λ b. t x.0 ≡ b → cond (u e) 1 0 + count u (remove_entry t (x ∷ xs)) ≡ count u (x ∷ xs)) [
    | true ↦ λ is. let g = rw is at f in let same : x ≡ e = cc in rw is (ap (λ (z : K × X). cond (u z) 1 0 + count u xs) (sym same))
    | false ↦ λ is. let h = count-remove_entry t u xs e (rw is at f) in rw is (omega arith)
  ]) refl

  pub length-remove_entry : (t : K → Bool) (es : List (K × X)) (e : K × X) → lookup_entry t es ≡ Some e → length es ≡ length (remove_entry t es) + 1
  length-remove_entry t [] e f = cc
  length-remove_entry t (x ∷ xs) e f = (elim (t x.0) as (λ b. t x.0 ≡ b → length (x ∷ xs) ≡ length (remove_entry t (x ∷ xs)) + 1) [
    | true ↦ λ is. rw is (omega arith)
    | false ↦ λ is. let h = length-remove_entry t xs e (rw is at f) in rw is (omega arith)
  ]) refl

  -- the entry of a value that was found
  pub entry_of : (t : K → Bool) (es : List (K × X)) (v : X) → lookup t es ≡ Some v → (k : K) × (lookup_entry t es ≡ Some (k, v)) × (t k ≡ true)
  entry_of t [] v f = cc
  entry_of t (x ∷ xs) v f = (elim (t x.0) as (λ b. t x.0 ≡ b → (k : K) × (lookup_entry t (x ∷ xs) ≡ Some (k, v)) × (t k ≡ true)) [
    | true ↦ λ is. let g = rw is at f in let same : x.1 ≡ v = cc in (x.0, rw is (ap (λ (z : X). Some (x.0, z)) same), is)
    | false ↦ λ is. let h = entry_of t xs v (rw is at f) in (h.0, rw is h.1, h.2)
  ]) refl

  pub count-with_front : (t : K → Bool) (u : K × X → Bool) (es : List (K × X)) (v : X) → lookup t es ≡ Some v → count u (with_front t es) ≡ count u es
  count-with_front t u es v f = let e = entry_of t es v f in rw (e.1) (count-remove_entry t u es (e.0, v) e.1)

  pub length-with_front : (t : K → Bool) (es : List (K × X)) (v : X) → lookup t es ≡ Some v → length (with_front t es) ≡ length es
  length-with_front t es v f = let e = entry_of t es v f in rw (e.1) (let h = length-remove_entry t es (e.0, v) e.1 in omega arith)

  -- a look-up and a count of the keys that pass
  pub none_from_lookup : (t : K → Bool) (es : List (K × X)) → lookup t es ≡ None → count (λ e. t e.0) es ≡ 0
  none_from_lookup t [] e = refl
  none_from_lookup t (x ∷ xs) e = (elim (t x.0) as (λ b. t x.0 ≡ b → count (λ e. t e.0) (x ∷ xs) ≡ 0) [
    | true ↦ λ is. let f = rw is at e in cc
    | false ↦ λ is. let f : lookup t xs ≡ None = rw is at e in let h = none_from_lookup t xs f in rw is (omega arith)
  ]) refl

  pub lookup_from_none : (t : K → Bool) (es : List (K × X)) → count (λ e. t e.0) es ≡ 0 → lookup t es ≡ None
  lookup_from_none t [] c = refl
  lookup_from_none t (x ∷ xs) c = (elim (t x.0) as (λ b. t x.0 ≡ b → lookup t (x ∷ xs) ≡ None) [
    | true ↦ λ is. let h : 1 + count (λ e. t e.0) xs ≡ 0 = rw is at c in absurd (omega arith)
    | false ↦ λ is. let h : 0 + count (λ e. t e.0) xs ≡ 0 = rw is at c in rw is (lookup_from_none t xs (omega arith))
  ]) refl

  pub one_from_lookup : (t : K → Bool) (es : List (K × X)) (v : X) → lookup t es ≡ Some v → 1 ≤ count (λ e. t e.0) es
  one_from_lookup t es v f =
      let e = entry_of t es v f in
      let c = count-remove_entry t (λ e. t e.0) es (e.0, v) e.1 in
      let c' : 1 + count (λ e. t e.0) (remove_entry t es) ≡ count (λ e. t e.0) es = rw (e.2) at c in
      omega arith

-- `count_by` is a fold; the two counts are one
pub count_by-is : {A : Type 0} (t : A → Bool) (xs : List A) → count_by t xs ≡ count t xs
count_by-is {A} t xs = sym (is_count_by (count t) t refl (λ x ys. step x ys (t x) refl) xs) where
  step : (x : A) (ys : List A) (b : Bool) → t x ≡ b → count t (x ∷ ys) ≡ cond (t x) (1 + count t ys) (count t ys)
  step x ys true is = rw is refl
  step x ys false is = rw is (omega arith)
