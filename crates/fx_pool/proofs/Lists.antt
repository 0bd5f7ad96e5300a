-- Lists read by `get_elem?`, and sums over them.
use Rattle.std.proofs.Common.{◌≡◌, ℕ, zero, suc, ◌+◌, ◌<◌, ◌≤◌, ◌≢◌, List, [], ◌∷◌, length, set, sum_by, sym, refl, ap, ◌∙◌, arith}
use Rattle.std.proofs.lemmas.List.Sums.{sum_by-cons}
use mathlib.Core.Option.{some, some-injective, some-ne-none}
use lib.ListN.{get_elem?}

module _ {A : Type 0} where
  pub there : (l : List A) (i : ℕ) → i < length l → (a : A) × (get_elem? l i ≡ some a)
  there [] i h = absurd (omega arith)
  there (x ∷ xs) zero h = (x, refl)
  there (x ∷ xs) (suc i) h = there xs i (omega arith)

  pub at_lt : (l : List A) (i : ℕ) (a : A) → get_elem? l i ≡ some a → i < length l
  at_lt [] i a e = absurd (some-ne-none a (sym e))
  at_lt (x ∷ xs) zero a e = omega arith
  at_lt (x ∷ xs) (suc i) a e = let h = at_lt xs i a e in omega arith

  pub at_one : (l : List A) (i : ℕ) (a b : A) → get_elem? l i ≡ some a → get_elem? l i ≡ some b → a ≡ b
  at_one l i a b e f = some-injective a b (sym e ∙ f)

  -- the one element of a list is the one that stands there
  pub at_alone : (a b : A) (i : ℕ) → get_elem? (a ∷ []) i ≡ some b → (i ≡ 0) × (a ≡ b)
  at_alone a b zero e = (refl, some-injective a b e)
  at_alone a b (suc i) e = absurd (some-ne-none b (sym e))

  pub sum_set : (f : A → ℕ) (l : List A) (i : ℕ) (a b : A) → get_elem? l i ≡ some a → sum_by f (set l i b) + f a ≡ sum_by f l + f b
  sum_set f [] i a b e = absurd (some-ne-none a (sym e))
  sum_set f (x ∷ xs) zero a b e = let same : f x ≡ f a = ap f (some-injective x a e) in omega (arith, sum_by-cons f x xs, sum_by-cons f b xs)
  sum_set f (x ∷ xs) (suc i) a b e = let h = sum_set f xs i a b e in omega (arith, sum_by-cons f x xs, sum_by-cons f x (set xs i b))

  pub sum_at : (f : A → ℕ) (l : List A) (i : ℕ) (a : A) → get_elem? l i ≡ some a → f a ≤ sum_by f l
  sum_at f [] i a e = absurd (some-ne-none a (sym e))
  sum_at f (x ∷ xs) zero a e = let same : f x ≡ f a = ap f (some-injective x a e) in omega (arith, sum_by-cons f x xs)
  sum_at f (x ∷ xs) (suc i) a e = let h = sum_at f xs i a e in omega (arith, sum_by-cons f x xs)

  pub sum_two : (f : A → ℕ) (l : List A) (i j : ℕ) (a b : A) → get_elem? l i ≡ some a → get_elem? l j ≡ some b → i ≢ j → f a + f b ≤ sum_by f l
  sum_two f [] i j a b e g ne = absurd (some-ne-none a (sym e))
  sum_two f (x ∷ xs) zero zero a b e g ne = absurd (ne refl)
  sum_two f (x ∷ xs) zero (suc j) a b e g ne = let same : f x ≡ f a = ap f (some-injective x a e) in let h = sum_at f xs j b g in omega (arith, sum_by-cons f x xs)
  sum_two f (x ∷ xs) (suc i) zero a b e g ne = let same : f x ≡ f b = ap f (some-injective x b g) in let h = sum_at f xs i a e in omega (arith, sum_by-cons f x xs)
  sum_two f (x ∷ xs) (suc i) (suc j) a b e g ne = let h = sum_two f xs i j a b e g (λ q. ne (ap suc q)) in omega (arith, sum_by-cons f x xs)

  pub sum_none : (f : A → ℕ) (l : List A) → ((i : ℕ) (a : A) → get_elem? l i ≡ some a → f a ≡ 0) → sum_by f l ≡ 0
  sum_none f [] all = refl
  sum_none f (x ∷ xs) all = let h = sum_none f xs (λ i. all (suc i)) in let z = all zero x refl in omega (arith, sum_by-cons f x xs)

  pub sum_alone : (f : A → ℕ) (a : A) → sum_by f (a ∷ []) ≡ f a
  sum_alone f a = omega (arith, sum_by-cons f a [])

  pub sum_le : (f g : A → ℕ) (l : List A) → ((i : ℕ) (a : A) → get_elem? l i ≡ some a → f a ≤ g a) → sum_by f l ≤ sum_by g l
  sum_le f g [] all = omega arith
  sum_le f g (x ∷ xs) all = let a = all zero x refl in let h = sum_le f g xs (λ i. all (suc i)) in omega (arith, sum_by-cons f x xs, sum_by-cons g x xs)

  -- where one has the whole of p, the others have none
  pub sole : (p : A → ℕ) (l : List A) (i : ℕ) (a : A) → get_elem? l i ≡ some a → sum_by p l ≡ p a → (j : ℕ) (b : A) → get_elem? l j ≡ some b → j ≢ i → p b ≡ 0
  sole p l i a e t j b f ne = let h = sum_two p l j i b a f e ne in omega arith

  pub sum_sole : (f : A → ℕ) (l : List A) (i : ℕ) (a : A) → get_elem? l i ≡ some a → ((j : ℕ) (b : A) → get_elem? l j ≡ some b → j ≢ i → f b ≡ 0) → sum_by f l ≡ f a
  sum_sole f [] i a e none = absurd (some-ne-none a (sym e))
  sum_sole f (x ∷ xs) zero a e none = let same : f x ≡ f a = ap f (some-injective x a e) in let h = sum_none f xs (λ j b q. none (suc j) b q (λ z. omega arith)) in omega (arith, sum_by-cons f x xs)
  sum_sole f (x ∷ xs) (suc i) a e none = let z = none zero x refl (λ q. omega arith) in let h = sum_sole f xs i a e (λ j b q ne. none (suc j) b q (λ z. ne (omega arith))) in omega (arith, sum_by-cons f x xs)
