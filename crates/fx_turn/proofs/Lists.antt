-- Lists read by `get_elem?`, and sums over them.
use Rattle.std.proofs.Common.{◌≡◌, ℕ, zero, suc, ◌+◌, ◌<◌, ◌≤◌, ◌≢◌, All, Option, Some, None, reverse, take, List, [], ◌∷◌, ◌++◌, map, length, get_or, set, sum_by, replicate, sym, refl, ap, ◌∙◌, subst, arith, append_assoc, add-one}
use Rattle.std.proofs.lemmas.List.{reverse-append, map-append}
use Rattle.std.proofs.lemmas.List.Sums.{sum_by-cons}
use mathlib.Core.Option.{some, some-injective, some-ne-none}
use lib.ListN.{get_elem?}

pub zeros_at : (n k : ℕ) → get_or {A = ℕ} (replicate n 0) k 0 ≡ 0
zeros_at zero k = refl
zeros_at (suc n) zero = refl
zeros_at (suc n) (suc k) = zeros_at n k

module _ {A : Type 0} where
  pub there : (l : List A) (i : ℕ) → i < length l → (a : A) × (get_elem? l i ≡ some a)
  there [] i h = absurd (omega arith)
  there (x ∷ xs) zero h = (x, refl)
  there (x ∷ xs) (suc i) h = there xs i (omega arith)

  pub at_lt : (l : List A) (i : ℕ) (a : A) → get_elem? l i ≡ some a → i < length l
  at_lt [] i a e = absurd (some-ne-none a (sym e))
  at_lt (x ∷ xs) zero a e = omega arith
  at_lt (x ∷ xs) (suc i) a e = let h = at_lt xs i a e in omega arith

  pub at_one : (l : List A) (i : ℕ) (a b : A) → get_elem? l i ≡ some a → get_elem? l i ≡ some b → a ≡ b
  at_one l i a b e f = some-injective a b (sym e ∙ f)

  -- the one element of a list is the one that stands there
  pub at_alone : (a b : A) (i : ℕ) → get_elem? (a ∷ []) i ≡ some b → (i ≡ 0) × (a ≡ b)
  at_alone a b zero e = (refl, some-injective a b e)
  at_alone a b (suc i) e = absurd (some-ne-none b (sym e))

  pub at_replicate : (n k : ℕ) (a : A) → k < n → get_elem? (replicate n a) k ≡ some a
  at_replicate zero k a h = absurd (omega arith)
  at_replicate (suc n) zero a h = refl
  at_replicate (suc n) (suc k) a h = at_replicate n k a (omega arith)

  pub sum_set : (f : A → ℕ) (l : List A) (i : ℕ) (a b : A) → get_elem? l i ≡ some a → sum_by f (set l i b) + f a ≡ sum_by f l + f b
  sum_set f [] i a b e = absurd (some-ne-none a (sym e))
  sum_set f (x ∷ xs) zero a b e = let same : f x ≡ f a = ap f (some-injective x a e) in omega (arith, sum_by-cons f x xs, sum_by-cons f b xs)
  sum_set f (x ∷ xs) (suc i) a b e = let h = sum_set f xs i a b e in omega (arith, sum_by-cons f x xs, sum_by-cons f x (set xs i b))

  pub sum_at : (f : A → ℕ) (l : List A) (i : ℕ) (a : A) → get_elem? l i ≡ some a → f a ≤ sum_by f l
  sum_at f [] i a e = absurd (some-ne-none a (sym e))
  sum_at f (x ∷ xs) zero a e = let same : f x ≡ f a = ap f (some-injective x a e) in omega (arith, sum_by-cons f x xs)
  sum_at f (x ∷ xs) (suc i) a e = let h = sum_at f xs i a e in omega (arith, sum_by-cons f x xs)

  pub sum_two : (f : A → ℕ) (l : List A) (i j : ℕ) (a b : A) → get_elem? l i ≡ some a → get_elem? l j ≡ some b → i ≢ j → f a + f b ≤ sum_by f l
  sum_two f [] i j a b e g ne = absurd (some-ne-none a (sym e))
  sum_two f (x ∷ xs) zero zero a b e g ne = absurd (ne refl)
  sum_two f (x ∷ xs) zero (suc j) a b e g ne = let same : f x ≡ f a = ap f (some-injective x a e) in let h = sum_at f xs j b g in omega (arith, sum_by-cons f x xs)
  sum_two f (x ∷ xs) (suc i) zero a b e g ne = let same : f x ≡ f b = ap f (some-injective x b g) in let h = sum_at f xs i a e in omega (arith, sum_by-cons f x xs)
  sum_two f (x ∷ xs) (suc i) (suc j) a b e g ne = let h = sum_two f xs i j a b e g (λ q. ne (ap suc q)) in omega (arith, sum_by-cons f x xs)

  pub sum_none : (f : A → ℕ) (l : List A) → ((i : ℕ) (a : A) → get_elem? l i ≡ some a → f a ≡ 0) → sum_by f l ≡ 0
  sum_none f [] all = refl
  sum_none f (x ∷ xs) all = let h = sum_none f xs (λ i. all (suc i)) in let z = all zero x refl in omega (arith, sum_by-cons f x xs)

  pub sum_alone : (f : A → ℕ) (a : A) → sum_by f (a ∷ []) ≡ f a
  sum_alone f a = omega (arith, sum_by-cons f a [])

  -- where one has the whole of p, the others have none
  pub sole : (p : A → ℕ) (l : List A) (i : ℕ) (a : A) → get_elem? l i ≡ some a → sum_by p l ≡ p a → (j : ℕ) (b : A) → get_elem? l j ≡ some b → j ≢ i → p b ≡ 0
  sole p l i a e t j b f ne = let h = sum_two p l j i b a f e ne in omega arith

  pub sum_sole : (f : A → ℕ) (l : List A) (i : ℕ) (a : A) → get_elem? l i ≡ some a → ((j : ℕ) (b : A) → get_elem? l j ≡ some b → j ≢ i → f b ≡ 0) → sum_by f l ≡ f a
  sum_sole f [] i a e none = absurd (some-ne-none a (sym e))
  sum_sole f (x ∷ xs) zero a e none = let same : f x ≡ f a = ap f (some-injective x a e) in let h = sum_none f xs (λ j b q. none (suc j) b q (λ z. omega arith)) in omega (arith, sum_by-cons f x xs)
  sum_sole f (x ∷ xs) (suc i) a e none = let z = none zero x refl (λ q. omega arith) in let h = sum_sole f xs i a e (λ j b q ne. none (suc j) b q (λ z. ne (omega arith))) in omega (arith, sum_by-cons f x xs)

  pub at_get : (l : List A) (i : ℕ) (a d : A) → get_elem? l i ≡ some a → get_or l i d ≡ a
  at_get [] i a d e = absurd (some-ne-none a (sym e))
  at_get (x ∷ xs) zero a d e = some-injective x a e
  at_get (x ∷ xs) (suc i) a d e = at_get xs i a d e

  pub all_at : (P : A → Type 0) (l : List A) → ((i : ℕ) (a : A) → get_elem? l i ≡ some a → P a) → All P l
  all_at P l each k d h = let t = there l k h in subst P (sym (at_get l k t.0 d t.1)) (each k t.0 t.1)

  pub at_all : (P : A → Type 0) (l : List A) → All P l → (i : ℕ) (a : A) → get_elem? l i ≡ some a → P a
  at_all P l all i a e = subst P (at_get l i a a e) (all i a (at_lt l i a e))

  pub at_append : (l : List A) (a b : A) (i : ℕ) → get_elem? (l ++ a ∷ []) i ≡ some b → i ≢ length l → get_elem? l i ≡ some b
  at_append [] a b zero e ne = absurd (ne refl)
  at_append [] a b (suc i) e ne = absurd (some-ne-none b (sym e))
  at_append (x ∷ xs) a b zero e ne = e
  at_append (x ∷ xs) a b (suc i) e ne = at_append xs a b i e (λ q. ne (omega arith))

  pub at_end : (l : List A) (a b : A) → get_elem? (l ++ a ∷ []) (length l) ≡ some b → a ≡ b
  at_end [] a b e = some-injective a b e
  at_end (x ∷ xs) a b e = at_end xs a b e

module _ {A B : Type 0} (f : A → B) where
  pub mapped : (xs : List B) (l : List A) → length xs ≡ length l → ((i : ℕ) (a : A) → get_elem? l i ≡ some a → get_elem? xs i ≡ some (f a)) → xs ≡ map f l
  mapped [] [] len each = refl
  mapped [] (a ∷ l) len each = absurd (omega arith)
  mapped (x ∷ xs) [] len each = absurd (omega arith)
  mapped (x ∷ xs) (a ∷ l) len each = let e : x ≡ f a = some-injective x (f a) (each zero a refl) in let r : xs ≡ map f l = mapped xs l (omega arith) (λ i. each (suc i)) in λ k. e k ∷ r k

pub none_of : {V : Type 0} (vs : List V) (i : ℕ) → get_elem? (map Some vs) i ≡ some None → ⊥
none_of [] i e = some-ne-none None (sym e)
none_of {V} (v ∷ vs) zero e = let h : ◌≡◌ {A = Option V} (Some v) None = some-injective (Some v) None e in cc
none_of (v ∷ vs) (suc i) e = none_of vs i e

next : {A : Type 0} (xs : List A) (i : ℕ) (x : A) → get_elem? xs i ≡ some x → take (suc i) xs ≡ take i xs ++ x ∷ []
next [] i x e = absurd (some-ne-none x (sym e))
next (y ∷ ys) zero x e = let s : y ≡ x = some-injective y x e in λ k. s k ∷ []
next (y ∷ ys) (suc i) x e = ap (λ l. y ∷ l) (next ys i x e)

take_next : {A : Type 0} (xs : List A) (i : ℕ) (x : A) → get_elem? xs i ≡ some x → take (i + 1) xs ≡ take i xs ++ x ∷ []
take_next xs i x e = rw (add-one i) (next xs i x e)

-- the values so far, and one more
pub one_more : {V : Type 0} (vs : List V) (xs : List (Option V)) (i : ℕ) (v : V) → map Some vs ≡ take i xs → get_elem? xs i ≡ some (Some v) → map Some (vs ++ v ∷ []) ≡ take (i + 1) xs
one_more {V} vs xs i v e at = map-append {A = V} {B = Option V} Some vs (v ∷ []) ∙ (ap (λ l. l ++ Some v ∷ []) e ∙ sym (take_next xs i (Some v) at))

-- values that come out the same way are the same
abbrev value_or : {V : Type 0} → Option V → V → V
value_or None d = d
value_or (Some v) d = v

abbrev head_or : {V : Type 0} → List (Option V) → Option V → Option V
head_or [] d = d
head_or (x ∷ xs) d = x

abbrev tail_of : {V : Type 0} → List (Option V) → List (Option V)
tail_of [] = []
tail_of (x ∷ xs) = xs

pub map_Some-inj : {V : Type 0} (vs ws : List V) → map Some vs ≡ map Some ws → vs ≡ ws
map_Some-inj [] [] e = refl
map_Some-inj [] (w ∷ ws) e = cc
map_Some-inj (v ∷ vs) [] e = cc
map_Some-inj (v ∷ vs) (w ∷ ws) e = let h : v ≡ w = ap (λ o. value_or o v) (ap (λ l. head_or l (Some v)) e) in let t : vs ≡ ws = map_Some-inj vs ws (ap tail_of e) in λ k. h k ∷ t k

-- one more from the end of what remains
pub moved_on : {V : Type 0} (moved more : List V) (v : V) (all : List V) → moved ++ reverse (more ++ v ∷ []) ≡ all → (moved ++ v ∷ []) ++ reverse more ≡ all
moved_on moved more v all e = append_assoc moved (v ∷ []) (reverse more) ∙ (ap (λ l. moved ++ l) (sym (reverse-append more (v ∷ []))) ∙ e)

-- the last of what remains
pub last_in : {V : Type 0} (moved more : List V) (v : V) (all : List V) → moved ++ reverse (more ++ v ∷ []) ≡ all → length more ≡ 0 → moved ++ v ∷ [] ≡ all
last_in moved [] v all e none = e
last_in moved (x ∷ more) v all e none = absurd (omega arith)

-- the one value of a list of slots
abbrev value_in : {V : Type 0} → List (ℕ × Option V) → V → V
value_in [] d = d
value_in (x ∷ xs) d = value_or x.1 d

pub same_in_slot : {V : Type 0} (l r t : List (ℕ × Option V)) (j k : ℕ) (x : Option V) (v w : V) → l ≡ (j, x) ∷ r → l ≡ (k, Some w) ∷ t → x ≡ Some v → w ≡ v
same_in_slot {V} l r t j k x v w e f is = ap (λ (z : List (ℕ × Option V)). value_in z w) (sym f ∙ e) ∙ ap (λ o. value_or o w) is
