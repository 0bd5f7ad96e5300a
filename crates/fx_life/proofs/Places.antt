-- Places in lists, and what lists contain.
use Rattle.std.proofs.Common.{◌≡◌, ◌≢◌, ◌<◌, ◌++◌, ◌-◌, ℕ, zero, suc, Some, List, [], ◌∷◌, slice_index_or, map, reverse, set, length, refl, sym, ap, subst, ◌∙◌, arith, AllPairs, ◌⊎◌, inl, inr}
use Rattle.std.specs.Prelude.{slice_get}
use Rattle.std.specs.List.{Contains}
use Rattle.std.proofs.lemmas.Option.{none-some, same_Some, slice_get_read}
use Rattle.std.proofs.lemmas.List.{length-append, length-map, length-reverse, reverse-reverse, get_or-map, get_or-reverse, get_or_push}

pub get_kept : {A : Type 0} (xs ys : List A) (i : ℕ) (x : A) → slice_get xs i ≡ Some x → slice_get (xs ++ ys) i ≡ Some x
get_kept [] ys i x is = absurd (none-some x is)
get_kept (a ∷ xs) ys zero x is = is
get_kept (a ∷ xs) ys (suc i) x is = get_kept xs ys i x is

pub get_last : {A : Type 0} (xs : List A) (x : A) (i : ℕ) → length xs ≡ i → slice_get (xs ++ x ∷ []) i ≡ Some x
get_last xs x i is =
    let long = length-append xs (x ∷ []) in
    slice_get_read (xs ++ x ∷ []) (length (xs ++ x ∷ [])) i x refl (omega (arith, is, long))
    (sym (get_or_push xs x x i is))

-- a place of the longer list is one of the list, or the new one
pub last_or_before : {A : Type 0} (xs : List A) (x y : A) (i : ℕ) → slice_get (xs ++ x ∷ []) i ≡ Some y
    → (slice_get xs i ≡ Some y) ⊎ ((i ≡ length xs) × (x ≡ y))
last_or_before [] x y zero is = inr (refl, same_Some x y is)
last_or_before [] x y (suc i) is = absurd (none-some y is)
last_or_before (a ∷ xs) x y zero is = inl is
last_or_before (a ∷ xs) x y (suc i) is = elim (last_or_before xs x y i is) [
  | inl before ↦ inl before
  | inr (at, same) ↦ inr (omega (arith, at), same)
]

pub get_set : {A : Type 0} (xs : List A) (i : ℕ) (x : A) → i < length xs → slice_get (set xs i x) i ≡ Some x
get_set [] i x low = absurd (omega (arith, low))
get_set (a ∷ xs) zero x low = refl
get_set (a ∷ xs) (suc i) x low = get_set xs i x (omega (arith, low))

pub get_set_other : {A : Type 0} (xs : List A) (i j : ℕ) (x : A) → j ≢ i → slice_get (set xs i x) j ≡ slice_get xs j
get_set_other [] i j x other = refl
get_set_other (a ∷ xs) zero zero x other = absurd (other refl)
get_set_other (a ∷ xs) zero (suc j) x other = refl
get_set_other (a ∷ xs) (suc i) zero x other = refl
get_set_other (a ∷ xs) (suc i) (suc j) x other = get_set_other xs i j x (λ e. other (omega (arith, e)))

pub there_at : {A : Type 0} (xs : List A) (i : ℕ) (x : A) → slice_get xs i ≡ Some x → Contains xs x
there_at [] i x is = absurd (none-some x is)
there_at (a ∷ xs) zero x is = (0, omega arith, same_Some a x is)
there_at (a ∷ xs) (suc i) x is =
    let there = there_at xs i x is in let low = there.1 in (suc there.0, omega (arith, low), there.2)

-- where it is contained
pub at_there : {A : Type 0} (xs : List A) (x : A) → Contains xs x → (i : ℕ) × (slice_get xs i ≡ Some x)
at_there xs x (k, low, is) = (k, slice_get_read xs (length xs) k x refl low (sym is))

pub in_reverse : {A : Type 0} (xs : List A) (x : A) → Contains xs x → Contains (reverse xs) x
in_reverse xs x (k, low, is) =
    let long = length-reverse xs in
    let turned : length xs - 1 - (length xs - 1 - k) ≡ k = omega (arith, low) in (
      length xs - 1 - k,
      omega (arith, low, long),
      get_or-reverse xs (length xs - 1 - k) x (omega (arith, low)) ∙ ap (λ n. slice_index_or xs n x) turned ∙ is,
    )

pub from_reverse : {A : Type 0} (xs : List A) (x : A) → Contains (reverse xs) x → Contains xs x
from_reverse xs x there = subst (λ l. Contains l x) (reverse-reverse xs) (in_reverse (reverse xs) x there)

pub in_map : {A B : Type 0} (f : A → B) (xs : List A) (x : A) → Contains xs x → Contains (map f xs) (f x)
in_map f [] x (k, low, is) = absurd (omega (arith, low))
in_map f (a ∷ xs) x (zero, low, is) = (0, omega arith, ap f is)
in_map f (a ∷ xs) x (suc k, low, is) =
    let there = in_map f xs x (k, omega (arith, low), is) in
    let inside = there.1 in
    (suc there.0, omega (arith, inside), there.2)

pub from_map : {A B : Type 0} (f : A → B) (xs : List A) (y : B) → Contains (map f xs) y
    → (x : A) × Contains xs x × (f x ≡ y)
from_map f [] y (k, low, is) = absurd (omega (arith, low))
from_map f (a ∷ xs) y (zero, low, is) = (a, (0, omega arith, refl), is)
from_map f (a ∷ xs) y (suc k, low, is) =
    let rest = from_map f xs y (k, omega (arith, low), is) in
    let inside = rest.1.1 in
    (rest.0, (suc rest.1.0, omega (arith, inside), rest.1.2), rest.2)

-- one differs from each that is behind it
pub differs : {A : Type 0} (R : A → A → Type 0) (xs : List A) (x : A) (ys : List A) (y : A) → AllPairs R (xs ++ x ∷ ys)
    → Contains ys y → R x y
differs R [] x ys y apart (k, low, is) = subst (R x) is (apart 0 (suc k) y (omega arith) (omega (arith, low)))
differs R (a ∷ xs) x ys y apart there =
    differs R xs x ys y (λ i j d before inside. apart (suc i) (suc j) d (omega (arith, before)) (omega (arith, inside)))
    there

pub all_pairs_map : {A B : Type 0} (R : B → B → Type 0) (f : A → B) (xs : List A) → AllPairs (λ a b. R (f a) (f b)) xs
    → AllPairs R (map f xs)
all_pairs_map R f [] apart i j d before inside = absurd (omega (arith, inside))
all_pairs_map R f (a ∷ xs) apart i j d before inside =
    let long = length-map (a ∷ xs) f in
    let low : j < length (a ∷ xs) = omega (arith, inside, long) in
    let there = get_or-map f (a ∷ xs) i a d (omega (arith, before, low)) in
    subst (λ x. R x (slice_index_or (map f (a ∷ xs)) j d)) (sym there)
    (subst (R (f (slice_index_or (a ∷ xs) i a))) (sym (get_or-map f (a ∷ xs) j a d low)) (apart i j a before low))
