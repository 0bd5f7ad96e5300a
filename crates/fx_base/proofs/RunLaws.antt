-- Laws of runs of whole numbers, and of lists that are made from them.
use Rattle.std.specs.Prelude.{◌≡◌, ℕ, zero, suc, ℤ, pos, negsuc, ◌<ℤ◌, ◌≤ℤ◌, ◌+ℤ◌, List, [], ◌∷◌, ◌++◌, map, All, AllPairs, refl}
use Rattle.std.specs.Int.{int_gap}
use Rattle.std.specs.List.{Contains, flat_map}
use Rattle.std.proofs.Common.{inl, inr, ◌⊎◌, sym, subst, ap, arith}
use Rattle.std.proofs.lemmas.Int.{ints, by_lt_z}
use Rattle.std.proofs.lemmas.List.Elements.{All-nil, All-cons, All-append, Contains-append_left, Contains-append_right}
use Rattle.fx_base.specs.Run.{int_run, int_range}
use Rattle.fx_base.proofs.RectLaws.{gap_is}

pub order : (a b : ℤ) → (a ≤ℤ b) ⊎ ((b +ℤ pos 1) ≤ℤ a)
order a b = by_lt_z b a (λ above. inr (omega (arith, ints))) (λ le. inl le)

-- ---- pairs, and what a list contains

-- P holds of each pair of an earlier and a later element
pub AllPairs-nil : {X : Type 0} (R : X → X → Type 0) → AllPairs R []
AllPairs-nil R i j d lt low = absurd (omega arith)

pub AllPairs-cons : {X : Type 0} (R : X → X → Type 0) (x : X) (xs : List X) → All (R x) xs → AllPairs R xs → AllPairs R (x ∷ xs)
AllPairs-cons R x xs first rest i zero d lt low = absurd (omega arith)
AllPairs-cons R x xs first rest zero (suc j) d lt low = first j d (omega arith)
AllPairs-cons R x xs first rest (suc i) (suc j) d lt low = rest i j d (omega arith) (omega arith)

pub AllPairs-append : {X : Type 0} (R : X → X → Type 0) (xs ys : List X) → AllPairs R xs → AllPairs R ys → All (λ x. All (R x) ys) xs → AllPairs R (xs ++ ys)
AllPairs-append R [] ys first second across = second
AllPairs-append R (x ∷ xs) ys first second across =
    AllPairs-cons R x (xs ++ ys)
    (All-append (R x) xs ys (λ k d low. first 0 (suc k) d (omega arith) (omega arith)) (across 0 x (omega arith)))
    (AllPairs-append R xs ys (λ i j d lt low. first (suc i) (suc j) d (omega arith) (omega arith)) second (λ k d low. across (suc k) d (omega arith)))

Contains-rest : {X : Type 0} (x y : X) (xs : List X) → Contains xs y → Contains (x ∷ xs) y
Contains-rest x y xs (k, low, is) = (suc k, omega arith, is)

pub Contains-run : (a : ℤ) (n : ℕ) (b : ℤ) → a ≤ℤ b → b <ℤ (a +ℤ pos n) → Contains (int_run a n) b
Contains-run a zero b low high = absurd (omega (arith, ints))
Contains-run a (suc n) b low high = elim (order (a +ℤ pos 1) b) [
  | inl above ↦ Contains-rest a b (int_run (a +ℤ pos 1) n) (Contains-run (a +ℤ pos 1) n b above (omega (arith, ints)))
  | inr below ↦ (0, omega arith, omega (arith, ints))
]

pub Contains-range : (first end b : ℤ) → first ≤ℤ b → b <ℤ end → Contains (int_range first end) b
Contains-range first end b low high =
    let whole = gap_is first end (omega (arith, ints)) in
    Contains-run first (int_gap first end) b low (omega (arith, ints))

-- one step of a loop over whole numbers
pub int_range-step : (a b : ℤ) → a <ℤ b → int_range a b ≡ a ∷ int_range (a +ℤ pos 1) b
int_range-step a b lt =
    let here = gap_is a b (omega (arith, ints)) in
    let next = gap_is (a +ℤ pos 1) b (omega (arith, ints)) in
    let long : int_gap a b ≡ suc (int_gap (a +ℤ pos 1) b) = omega (arith, ints) in
    ap (int_run a) long

gap_none : (a b : ℤ) → b ≤ℤ a → int_gap a b ≡ 0
gap_none (pos a) (pos b) le = omega (arith, ints)
gap_none (pos a) (negsuc b) le = refl
gap_none (negsuc a) (pos b) le = absurd (omega (arith, ints))
gap_none (negsuc a) (negsuc b) le = omega (arith, ints)

pub int_range-end : (a b : ℤ) → b ≤ℤ a → int_range a b ≡ []
int_range-end a b le = ap (int_run a) (gap_none a b le)

pub Contains-map : {X Y : Type 0} (f : X → Y) (xs : List X) (x : X) → Contains xs x → Contains (map f xs) (f x)
Contains-map f [] x (k, low, is) = absurd (omega arith)
Contains-map f (y ∷ xs) x (zero, low, is) = (0, omega arith, ap f is)
Contains-map f (y ∷ xs) x (suc k, low, is) = Contains-rest (f y) (f x) (map f xs) (Contains-map f xs x (k, omega arith, is))

pub Contains-flat_map : {X Y : Type 0} (f : X → List Y) (xs : List X) (x : X) (y : Y) → Contains xs x → Contains (f x) y → Contains (flat_map f xs) y
Contains-flat_map f [] x y (k, low, is) there = absurd (omega arith)
Contains-flat_map f (z ∷ xs) x y (zero, low, is) there = Contains-append_left (f z) (flat_map f xs) y (subst (λ w. Contains (f w) y) (sym is) there)
Contains-flat_map f (z ∷ xs) x y (suc k, low, is) there =
    Contains-append_right (f z) (flat_map f xs) y (Contains-flat_map f xs x y (k, omega arith, is) there)

-- ---- what holds of each

pub All-flat_map : {X Y : Type 0} (P : Y → Type 0) (f : X → List Y) (xs : List X) → All (λ x. All P (f x)) xs → All P (flat_map f xs)
All-flat_map P f [] each = All-nil P
All-flat_map P f (x ∷ xs) each = All-append P (f x) (flat_map f xs) (each 0 x (omega arith)) (All-flat_map P f xs (λ k d low. each (suc k) d (omega arith)))

pub All-run : (P : ℤ → Type 0) (a : ℤ) (n : ℕ) → ((b : ℤ) → a ≤ℤ b → b <ℤ (a +ℤ pos n) → P b) → All P (int_run a n)
All-run P a zero each = All-nil P
All-run P a (suc n) each =
    All-cons P a (int_run (a +ℤ pos 1) n) (each a (omega (arith, ints)) (omega (arith, ints)))
    (All-run P (a +ℤ pos 1) n (λ b low high. each b (omega (arith, ints)) (omega (arith, ints))))

pub All-range : (P : ℤ → Type 0) (first end : ℤ) → ((b : ℤ) → first ≤ℤ b → b <ℤ end → P b) → All P (int_range first end)
All-range P first end each = elim (order end first) [
  | inl none ↦ rw (int_range-end first end none) (All-nil P)
  | inr some ↦
      let whole = gap_is first end (omega (arith, ints)) in
      All-run P first (int_gap first end) (λ b low high. each b low (omega (arith, ints)))
]
