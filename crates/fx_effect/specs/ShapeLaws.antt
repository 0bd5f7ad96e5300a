-- Laws that tell that the names in an effect's shape differ, by a test that computes.
use Rattle.std.specs.Prelude.{◌≡◌, ◌≢◌, ℕ, Bool, true, false, ◌&&◌, not, List, [], ◌∷◌, map, All, AllPairs, IsTrue, refl}
use Rattle.std.specs.Str.{bytes_eq}
use Rattle.std.proofs.Common.{arith}
use Rattle.std.proofs.lemmas.Bool.{false≢true}
use Rattle.std.proofs.lemmas.List.Elements.{All-nil, All-cons}
use Rattle.std.proofs.lemmas.List.Kept.{AllPairs-cons}
use Rattle.std.proofs.lemmas.Slice.Eq.{bytes_eq-Decides}

-- whether the name is none of these
abbrev pub is_new : List ℕ → List (List ℕ) → Bool
is_new name [] = true
is_new name (other ∷ others) = not (bytes_eq name other) && is_new name others

-- whether no name is there twice
abbrev pub are_apart : List (List ℕ) → Bool
are_apart [] = true
are_apart (name ∷ names) = is_new name names && are_apart names

left_of : (a b : Bool) → IsTrue (a && b) → IsTrue a
left_of true b h = refl
left_of false b h = absurd (false≢true h)

right_of : (a b : Bool) → IsTrue (a && b) → IsTrue b
right_of true b h = h
right_of false b h = absurd (false≢true h)

not_both : (b : Bool) → IsTrue (not b) → b ≡ true → ⊥
not_both true h e = false≢true h
not_both false h e = false≢true e

differ : (name other : List ℕ) → IsTrue (not (bytes_eq name other)) → name ≢ other
differ name other h e = not_both (bytes_eq name other) h ((bytes_eq-Decides name other).1 e)

new_differs : {A : Type 0} (name : A → List ℕ) (item : A) (items : List A)
    → IsTrue (is_new (name item) (map name items)) → All (λ other. name item ≢ name other) items
new_differs name item [] h = All-nil (λ other. name item ≢ name other)
new_differs name item (x ∷ items) h =
    All-cons (λ other. name item ≢ name other) x items
    (differ (name item) (name x)
    (left_of (not (bytes_eq (name item) (name x))) (is_new (name item) (map name items)) h))
    (new_differs name item items
    (right_of (not (bytes_eq (name item) (name x))) (is_new (name item) (map name items)) h))

-- the names of items differ
pub names_differ : {A : Type 0} (name : A → List ℕ) (items : List A) → IsTrue (are_apart (map name items))
    → AllPairs (λ a b. name a ≢ name b) items
names_differ name [] h = λ i j d low high. absurd (omega arith)
names_differ name (x ∷ items) h =
    AllPairs-cons (λ a b. name a ≢ name b) x items
    (new_differs name x items (left_of (is_new (name x) (map name items)) (are_apart (map name items)) h))
    (names_differ name items (right_of (is_new (name x) (map name items)) (are_apart (map name items)) h))
