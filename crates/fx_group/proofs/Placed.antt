-- Where things stand in lists: under a name, and at a place.
use Rattle.std.proofs.Common.{◌≡◌, refl, ap, sym, ◌∙◌, ℕ, zero, suc, ◌+◌, ◌<◌, nat_lt, arith, Bool, true, false, not, List, [], ◌∷◌, ◌++◌, length, Option, Some, None, bytes_eq, cond, slice_get}
use Rattle.std.proofs.lemmas.Bool.Decides.{nat_tests}
use Rattle.std.proofs.lemmas.Option.{none-some}
use Rattle.std.specs.List.{position, prefix_len}
use Rattle.std.proofs.lemmas.List.Quantifiers.{position-Some}
use Rattle.std.specs.Option.{option_map, option_or}
use Rattle.fx_graph.specs.Nodes.{place_of}

-- ---- the first that passes

position-cons : {A : Type 0} (p : A → Bool) (x : A) (xs : List A) → position p (x ∷ xs) ≡ cond (p x) (Some 0) (option_map suc (position p xs))
position-cons p x xs = go (p x)
  where
    before : ℕ
    before = prefix_len (λ y. not (p y)) xs

    at : ℕ → ℕ → Option ℕ
    at n long = cond (nat_lt n long) (Some n) None

    more : (n long : ℕ) → cond (nat_lt (1 + n) (suc long)) (Some (1 + n)) None ≡ option_map suc (cond (nat_lt n long) (Some n) None)
    more n long = by (nat_lt n long) refl
      where
        by : (b : Bool) → nat_lt n long ≡ b → cond (nat_lt (1 + n) (suc long)) (Some (1 + n)) None ≡ option_map suc (cond b (Some n) None)
        by true is =
            let low : nat_lt (1 + n) (suc long) ≡ true = grind (arith, nat_tests) in
            let one : 1 + n ≡ suc n = omega arith in
            ap (λ b. cond b (Some (1 + n)) None) low ∙ ap (λ m. Some m) one
        by false is =
            let high : nat_lt (1 + n) (suc long) ≡ false = grind (arith, nat_tests) in
            ap (λ b. cond b (Some (1 + n)) None) high

    go : (b : Bool) → cond (nat_lt (cond (not b) (1 + prefix_len (λ y. not (p y)) xs) 0) (suc (length xs))) (Some (cond (not b) (1 + prefix_len (λ y. not (p y)) xs) 0)) None
        ≡ cond b (Some 0) (option_map suc (position p xs))
    go true =
        let low : nat_lt 0 (suc (length xs)) ≡ true = grind (arith, nat_tests) in
        ap (λ b. cond b (Some 0) None) low
    go false = more (prefix_len (λ y. not (p y)) xs) (length xs)

pub place_first : (name : List ℕ) (names : List (List ℕ)) (text : List ℕ) → place_of (name ∷ names) text ≡ cond (bytes_eq name text) (Some 0) (option_map suc (place_of names text))
place_first name names text = position-cons (λ n. bytes_eq n text) name names

map_or : (a b : Option ℕ) → option_map suc (option_or a b) ≡ option_or (option_map suc a) (option_map suc b)
map_or None b = refl
map_or (Some k) b = refl

-- a name that is put behind others
pub place_last : (names : List (List ℕ)) (name text : List ℕ) → place_of (names ++ name ∷ []) text ≡ option_or (place_of names text) (cond (bytes_eq name text) (Some (length names)) None)
place_last [] name text = place_first name [] text ∙ go (bytes_eq name text)
  where
    go : (b : Bool) → cond b (Some 0) None ≡ option_or {T = ℕ} None (cond b (Some 0) None)
    go true = refl
    go false = refl
place_last (n ∷ names) name text =
    place_first n (names ++ name ∷ []) text
    ∙ ap (λ o. cond (bytes_eq n text) (Some 0) (option_map suc o)) (place_last names name text)
    ∙ go (bytes_eq n text) (bytes_eq name text)
    ∙ ap (λ o. option_or o (cond (bytes_eq name text) (Some (suc (length names))) None)) (sym (place_first n names text))
  where
    go : (b c : Bool) → cond b (Some 0) (option_map suc (option_or (place_of names text) (cond c (Some (length names)) None)))
        ≡ option_or (cond b (Some 0) (option_map suc (place_of names text))) (cond c (Some (suc (length names))) None)
    go true c = refl
    go false true = map_or (place_of names text) (Some (length names))
    go false false = map_or (place_of names text) None

pub place_below : (names : List (List ℕ)) (text : List ℕ) (k : ℕ) → place_of names text ≡ Some k → k < length names
place_below names text k at = (position-Some (λ n. bytes_eq n text) names k [] at).0

-- ---- what stands at a place

pub at_front : {A : Type 0} (xs ys : List A) (k : ℕ) (x : A) → slice_get xs k ≡ Some x → slice_get (xs ++ ys) k ≡ Some x
at_front [] ys k x e = absurd (none-some x e)
at_front (y ∷ xs) ys zero x e = e
at_front (y ∷ xs) ys (suc k) x e = at_front xs ys k x e

pub at_seam : {A : Type 0} (xs : List A) (y : A) (ys : List A) → slice_get (xs ++ y ∷ ys) (length xs) ≡ Some y
at_seam [] y ys = refl
at_seam (x ∷ xs) y ys = at_seam xs y ys
