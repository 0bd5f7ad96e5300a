-- Entries of shared keys and values, seen as entries of what they hold.
use Rattle.std.proofs.Common.{◌≡◌, ℕ, zero, suc, ◌-◌, ◌<◌, ◌≤◌, ◌==◌, Bool, true, false, cond, not, ◌||◌, ◌+◌, nat_lt, List, [], ◌∷◌, length, map, take, Option, Some, None, sym, refl, ap, subst, ◌∙◌, arith, eq-eqb, ne_eqb}
use Rattle.std.proofs.lemmas.List.{length-map, take-map, take_all}
use native.Mathlib.Decide.{ℕ_discrete}
use mathlib.Core.Logic.{dite}
use borrow.Author.Tests.{ltb-true, ltb-false}
use Rattle.std.proofs.Math.Numerals.{one-add}
use Rattle.std.specs.Map.{lookup, lookup_entry, remove_entry}
use Rattle.std.specs.List.{list_any, position_or_len, position, remove}
use Rattle.std.specs.Option.{option_map, option_map_or}
use Rattle.lru.specs.LruCache.{promoted}
use Rattle.fx_core.specs.Step.{with_front, with_new}

module _ {A B K V : Type 0} (f : A → K) (g : B → V) where
  abbrev pub both : A × B → K × V
  both e = (f e.0, g e.1)

  pub lookup-map : (test : K → Bool) (es : List (A × B)) → lookup test (map both es) ≡ option_map g (lookup (λ a. test (f a)) es)
  lookup-map test [] = refl
  lookup-map test (e ∷ es) = (elim (test (f e.0)) as (λ b. cond b (Some (g e.1)) (lookup test (map both es)) ≡ option_map g (cond b (Some e.1) (lookup (λ a. test (f a)) es))) [
    | true ↦ refl
    | false ↦ lookup-map test es
  ])

  lookup_entry-map : (test : K → Bool) (es : List (A × B)) → lookup_entry test (map both es) ≡ option_map both (lookup_entry (λ a. test (f a)) es)
  lookup_entry-map test [] = refl
  lookup_entry-map test (e ∷ es) = (elim (test (f e.0)) as (λ b. cond b (Some (both e)) (lookup_entry test (map both es)) ≡ option_map both (cond b (Some e) (lookup_entry (λ a. test (f a)) es))) [
    | true ↦ refl
    | false ↦ lookup_entry-map test es
  ])

  pub remove_entry-map : (test : K → Bool) (es : List (A × B)) → remove_entry test (map both es) ≡ map both (remove_entry (λ a. test (f a)) es)
  remove_entry-map test [] = refl
  remove_entry-map test (e ∷ es) = (elim (test (f e.0)) as (λ b. cond b (map both es) (both e ∷ remove_entry test (map both es)) ≡ map both (cond b es (e ∷ remove_entry (λ a. test (f a)) es))) [
    | true ↦ refl
    | false ↦ ap (λ l. both e ∷ l) (remove_entry-map test es)
  ])

  fronted : (test : K → Bool) (es : List (A × B)) (o : Option (A × B))
      → option_map_or (λ e. e ∷ remove_entry test (map both es)) (option_map both o) (map both es) ≡ map both (option_map_or (λ e. e ∷ remove_entry (λ a. test (f a)) es) o es)
  fronted test es None = refl
  fronted test es (Some e) = ap (λ l. both e ∷ l) (remove_entry-map test es)

  pub with_front-map : (test : K → Bool) (es : List (A × B)) → with_front test (map both es) ≡ map both (promoted (λ a. test (f a)) es)
  with_front-map test es = rw (lookup_entry-map test es) (fronted test es (lookup_entry (λ a. test (f a)) es))

  none_mapped : (o : Option (A × B)) → option_map both o ≡ None → o ≡ None
  none_mapped None e = refl
  none_mapped (Some x) e = cc

  no_entry : (test : K → Bool) (es : List (K × V)) → lookup test es ≡ None → lookup_entry test es ≡ None
  no_entry test [] e = refl
  no_entry test (x ∷ xs) e = (elim (test x.0) as (λ b. test x.0 ≡ b → lookup_entry test (x ∷ xs) ≡ None) [
    | true ↦ λ is. let h = rw is at e in cc
    | false ↦ λ is. rw is (no_entry test xs (rw is at e))
  ]) refl

  room_made : (es : List (A × B)) (c : ℕ) → length es ≤ suc c → map both (take c es) ≡ (cond (length (map both es) == suc c) (take c (map both es)) (map both es))
  room_made es c h = rw (length-map es both) (dite (ℕ_discrete (length es) (suc c))
      (λ e. rw (eq-eqb (length es) (suc c) e) (sym (take-map both c es)))
      (λ ne. rw (ne_eqb (length es) (suc c) ne) (ap (map both) (take_all c es (omega arith)))))

  -- a new pair in a cache
  pub with_new-map : (test : K → Bool) (es : List (A × B)) (c : ℕ) (a : A) (b : B) → 0 < c → length es ≤ c → lookup test (map both es) ≡ None
      → map both (option_map_or (λ e. (e.0, b) ∷ remove_entry (λ x. test (f x)) es) (lookup_entry (λ x. test (f x)) es) ((a, b) ∷ take (c - 1) es)) ≡ with_new c (map both es) (f a, g b)
  with_new-map test es zero a b h fits none = absurd (omega arith)
  with_new-map test es (suc c) a b h fits none =
      let e : lookup_entry (λ x. test (f x)) es ≡ None = none_mapped _ (sym (lookup_entry-map test es) ∙ no_entry test (map both es) none) in
      let n : suc c - 1 ≡ c = omega arith in
      rw (e, n) (ap (λ l. both (a, b) ∷ l) (room_made es c fits))

pub list_any-map : {X Y : Type 0} (test : Y → Bool) (h : X → Y) (xs : List X) → list_any test (map h xs) ≡ list_any (λ x. test (h x)) xs
list_any-map test h [] = refl
list_any-map test h (x ∷ xs) = ap (λ b. test (h x) || b) (list_any-map test h xs)

module _ {K X : Type 0} (test : K → Bool) where
  abbrev place : List (K × X) → ℕ
  place es = position_or_len (λ e. test e.0) es

  -- the entry at the first place that passes is the one that goes
  removed : (es : List (K × X)) → place es < length es → remove es (place es) ≡ remove_entry test es
  removed [] h = absurd (omega arith)
  removed (e ∷ es) h = (elim (test e.0) as (λ b. test e.0 ≡ b → remove (e ∷ es) (place (e ∷ es)) ≡ remove_entry test (e ∷ es)) [
    | true ↦ λ is. rw is refl
    | false ↦ λ is. let below : cond (not (test e.0)) (1 + place es) 0 < length (e ∷ es) = h in let below' = rw is at below in
        rw is (rw one-add (ap (λ l. e ∷ l) (removed es (omega arith))))
  ]) refl

  none_removed : (es : List (K × X)) → length es ≤ place es → es ≡ remove_entry test es
  none_removed [] h = refl
  none_removed (e ∷ es) h = (elim (test e.0) as (λ b. test e.0 ≡ b → e ∷ es ≡ remove_entry test (e ∷ es)) [
    | true ↦ λ is. let above : length (e ∷ es) ≤ cond (not (test e.0)) (1 + place es) 0 = h in let above' = rw is at above in absurd (omega arith)
    | false ↦ λ is. let above : length (e ∷ es) ≤ cond (not (test e.0)) (1 + place es) 0 = h in let above' = rw is at above in
        rw is (ap (λ l. e ∷ l) (none_removed es (omega arith)))
  ]) refl

  at : (es : List (K × X)) (i : ℕ) (b : Bool) → nat_lt (place es) (length es) ≡ b → cond b (Some (place es)) None ≡ Some i → remove es i ≡ remove_entry test es
  at es i true t h = let same : place es ≡ i = cc in subst (λ j. remove es j ≡ remove_entry test es) same (removed es (ltb-true _ _ t))
  at es i false t h = cc

  pub remove-at_place : (es : List (K × X)) (i : ℕ) → position (λ e. test e.0) es ≡ Some i → remove es i ≡ remove_entry test es
  remove-at_place es i h = at es i (nat_lt (place es) (length es)) refl h

  nowhere : (es : List (K × X)) (b : Bool) → nat_lt (place es) (length es) ≡ b → cond b (Some (place es)) None ≡ None → es ≡ remove_entry test es
  nowhere es true t h = cc
  nowhere es false t h = none_removed es (ltb-false _ _ t)

  pub remove_entry-no_place : (es : List (K × X)) → position (λ e. test e.0) es ≡ None → es ≡ remove_entry test es
  remove_entry-no_place es h = nowhere es (nat_lt (place es) (length es)) refl h
