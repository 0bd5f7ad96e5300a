-- Claims and flights as lists of numbers with keys.
use Rattle.std.proofs.Common.{◌≡◌, ℕ, ◌+◌, ◌≤◌, ◌≢◌, eqb, Bool, cond, List, [], ◌∷◌, ◌++◌, Some, None, Contains, sym, refl, ap, ◌∙◌, inl, inr, subst, arith, eq-eqb, ne_eqb}
use Rattle.std.specs.Prelude.{filter, not}
use mathlib.Core.Logic.{dite}
use native.Mathlib.Decide.{ℕ_discrete}
use Rattle.fx_core.proofs.CallerLemmas.{first, later, key_under}
use Rattle.fx_turn.specs.Claims.{times, mark_of, NumbersDiffer, AreAmong, OnlyOwnLeft, claims_after}
use Rattle.fx_turn.proofs.CallerLemmas.{times-here, times-else, times-append, mark-here, mark-else, none_marked, claims_after-less}

-- the flight left, and the others stay in their order
abbrev pub Without : {K : Type 0} → List (ℕ × K) → ℕ × K → List (ℕ × K) → Type 0
Without {K} old f new = (before after : List (ℕ × K)) → old ≡ before ++ f ∷ after → new ≡ before ++ after

module _ {K : Type 0} where
  -- what stands among claims whose numbers differ is found by its number
  pub marked : (cs : List (ℕ × K)) (f : ℕ × K) → NumbersDiffer cs → Contains cs f → mark_of f.0 cs ≡ Some f.1
  marked cs f differ there = key_under cs f (differ f.0) there

  pub found : (cs : List (ℕ × K)) (f : ℕ × K) → mark_of f.0 cs ≡ Some f.1 → Contains cs f
  found [] f e = cc
  found (c ∷ cs) f e = dite (ℕ_discrete c.0 f.0)
      (λ is. let h : Some c.1 ≡ Some f.1 = sym (mark-here f.0 c cs is) ∙ e in let same : c.1 ≡ f.1 = cc in subst (Contains (c ∷ cs)) (λ i. (is i, same i)) (first c cs))
      (λ ne. later c cs f (found cs f (sym (mark-else f.0 c cs ne) ∙ e)))

  -- a flight of the seat stands in the core
  pub stands : (mine flying : List (ℕ × K)) (f : ℕ × K) → NumbersDiffer mine → AreAmong mine flying → Contains mine f → Contains flying f
  stands mine flying f differ among there = found flying f (among f.0 f.1 (marked mine f differ there))

  -- without one of them, the others are found as before
  pub mark-skip : (n : ℕ) (before : List (ℕ × K)) (f : ℕ × K) (after : List (ℕ × K)) → f.0 ≢ n → mark_of n (before ++ f ∷ after) ≡ mark_of n (before ++ after)
  mark-skip n [] f after ne = mark-else n f after ne
  mark-skip n (c ∷ before) f after ne = dite (ℕ_discrete c.0 n)
      (λ is. mark-here n c (before ++ f ∷ after) is ∙ sym (mark-here n c (before ++ after) is))
      (λ other. mark-else n c (before ++ f ∷ after) other ∙ (mark-skip n before f after ne ∙ sym (mark-else n c (before ++ after) other)))

  pub times-skip : (before : List (ℕ × K)) (f : ℕ × K) (after : List (ℕ × K)) → times f.0 (before ++ f ∷ after) ≡ 1 + times f.0 (before ++ after)
  times-skip before f after = let a = times-append f.0 before (f ∷ after) in let b = times-append f.0 before after in let c = times-here f.0 f after refl in omega arith

  pub gone : (before : List (ℕ × K)) (f : ℕ × K) (after : List (ℕ × K)) → NumbersDiffer (before ++ f ∷ after) → mark_of f.0 (before ++ after) ≡ None
  gone before f after differ = none_marked f.0 (before ++ after) (let a = times-skip before f after in let b = differ f.0 in omega arith)

  filter_all : (n : ℕ) (cs : List (ℕ × K)) → times n cs ≡ 0 → filter (λ c. not (eqb c.0 n)) cs ≡ cs
  filter_all n [] none = refl
  filter_all n (c ∷ cs) none = dite (ℕ_discrete c.0 n)
      (λ is. let h = times-here n c cs is in absurd (omega arith))
      (λ ne. let h = times-else n c cs ne in ap (λ (b : Bool). cond (not b) (c ∷ filter (λ c. not (eqb c.0 n)) cs) (filter (λ c. not (eqb c.0 n)) cs)) (ne_eqb c.0 n ne) ∙ ap (λ l. c ∷ l) (filter_all n cs (omega arith)))

  filter_one : (before : List (ℕ × K)) (f : ℕ × K) (after : List (ℕ × K)) → times f.0 (before ++ f ∷ after) ≤ 1 → filter (λ c. not (eqb c.0 f.0)) (before ++ f ∷ after) ≡ before ++ after
  filter_one [] f after once =
      let h = times-here f.0 f after refl in
      ap (λ (b : Bool). cond (not b) (f ∷ filter (λ c. not (eqb c.0 f.0)) after) (filter (λ c. not (eqb c.0 f.0)) after)) (eq-eqb f.0 f.0 refl) ∙ filter_all f.0 after (omega arith)
  filter_one (c ∷ before) f after once = dite (ℕ_discrete c.0 f.0)
      (λ is. let h = times-here f.0 c (before ++ f ∷ after) is in let g = times-skip before f after in absurd (omega arith))
      (λ ne. let h = times-else f.0 c (before ++ f ∷ after) ne in
      ap (λ (b : Bool). cond (not b) (c ∷ filter (λ c. not (eqb c.0 f.0)) (before ++ f ∷ after)) (filter (λ c. not (eqb c.0 f.0)) (before ++ f ∷ after))) (ne_eqb c.0 f.0 ne)
      ∙ ap (λ l. c ∷ l) (filter_one before f after (omega arith)))

  -- what the seat has once one of its flights has left
  pub without : (mine : List (ℕ × K)) (f : ℕ × K) → NumbersDiffer mine → Without mine f (filter (λ c. not (eqb c.0 f.0)) mine)
  without mine f differ before after e =
      ap (λ l. filter (λ (c : ℕ × K). not (eqb c.0 f.0)) l) e ∙ filter_one before f after (subst (λ l. times f.0 l ≤ 1) e (differ f.0))

  -- a flight of the seat left, and no other
  module _ (old new mine : List (ℕ × K)) (f : ℕ × K) (differ : NumbersDiffer old) (among : AreAmong mine old) (own : NumbersDiffer mine) (there : Contains mine f)
      (l : (before : List (ℕ × K)) × (after : List (ℕ × K)) × (old ≡ before ++ f ∷ after) × (new ≡ before ++ after)) where
    others : (n : ℕ) → n ≢ f.0 → mark_of n new ≡ mark_of n old
    others n ne = ap (mark_of n) l.3 ∙ (sym (mark-skip n l.0 f l.1 (λ e. ne (sym e))) ∙ ap (mark_of n) (sym l.2))

    left_there : mark_of f.0 new ≡ None
    left_there = ap (mark_of f.0) l.3 ∙ gone l.0 f l.1 (subst NumbersDiffer l.2 differ)

    pub only_own : OnlyOwnLeft mine old new
    only_own n m e = dite (ℕ_discrete n f.0)
        (λ is. let mark = marked mine f own there in let there' = among f.0 f.1 mark in let e' : mark_of f.0 old ≡ Some m = ap (λ k. mark_of k old) (sym is) ∙ e in inr (ap (λ k. mark_of k mine) is ∙ (mark ∙ (sym there' ∙ e'))))
        (λ ne. inl (others n ne ∙ e))

    pub claims_left : Without mine f (claims_after old new mine)
    claims_left = subst (Without mine f) (sym (claims_after-less old new mine f.0 own among left_there (λ k ne. others k ne))) (without mine f own)
