-- A flight that stands is found by its number, leaves alone, and its key is not kept.
use Rattle.std.proofs.Common.{◌≡◌, ℕ, zero, suc, ◌+◌, ◌≤◌, ◌==◌, Bool, true, false, cond, List, [], ◌∷◌, ◌++◌, take, Some, None, Contains, ◌⊎◌, inl, inr, sym, refl, ap, ◌∙◌, subst, arith, eq-eqb, length}
use Rattle.std.proofs.lemmas.List.Elements.{Contains-push}
use Rattle.std.specs.Cmp.{IsEquivalence}
use Rattle.std.specs.Map.{lookup, remove_entry}
use Rattle.lru.proofs.CallerLemmas.{Contains-take, Contains-promoted}
use Rattle.fx_core.specs.State.{State}
use Rattle.fx_core.specs.Step.{with_front, with_new, key_of}
use Rattle.fx_core.specs.Sound.{IsSound}
use Rattle.fx_core.proofs.CallerLemmas.{cases, none_in, numbers_once, key_under}
use Rattle.fx_core.proofs.Counting.{count, lookup_from_none}
use Rattle.fx_core.proofs.Members.{one_from_member}
use Rattle.fx_core.proofs.Soundness.{counted}

module _ {K : Type 0} where
  abbrev Left : List (ℕ × K) → ℕ × K → List (ℕ × K) → Type 0
  Left old f new = (before : List (ℕ × K)) × (after : List (ℕ × K)) × (old ≡ before ++ f ∷ after) × (new ≡ before ++ after)

  -- the flight leaves, and the others stay
  pub leaves : (fs : List (ℕ × K)) (f : ℕ × K) → count (λ g. g.0 == f.0) fs ≤ 1 → Contains fs f → Left fs f (remove_entry (λ m. m == f.0) fs)
  leaves [] f once c = absurd (none_in f c)
  leaves (g ∷ fs) f once c = elim (cases g fs f c) [
    | inl e ↦ ([], fs, ap (λ (z : ℕ × K). z ∷ fs) e, rw (eq-eqb g.0 f.0 (ap (λ (z : ℕ × K). z.0) e)) refl)
    | inr d ↦ let h = one_from_member (λ g. g.0 == f.0) fs f d (eq-eqb f.0 f.0 refl) in (elim (g.0 == f.0) as (λ b. (g.0 == f.0) ≡ b → Left (g ∷ fs) f (cond b fs (g ∷ remove_entry (λ m. m == f.0) fs))) [
      | true ↦ λ is. let two : 1 + count (λ g. g.0 == f.0) fs ≤ 1 = rw is at once in absurd (omega arith)
      | false ↦ λ is. let rest : 0 + count (λ g. g.0 == f.0) fs ≤ 1 = rw is at once in let l = leaves fs f (omega arith) d in
          (g ∷ l.0, l.1, ap (λ (z : List (ℕ × K)). g ∷ z) l.2, ap (λ (z : List (ℕ × K)). g ∷ z) l.3)
    ]) refl
  ]

  -- the one that began last is the one that leaves
  pub last_leaves : (others : List (ℕ × K)) (f : ℕ × K) → count (λ g. g.0 == f.0) (others ++ f ∷ []) ≤ 1 → remove_entry (λ m. m == f.0) (others ++ f ∷ []) ≡ others
  last_leaves [] f once = rw (eq-eqb f.0 f.0 refl) refl
  last_leaves (g ∷ others) f once =
      let there = one_from_member (λ g. g.0 == f.0) (others ++ f ∷ []) f (Contains-push others f) (eq-eqb f.0 f.0 refl) in (elim (g.0 == f.0) as (λ b. (g.0 == f.0) ≡ b → remove_entry (λ m. m == f.0) (g ∷ (others ++ f ∷ [])) ≡ g ∷ others) [
        | true ↦ λ is. let two : 1 + count (λ g. g.0 == f.0) (others ++ f ∷ []) ≤ 1 = rw is at once in absurd (omega arith)
        | false ↦ λ is. let rest : 0 + count (λ g. g.0 == f.0) (others ++ f ∷ []) ≤ 1 = rw is at once in rw is (ap (λ (z : List (ℕ × K)). g ∷ z) (last_leaves others f (omega arith)))
      ]) refl

module _ {K V : Type 0} (eq : K → K → Bool) (laws : IsEquivalence eq) (s : State K V) (r : IsSound eq s) (f : ℕ × K) where
  pub standing_last : (others : List (ℕ × K)) → s.flying ≡ others ++ f ∷ [] → remove_entry (λ m. m == f.0) s.flying ≡ others
  standing_last others last =
      let once = (counted eq laws s r).numbers f.0 in
      ap (remove_entry (λ m. m == f.0)) last ∙ last_leaves others f (subst (λ (fs : List (ℕ × K)). count (λ g. g.0 == f.0) fs ≤ 1) last once)

module _ {K V : Type 0} (eq : K → K → Bool) (laws : IsEquivalence eq) (s : State K V) (r : IsSound eq s) (f : ℕ × K) (stands : Contains s.flying f) where
  pub standing_key : key_of s f.0 ≡ Some f.1
  standing_key = key_under s.flying f (numbers_once s.flying r.numbers_differ f.0) stands

  pub standing_leaves : (before : List (ℕ × K)) × (after : List (ℕ × K)) × (s.flying ≡ before ++ f ∷ after) × (remove_entry (λ m. m == f.0) s.flying ≡ before ++ after)
  standing_leaves = leaves s.flying f ((counted eq laws s r).numbers f.0) stands

  pub not_kept : lookup (eq f.1) s.kept ≡ None
  not_kept = let once = (counted eq laws s r).once f.1 in let one = one_from_member (λ g. eq f.1 g.1) s.flying f stands (laws.refl f.1) in lookup_from_none (eq f.1) s.kept (omega arith)

module _ {K V : Type 0} where
  pub with_front-member : (test : K → Bool) (es : List (K × V)) (e : K × V) → Contains (with_front test es) e → Contains es e
  with_front-member test es e c = Contains-promoted test es e c

  pub with_new-member : (c : ℕ) (es : List (K × V)) (new e : K × V) → Contains (with_new c es new) e → Contains es e ⊎ (e ≡ new)
  with_new-member zero es new e m = inl m
  with_new-member (suc c) es new e m = elim (cases new (cond (length es == suc c) (take c es) es) e m) [
    | inl same ↦ inr (sym same)
    | inr d ↦ inl ((elim (length es == suc c) as (λ b. Contains (cond b (take c es) es) e → Contains es e) [ true ↦ λ d. Contains-take c es e d | false ↦ λ d. d ]) d)
  ]
