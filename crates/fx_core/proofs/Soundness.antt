-- Each event keeps a core sound. A key stands once at most, kept or flying: in this form the induction is short.
use Rattle.std.proofs.Common.{◌≡◌, ℕ, zero, suc, ◌+◌, ◌<◌, ◌≤◌, ◌==◌, ◌≢◌, Bool, true, false, cond, List, [], ◌∷◌, ◌++◌, length, take, Option, Some, None, IsSome, All, refl, subst, arith, length-append, length-take, eq-eqb, ne_eqb}
use native.Mathlib.Decide.{ℕ_discrete, dec_lt}
use Rattle.std.specs.Prelude.{nat_eq}
use Rattle.std.proofs.lemmas.List.Elements.{All-head, All-tail, All-nil, All-cons}
use mathlib.Core.Logic.{dite}
use Rattle.std.specs.Cmp.{IsEquivalence, nat_eq_equiv}
use Rattle.std.specs.Map.{lookup, keys_of, values_of}
use Rattle.std.specs.Option.{option_map}
use Rattle.fx_core.specs.State.{State}
use Rattle.fx_core.specs.Step.{is_full, with_new, key_of, after_hit, after_busy, after_flight, after_landing, after_drop, is_flying, ask_step, step, Event, Ask, Land, Drop, Reply, Done}
use Rattle.fx_core.specs.Sound.{IsSound}
use Rattle.fx_core.proofs.CallerLemmas.{numbers_once}
use Rattle.fx_core.proofs.Counting.{count, count_by-is, count-append, count-take-le, count-agree, count-map, none_from_any, any_from_none, once_from_distinct, distinct_from_once, count-remove_entry, length-remove_entry, entry_of, count-with_front, length-with_front, none_from_lookup, one_from_lookup}

-- a count and a map's word test numbers the one way and the other
pub turned : (n m : ℕ) → nat_eq n m ≡ (m == n)
turned n m = nat_eq_equiv.symm n m

-- whether one of the keys that differ is below a bound
below_from_all : {K : Type 0} (fs : List (ℕ × K)) (bound n : ℕ) → All (λ m. m < bound) (keys_of fs) → bound ≤ n → count (λ f. f.0 == n) fs ≡ 0
below_from_all [] bound n all h = refl
below_from_all (f ∷ fs) bound n all h =
    let under : f.0 < bound = All-head (λ m. m < bound) f.0 (keys_of fs) all in
    let rest = below_from_all fs bound n (All-tail (λ m. m < bound) f.0 (keys_of fs) all) h in
    let ne : f.0 ≢ n = λ e. omega arith in
    rw (ne_eqb f.0 n ne) (omega arith)

all_from_below : {K : Type 0} (fs : List (ℕ × K)) (bound : ℕ) → ((n : ℕ) → bound ≤ n → count (λ f. f.0 == n) fs ≡ 0) → All (λ m. m < bound) (keys_of fs)
all_from_below [] bound none = All-nil (λ m. m < bound)
all_from_below (f ∷ fs) bound none = All-cons (λ m. m < bound) f.0 (keys_of fs)
    (dite (dec_lt f.0 bound) (λ h. h) (λ not. let h : cond {A = ℕ} (f.0 == f.0) 1 0 + count (λ e. e.0 == f.0) fs ≡ 0 = none f.0 (omega arith) in let h' = rw (eq-eqb f.0 f.0 refl) at h in absurd (omega arith)))
    (all_from_below fs bound (λ n h. let c : cond {A = ℕ} (f.0 == n) 1 0 + count (λ e. e.0 == n) fs ≡ 0 = none n h in omega arith))

one_from_some : {K X : Type 0} (t : K → Bool) (es : List (K × X)) → IsSome (lookup t es) → 1 ≤ count (λ e. t e.0) es
one_from_some t es some = (elim (lookup t es) as (λ o. lookup t es ≡ o → IsSome o → 1 ≤ count (λ e. t e.0) es) [
  | None ↦ λ is no. cc
  | Some v ↦ λ is yes. one_from_lookup t es v is
]) refl some

length-zero : {A : Type 0} (xs : List A) → length xs ≡ 0 → xs ≡ []
length-zero [] h = refl
length-zero (x ∷ xs) h = absurd (omega arith)

-- the test of an equal key is the same test
alike : {K : Type 0} (eq : K → K → Bool) → IsEquivalence eq → (j k : K) → eq j k ≡ true → (x : K) → eq j x ≡ eq k x
alike eq laws j k e x = laws.congr j k x e

-- one more flight
pub more : {K : Type 0} (t : ℕ × K → Bool) (fs : List (ℕ × K)) (f : ℕ × K) → count t (fs ++ f ∷ []) ≡ count t fs + (cond {A = ℕ} (t f) 1 0 + 0)
more t fs f = count-append t fs (f ∷ [])

module _ {K V : Type 0} (eq : K → K → Bool) where
  -- how often a key is kept, and how often it flies
  abbrev times_kept : State K V → K → ℕ
  times_kept s k = count (λ e. eq k e.0) s.kept

  abbrev times_flown : State K V → K → ℕ
  times_flown s k = count (λ f. eq k f.1) s.flying

  pub record Counted (s : State K V) : Type 0 where
    pub once : (k : K) → times_kept s k + times_flown s k ≤ 1
    pub numbers : (n : ℕ) → count (λ f. f.0 == n) s.flying ≤ 1
    pub below : (n : ℕ) → s.next ≤ n → count (λ f. f.0 == n) s.flying ≡ 0
    pub asks : s.totals.asks ≡ s.totals.hits + s.totals.busies + s.totals.flights
    pub flights : s.totals.flights ≡ s.totals.landed + s.totals.dropped + length s.flying
    pub fit : length s.kept ≤ s.capacity
    pub kept_is : 0 < s.capacity → s.totals.landed ≡ length s.kept + s.totals.evicted
    pub full : 0 < s.totals.evicted → length s.kept ≡ s.capacity
    pub none_evicted : s.capacity ≡ 0 → s.totals.evicted ≡ 0

module _ {K V : Type 0} (eq : K → K → Bool) (laws : IsEquivalence eq) where
  pub counted : (s : State K V) → IsSound eq s → Counted eq s
  counted s r = record {
    once = λ k. let kept = once_from_distinct eq laws (keys_of s.kept) r.kept_differ k in let flying = once_from_distinct eq laws (values_of s.flying) r.flying_differ k in
        let kept' = count-map (eq k) (λ (e : K × V). e.0) s.kept in let flying' = count-map (eq k) (λ (f : ℕ × K). f.1) s.flying in
        (elim (lookup (eq k) s.kept) as (λ o. lookup (eq k) s.kept ≡ o → times_kept eq s k + times_flown eq s k ≤ 1) [
          | None ↦ λ is. let none = none_from_lookup (eq k) s.kept is in omega arith
          | Some v ↦ λ is. let none = none_from_any (λ (f : ℕ × K). eq k f.1) s.flying (r.not_both k (rw is refl)) in omega arith
        ]) refl;
    numbers = λ n. let once = numbers_once s.flying r.numbers_differ n in let same = count_by-is (λ (f : ℕ × K). f.0 == n) s.flying in omega arith;
    below = λ n h. below_from_all s.flying s.next n r.numbers_below h;
    asks = r.asks;
    flights = r.flights;
    fit = r.kept_fit;
    kept_is = λ h. let a = r.kept_count h in let b = r.evicted_count h in omega arith;
    full = λ h. dite (ℕ_discrete s.capacity 0) (λ z. let e = r.none_evicted z in absurd (omega arith)) (λ nz. let a = r.kept_count (omega arith) in let b = r.evicted_count (omega arith) in omega arith);
    none_evicted = r.none_evicted;
  }

  pub sound : (s : State K V) → Counted eq s → IsSound eq s
  sound s r = record {
    kept_differ = distinct_from_once eq laws (keys_of s.kept) (λ k. let c = count-map (eq k) (λ (e : K × V). e.0) s.kept in let once = r.once k in omega arith);
    kept_fit = r.fit;
    flying_differ = distinct_from_once eq laws (values_of s.flying) (λ k. let c = count-map (eq k) (λ (f : ℕ × K). f.1) s.flying in let once = r.once k in omega arith);
    numbers_differ = distinct_from_once nat_eq nat_eq_equiv (keys_of s.flying) (λ n. let c = count-map (nat_eq n) (λ (f : ℕ × K). f.0) s.flying in
        let t = count-agree (λ (f : ℕ × K). nat_eq n f.0) (λ f. f.0 == n) (λ f. turned n f.0) s.flying in let once = r.numbers n in omega arith);
    numbers_below = all_from_below s.flying s.next r.below;
    not_both = λ k is. any_from_none (λ (f : ℕ × K). eq k f.1) s.flying (let once = r.once k in let some = one_from_some (eq k) s.kept is in omega arith);
    asks = r.asks;
    flights = r.flights;
    kept_count = λ h. let a = r.kept_is h in let f = r.fit in dite (ℕ_discrete s.totals.evicted 0) (λ z. omega arith) (λ nz. let b = r.full (omega arith) in omega arith);
    evicted_count = λ h. let a = r.kept_is h in omega arith;
    none_kept = λ z. let f = r.fit in length-zero s.kept (omega arith);
    none_evicted = r.none_evicted;
  }

  counted_hit : (s : State K V) (k : K) (v : V) → Counted eq s → lookup (eq k) s.kept ≡ Some v → Counted eq (after_hit s (eq k))
  counted_hit s k v r f = let len = length-with_front (eq k) s.kept v f in record {
    once = λ j. let a = count-with_front (eq k) (λ e. eq j e.0) s.kept v f in let b = r.once j in omega arith;
    numbers = r.numbers;
    below = r.below;
    asks = let a = r.asks in omega arith;
    flights = r.flights;
    fit = let a = r.fit in omega arith;
    kept_is = λ h. let a = r.kept_is h in omega arith;
    full = λ h. let a = r.full h in omega arith;
    none_evicted = r.none_evicted;
  }

  counted_busy : (s : State K V) → Counted eq s → Counted eq (after_busy s)
  counted_busy s r = record {
    once = r.once;
    numbers = r.numbers;
    below = r.below;
    asks = let a = r.asks in omega arith;
    flights = r.flights;
    fit = r.fit;
    kept_is = r.kept_is;
    full = r.full;
    none_evicted = r.none_evicted;
  }

  counted_fly : (s : State K V) (k : K) → Counted eq s → lookup (eq k) s.kept ≡ None → is_flying eq s k ≡ false → Counted eq (after_flight s k)
  counted_fly s k r gone still =
      let kept = none_from_lookup (eq k) s.kept gone in
      let flying = none_from_any (λ (f : ℕ × K). eq k f.1) s.flying still in record {
        once = λ j. let m = more (λ f. eq j f.1) s.flying (s.next, k) in let old = r.once j in (elim (eq j k) as (λ b. eq j k ≡ b → count (λ e. eq j e.0) s.kept + count (λ f. eq j f.1) (s.flying ++ (s.next, k) ∷ []) ≤ 1) [
          | true ↦ λ is. let c = count-agree (λ (e : K × V). eq j e.0) (λ e. eq k e.0) (λ e. alike eq laws j k is e.0) s.kept in let d = count-agree (λ (f : ℕ × K). eq j f.1) (λ f. eq k f.1) (λ f. alike eq laws j k is f.1) s.flying in
              let m' : count (λ f. eq j f.1) (s.flying ++ (s.next, k) ∷ []) ≡ count (λ f. eq j f.1) s.flying + (1 + 0) = rw is at m in omega arith
          | false ↦ λ is. let m' : count (λ f. eq j f.1) (s.flying ++ (s.next, k) ∷ []) ≡ count (λ f. eq j f.1) s.flying + (0 + 0) = rw is at m in omega arith
        ]) refl;
        numbers = λ n. let m = more (λ f. f.0 == n) s.flying (s.next, k) in let old = r.numbers n in dite (ℕ_discrete s.next n)
            (λ e. let z = r.below n (omega arith) in let m' : count (λ f. f.0 == n) (s.flying ++ (s.next, k) ∷ []) ≡ count (λ f. f.0 == n) s.flying + (1 + 0) = rw (eq-eqb s.next n e) at m in omega arith)
            (λ ne. let m' : count (λ f. f.0 == n) (s.flying ++ (s.next, k) ∷ []) ≡ count (λ f. f.0 == n) s.flying + (0 + 0) = rw (ne_eqb s.next n ne) at m in omega arith);
        below = λ n h. let m = more (λ f. f.0 == n) s.flying (s.next, k) in let old = r.below n (omega arith) in
            let ne : s.next ≢ n = λ e. omega arith in let m' : count (λ f. f.0 == n) (s.flying ++ (s.next, k) ∷ []) ≡ count (λ f. f.0 == n) s.flying + (0 + 0) = rw (ne_eqb s.next n ne) at m in omega arith;
        asks = let a = r.asks in omega arith;
        flights = let a = r.flights in let b = length-append s.flying ((s.next, k) ∷ []) in omega arith;
        fit = r.fit;
        kept_is = r.kept_is;
        full = r.full;
        none_evicted = r.none_evicted;
      }

  counted_ask : (s : State K V) (k : K) → Counted eq s → (o : Option V) → lookup (eq k) s.kept ≡ o → (b : Bool) → is_flying eq s k ≡ b → Counted eq (ask_step eq s k o b).1
  counted_ask s k r (Some v) f b e = counted_hit s k v r f
  counted_ask s k r None f true e = counted_busy s r
  counted_ask s k r None f false e = counted_fly s k r f e

  counted_drop : (s : State K V) (n : ℕ) (k : K) → Counted eq s → key_of s n ≡ Some k → Counted eq (after_drop s n)
  counted_drop s n k r f = let e = entry_of (λ m. m == n) s.flying k f in let len = length-remove_entry (λ m. m == n) s.flying (e.0, k) e.1 in record {
    once = λ j. let m = count-remove_entry (λ m. m == n) (λ g. eq j g.1) s.flying (e.0, k) e.1 in let old = r.once j in omega arith;
    numbers = λ i. let m = count-remove_entry (λ m. m == n) (λ g. g.0 == i) s.flying (e.0, k) e.1 in let old = r.numbers i in omega arith;
    below = λ i h. let m = count-remove_entry (λ m. m == n) (λ g. g.0 == i) s.flying (e.0, k) e.1 in let old = r.below i h in omega arith;
    asks = r.asks;
    flights = let a = r.flights in omega arith;
    fit = r.fit;
    kept_is = r.kept_is;
    full = r.full;
    none_evicted = r.none_evicted;
  }

  -- at most the old entries and the new one
  count-with_new-le : (t : K × V → Bool) (c : ℕ) (es : List (K × V)) (new : K × V) → count t (with_new c es new) ≤ cond (t new) 1 0 + count t es
  count-with_new-le t zero es new = omega arith
  count-with_new-le t (suc c) es new = (elim (length es == suc c) as (λ b. count t (new ∷ (cond b (take c es) es)) ≤ cond (t new) 1 0 + count t es) [
    | true ↦ let h = count-take-le t c es in omega arith
    | false ↦ omega arith
  ])

  -- how many are kept and evicted after a landing
  abbrev Fills : ℕ → ℕ → ℕ → List (K × V) → Type 0
  Fills c landed out new = (length new ≤ c) × (0 < c → landed + 1 ≡ length new + out) × (0 < out → length new ≡ c) × (c ≡ 0 → out ≡ 0)

  fills : (c : ℕ) (es : List (K × V)) (new : K × V) (landed evicted : ℕ) → length es ≤ c → (0 < c → landed ≡ length es + evicted) → (0 < evicted → length es ≡ c) → (c ≡ 0 → evicted ≡ 0)
      → Fills c landed (evicted + cond (is_full c es) 1 0) (with_new c es new)
  fills zero es new landed evicted fit is full none = (fit, (λ h. omega arith), (λ h. let z = none refl in absurd (omega arith)), (λ _. let z = none refl in omega arith))
  fills (suc c) es new landed evicted fit is full none = let b = is (omega arith) in let len = length-take c es in dite (ℕ_discrete (length es) (suc c))
      (λ e. rw (eq-eqb (length es) (suc c) e) (omega arith, (λ _. omega arith), (λ _. omega arith), (λ z. absurd (omega arith))))
      (λ ne. rw (ne_eqb (length es) (suc c) ne) (omega arith, (λ _. omega arith), (λ h. absurd (let f = full (omega arith) in omega arith)), (λ z. absurd (omega arith))))

  counted_land : (s : State K V) (n : ℕ) (k : K) (v : V) → Counted eq s → key_of s n ≡ Some k → Counted eq (after_landing s n k v)
  counted_land s n k v r f =
      let e = entry_of (λ m. m == n) s.flying k f in
      let len = length-remove_entry (λ m. m == n) s.flying (e.0, k) e.1 in
      let fill = fills s.capacity s.kept (k, v) s.totals.landed s.totals.evicted r.fit r.kept_is r.full r.none_evicted in record {
        once = λ j. let m = count-remove_entry (λ m. m == n) (λ g. eq j g.1) s.flying (e.0, k) e.1 in let w = count-with_new-le (λ g. eq j g.0) s.capacity s.kept (k, v) in let old = r.once j in omega arith;
        numbers = λ i. let m = count-remove_entry (λ m. m == n) (λ g. g.0 == i) s.flying (e.0, k) e.1 in let old = r.numbers i in omega arith;
        below = λ i h. let m = count-remove_entry (λ m. m == n) (λ g. g.0 == i) s.flying (e.0, k) e.1 in let old = r.below i h in omega arith;
        asks = r.asks;
        flights = let a = r.flights in omega arith;
        fit = fill.0;
        kept_is = fill.1;
        full = fill.2;
        none_evicted = fill.3;
      }

  -- of what a step answers, the state
  counted_after : (t : State K V) (r : Reply V) (p : Reply V × State K V) → Counted eq p.1 → Some p ≡ Some (r, t) → Counted eq t
  counted_after t r p c h = let same : p ≡ (r, t) = cc in subst (λ (q : Reply V × State K V). Counted eq q.1) same c

  counted_landing : (s t : State K V) (n : ℕ) (v : V) (r : Reply V) → Counted eq s → (o : Option K) → key_of s n ≡ o → option_map {U = Reply V × State K V} (λ k. (Done, after_landing s n k v)) o ≡ Some (r, t) → Counted eq t
  counted_landing s t n v r c None f h = cc
  counted_landing s t n v r c (Some k) f h = counted_after t r (Done, after_landing s n k v) (counted_land s n k v c f) h

  counted_dropping : (s t : State K V) (n : ℕ) (r : Reply V) → Counted eq s → (o : Option K) → key_of s n ≡ o → option_map {U = Reply V × State K V} (λ (k : K). (Done, after_drop s n)) o ≡ Some (r, t) → Counted eq t
  counted_dropping s t n r c None f h = cc
  counted_dropping s t n r c (Some k) f h = counted_after t r (Done, after_drop s n) (counted_drop s n k c f) h

  counted_step : (s t : State K V) (e : Event K V) (r : Reply V) → Counted eq s → step eq s e ≡ Some (r, t) → Counted eq t
  counted_step s t (Ask k) r c h = counted_after t r (ask_step eq s k (lookup (eq k) s.kept) (is_flying eq s k)) (counted_ask s k c (lookup (eq k) s.kept) refl (is_flying eq s k) refl) h
  counted_step s t (Land n v) r c h = counted_landing s t n v r c (key_of s n) refl h
  counted_step s t (Drop n) r c h = counted_dropping s t n r c (key_of s n) refl h

  -- each event keeps a core sound
  pub sound_step : (s t : State K V) (e : Event K V) (r : Reply V) → IsSound eq s → step eq s e ≡ Some (r, t) → IsSound eq t
  sound_step s t e r h is = sound t (counted_step s t e r (counted s h) is)
