-- What a run tells of the state to which it leads, kept by each step.
use Rattle.std.proofs.Common.{◌≡◌, ℕ, zero, suc, ◌+◌, ◌<◌, ◌≤◌, ◌==◌, ◌≢◌, Bool, true, false, cond, List, [], ◌∷◌, ◌++◌, length, take, Option, Some, None, Contains, ◌⊎◌, inl, inr, sym, refl, ap, ◌∙◌, subst, arith, eq-eqb, ne_eqb}
use Rattle.std.specs.Prelude.{nat_eq}
use Rattle.std.proofs.lemmas.List.Elements.{Contains-append_left, Contains-append_cases, Contains-push}
use Rattle.std.proofs.lemmas.Map.{lookup-remove_entry}
use native.Mathlib.Decide.{ℕ_discrete}
use mathlib.Core.Logic.{dite}
use borrow.Author.Tests.{eqb-true}
use Rattle.std.specs.Cmp.{IsEquivalence, nat_eq_equiv}
use Rattle.std.specs.Map.{lookup, remove_entry, keys_of}
use Rattle.std.specs.List.{IsDistinct}
use Rattle.std.specs.Option.{option_map}
use Rattle.lru.proofs.CallerLemmas.{Contains-remove_entry, Contains-lookup}
use Rattle.fx_core.specs.State.{State}
use Rattle.fx_core.specs.Step.{Event, Ask, Land, Drop, Reply, Here, Busy, Fly, Done, with_front, is_full, with_new, key_of, after_hit, after_busy, after_flight, after_landing, after_drop, is_flying, ask_step, step}
use Rattle.fx_core.specs.Sound.{IsSound}
use Rattle.fx_core.specs.Run.{Answered, IsStart, IsRun, flights_of, endings_of, last_landed, IsLastLanded, IsOnlyFlight, FliesOnce, NumbersDiffer}
use Rattle.fx_core.proofs.Counting.{count, count_by-is, count-map, count-agree, none_from_any, distinct_from_once, count-remove_entry, entry_of, count-with_front}
use Rattle.fx_core.proofs.Soundness.{counted, sound_step, turned, more}
use Rattle.fx_core.proofs.CallerLemmas.{cases, none_in, first, later}
use Rattle.fx_core.proofs.Members.{one_from_member, stays, lookup-agree, lookup-take}
use Rattle.fx_core.proofs.Steps.{sound_start}

at_most_one : (b : Bool) → cond {A = ℕ} b 1 0 ≤ 1
at_most_one true = omega arith
at_most_one false = omega arith

-- a flight stays, or it is the one of the number
others : {K : Type 0} (fs : List (ℕ × K)) (n : ℕ) (f : ℕ × K) → Contains fs f → (f.0 ≡ n) ⊎ Contains (remove_entry (λ m. m == n) fs) f
others fs n f c = elim (stays (λ m. m == n) fs f c) [ inl same ↦ inl (eqb-true f.0 n same) | inr d ↦ inr d ]

module _ {K V : Type 0} (eq : K → K → Bool) (laws : IsEquivalence eq) where
  -- the order of the entries says nothing of what is found
  lookup-with_front : (k : K) (es : List (K × V)) (v : V) → IsDistinct eq (keys_of es) → lookup (eq k) es ≡ Some v → (j : K) → lookup (eq j) (with_front (eq k) es) ≡ lookup (eq j) es
  lookup-with_front k es v d f j =
      let e = entry_of (eq k) es v f in
      let rest = lookup-remove_entry laws (eq k) (λ x y p. laws.congr k x y p) j es d in
      rw (e.1) ((elim (eq j e.0) as (λ b. eq j e.0 ≡ b → cond b (Some v) (lookup (eq j) (remove_entry (eq k) es)) ≡ lookup (eq j) es) [
        | true ↦ λ is. sym (lookup-agree (eq j) (eq k) (λ x. laws.congr j e.0 x is ∙ sym (laws.congr k e.0 x e.2)) es ∙ f)
        | false ↦ λ is. let other : eq k j ≡ false = laws.congr k e.0 j e.2 ∙ (laws.symm e.0 j ∙ is) in rest ∙ rw other refl
      ]) refl)

  -- what the events tell of the state to which they lead
  record Told (events : List (Answered K V)) (s : State K V) : Type 0 where
    sound : IsSound eq s
    below : (n : ℕ) → s.next ≤ n → count (λ f. f.0 == n) (flights_of events) ≡ 0
    once : (n : ℕ) → count (λ f. f.0 == n) (flights_of events) ≤ 1
    known : (f : ℕ × K) → Contains s.flying f → lookup (λ m. m == f.0) (flights_of events) ≡ Some f.1
    ended : (f : ℕ × K) → Contains (flights_of events) f → Contains s.flying f ⊎ Contains (endings_of events) f.0
    landed_last : (k : K) (v : V) → lookup (eq k) s.kept ≡ Some v → last_landed eq k events ≡ Some v
    flights : 0 < s.capacity → (k : K) → count (λ f. eq k f.1) (flights_of events) ≤ (count (λ e. eq k e.0) s.kept + count (λ f. eq k f.1) s.flying) + (s.totals.dropped + s.totals.evicted)

  told_start : (s : State K V) → IsStart s → Told [] s
  told_start s e = record {
    sound = sound_start eq laws s e;
    below = λ n h. refl;
    once = λ n. omega arith;
    known = λ f c. absurd (none_in f (subst (λ (fs : List (ℕ × K)). Contains fs f) e.1 c));
    ended = λ f c. absurd (none_in f c);
    landed_last = λ k v h. let h' = subst (λ (es : List (K × V)). lookup (eq k) es ≡ Some v) e.0 h in cc;
    flights = λ h k. omega arith;
  }

  abbrev answered : Event K V → Reply V → Answered K V
  answered e r = record { event = e; reply = r }

  told_hit : (ms : List (Answered K V)) (s : State K V) (k : K) (v : V) → Told ms s → lookup (eq k) s.kept ≡ Some v → IsSound eq (after_hit s (eq k)) → Told (answered (Ask k) (Here v) ∷ ms) (after_hit s (eq k))
  told_hit ms s k v t f sound = record {
    sound = sound;
    below = t.below;
    once = t.once;
    known = t.known;
    ended = t.ended;
    landed_last = λ j w h. t.landed_last j w (sym (lookup-with_front k s.kept v t.sound.kept_differ f j) ∙ h);
    flights = λ h j. let a = count-with_front (eq k) (λ e. eq j e.0) s.kept v f in let b = t.flights h j in omega arith;
  }

  told_busy : (ms : List (Answered K V)) (s : State K V) (k : K) → Told ms s → IsSound eq (after_busy s) → Told (answered (Ask k) Busy ∷ ms) (after_busy s)
  told_busy ms s k t sound = record { sound = sound; below = t.below; once = t.once; known = t.known; ended = t.ended; landed_last = t.landed_last; flights = t.flights }

  told_fly : (ms : List (Answered K V)) (s : State K V) (k : K) → Told ms s → IsSound eq (after_flight s k) → Told (answered (Ask k) (Fly s.next) ∷ ms) (after_flight s k)
  told_fly ms s k t sound = record {
    sound = sound;
    below = λ n h. let ne : s.next ≢ n = λ e. omega arith in let old = t.below n (omega arith) in rw (ne_eqb s.next n ne) (omega arith);
    once = λ n. dite (ℕ_discrete s.next n)
        (λ e. let old = t.below n (omega arith) in rw (eq-eqb s.next n e) (omega arith))
        (λ ne. let old = t.once n in rw (ne_eqb s.next n ne) (omega arith));
    known = λ f c. elim (Contains-append_cases s.flying ((s.next, k) ∷ []) f c) [
      | inl d ↦ let one = one_from_member (λ g. g.0 == f.0) s.flying f d (eq-eqb f.0 f.0 refl) in
          let ne : s.next ≢ f.0 = λ e. let none = (counted eq laws s t.sound).below f.0 (omega arith) in omega arith in rw (ne_eqb s.next f.0 ne) (t.known f d)
      | inr d ↦ elim (cases (s.next, k) [] f d) [
        | inl e ↦ rw (eq-eqb s.next f.0 (ap (λ (z : ℕ × K). z.0) e)) (ap (λ (z : ℕ × K). Some z.1) e)
        | inr none ↦ absurd (none_in f none)
      ]
    ];
    ended = λ f c. elim (cases (s.next, k) (flights_of ms) f c) [
      | inl e ↦ inl (subst (Contains (s.flying ++ (s.next, k) ∷ [])) e (Contains-push s.flying (s.next, k)))
      | inr d ↦ elim (t.ended f d) [ inl flying ↦ inl (Contains-append_left s.flying ((s.next, k) ∷ []) f flying) | inr over ↦ inr over ]
    ];
    landed_last = t.landed_last;
    flights = λ h j. let a = more (λ f. eq j f.1) s.flying (s.next, k) in let b = t.flights h j in omega arith;
  }

  told_ask : (ms : List (Answered K V)) (s : State K V) (k : K) → Told ms s → (o : Option V) → lookup (eq k) s.kept ≡ o → (b : Bool) → IsSound eq (ask_step eq s k o b).1 → Told (answered (Ask k) (ask_step eq s k o b).0 ∷ ms) (ask_step eq s k o b).1
  told_ask ms s k t (Some v) f b sound = told_hit ms s k v t f sound
  told_ask ms s k t None f true sound = told_busy ms s k t sound
  told_ask ms s k t None f false sound = told_fly ms s k t sound

  over : (ms : List (Answered K V)) (s : State K V) (n : ℕ) → Told ms s → (f : ℕ × K) → Contains (flights_of ms) f → Contains (remove_entry (λ m. m == n) s.flying) f ⊎ Contains (n ∷ endings_of ms) f.0
  over ms s n t f c = elim (t.ended f c) [
    | inl flying ↦ elim (others s.flying n f flying) [ inl same ↦ inr (subst (Contains (n ∷ endings_of ms)) (sym same) (first n (endings_of ms))) | inr d ↦ inl d ]
    | inr ended ↦ inr (later n (endings_of ms) f.0 ended)
  ]

  told_drop : (ms : List (Answered K V)) (s : State K V) (n : ℕ) (k : K) → Told ms s → key_of s n ≡ Some k → IsSound eq (after_drop s n) → Told (answered (Drop n) Done ∷ ms) (after_drop s n)
  told_drop ms s n k t f sound = record {
    sound = sound;
    below = t.below;
    once = t.once;
    known = λ g c. t.known g (Contains-remove_entry (λ m. m == n) s.flying g c);
    ended = over ms s n t;
    landed_last = t.landed_last;
    flights = λ h j. let e = entry_of (λ m. m == n) s.flying k f in let m = count-remove_entry (λ m. m == n) (λ g. eq j g.1) s.flying (e.0, k) e.1 in let b = t.flights h j in
        let one = at_most_one (eq j k) in omega arith;
  }

  -- a new entry pushes one entry out at most, and only out of a full list
  count-take : (test : K × V → Bool) (c : ℕ) (es : List (K × V)) → length es ≡ suc c → count test es ≤ count test (take c es) + 1
  count-take test zero [] h = omega arith
  count-take test zero (e ∷ []) h = let one = at_most_one (test e) in omega arith
  count-take test zero (e ∷ (d ∷ es)) h = absurd (omega arith)
  count-take test (suc c) [] h = absurd (omega arith)
  count-take test (suc c) (e ∷ es) h = let rest = count-take test c es (omega arith) in omega arith

  count-with_new : (test : K × V → Bool) (c : ℕ) (es : List (K × V)) (new : K × V) → 0 < c → cond {A = ℕ} (test new) 1 0 + count test es ≤ count test (with_new c es new) + cond {A = ℕ} (is_full c es) 1 0
  count-with_new test zero es new h = absurd (omega arith)
  count-with_new test (suc c) es new h = dite (ℕ_discrete (length es) (suc c))
      (λ e. let pushed = count-take test c es e in rw (eq-eqb (length es) (suc c) e) (omega arith))
      (λ ne. rw (ne_eqb (length es) (suc c) ne) (omega arith))

  -- what is found after a landing: the new value, or what was found before
  found_after : (c : ℕ) (es : List (K × V)) (k : K) (v : V) (j : K) (w : V) → (c ≡ 0 → es ≡ []) → lookup (eq j) (with_new c es (k, v)) ≡ Some w → ((eq j k ≡ true) × (v ≡ w)) ⊎ ((eq j k ≡ false) × (lookup (eq j) es ≡ Some w))
  found_after zero es k v j w none h = let h' = subst (λ (l : List (K × V)). lookup (eq j) l ≡ Some w) (none refl) h in cc
  found_after (suc c) es k v j w none h = (elim (eq j k) as (λ b. eq j k ≡ b → ((eq j k ≡ true) × (v ≡ w)) ⊎ ((eq j k ≡ false) × (lookup (eq j) es ≡ Some w))) [
    | true ↦ λ is. let h' = rw is at h in inl (is, cc)
    | false ↦ λ is. let h' : lookup (eq j) (cond (length es == suc c) (take c es) es) ≡ Some w = rw is at h in inr (
      is,
      (elim (length es == suc c) as (λ b. lookup (eq j) (cond b (take c es) es) ≡ Some w → lookup (eq j) es ≡ Some w) [ true ↦ λ g. lookup-take (eq j) c es w g | false ↦ λ g. g ]) h',
    )
  ]) refl

  -- the flight of a number is known by its key
  flown_under : (ms : List (Answered K V)) (s : State K V) (n : ℕ) (k : K) → Told ms s → key_of s n ≡ Some k → lookup (λ m. m == n) (flights_of ms) ≡ Some k
  flown_under ms s n k t f =
      let e = Contains-lookup (λ m. m == n) s.flying k f in
      let same : e.0 ≡ n = eqb-true e.0 n e.2 in
      subst (λ (i : ℕ). lookup (λ m. m == i) (flights_of ms) ≡ Some k) same (t.known (e.0, k) e.1)

  told_land : (ms : List (Answered K V)) (s : State K V) (n : ℕ) (k : K) (v : V) → Told ms s → key_of s n ≡ Some k → IsSound eq (after_landing s n k v) → Told (answered (Land n v) Done ∷ ms) (after_landing s n k v)
  told_land ms s n k v t f sound =
      let flew : lookup (λ m. m == n) (flights_of ms) ≡ Some k = flown_under ms s n k t f in record {
        sound = sound;
        below = t.below;
        once = t.once;
        known = λ g c. t.known g (Contains-remove_entry (λ m. m == n) s.flying g c);
        ended = over ms s n t;
        landed_last = λ j w h. rw flew (elim (found_after s.capacity s.kept k v j w t.sound.none_kept h) [
          | inl new ↦ rw (new.0) (ap (λ (z : V). Some z) new.1)
          | inr old ↦ rw (old.0) (t.landed_last j w old.1)
        ]);
        flights = λ h j. let e = entry_of (λ m. m == n) s.flying k f in let m = count-remove_entry (λ m. m == n) (λ g. eq j g.1) s.flying (e.0, k) e.1 in
            let w = count-with_new (λ g. eq j g.0) s.capacity s.kept (k, v) h in let b = t.flights h j in omega arith;
      }

  -- of what a step answers: the reply and the state
  told_after : (ms : List (Answered K V)) (e : Event K V) (r : Reply V) (s : State K V) (p : Reply V × State K V) → Told (answered e p.0 ∷ ms) p.1 → Some p ≡ Some (r, s) → Told (answered e r ∷ ms) s
  told_after ms e r s p t h = let same : p ≡ (r, s) = cc in subst (λ (q : Reply V × State K V). Told (answered e q.0 ∷ ms) q.1) same t

  told_landing : (ms : List (Answered K V)) (b s : State K V) (n : ℕ) (v : V) (r : Reply V) → Told ms b → (o : Option K) → key_of b n ≡ o → option_map {U = Reply V × State K V} (λ k. (Done, after_landing b n k v)) o ≡ Some (r, s)
      → ((k : K) → key_of b n ≡ Some k → IsSound eq (after_landing b n k v)) → Told (answered (Land n v) r ∷ ms) s
  told_landing ms b s n v r t None f h sound = cc
  told_landing ms b s n v r t (Some k) f h sound = told_after ms (Land n v) r s (Done, after_landing b n k v) (told_land ms b n k v t f (sound k f)) h

  told_dropping : (ms : List (Answered K V)) (b s : State K V) (n : ℕ) (r : Reply V) → Told ms b → (o : Option K) → key_of b n ≡ o → option_map {U = Reply V × State K V} (λ (k : K). (Done, after_drop b n)) o ≡ Some (r, s)
      → ((k : K) → key_of b n ≡ Some k → IsSound eq (after_drop b n)) → Told (answered (Drop n) r ∷ ms) s
  told_dropping ms b s n r t None f h sound = cc
  told_dropping ms b s n r t (Some k) f h sound = told_after ms (Drop n) r s (Done, after_drop b n) (told_drop ms b n k t f (sound k f)) h

  told_step : (ms : List (Answered K V)) (b s : State K V) (e : Event K V) (r : Reply V) → Told ms b → step eq b e ≡ Some (r, s) → Told (answered e r ∷ ms) s
  told_step ms b s (Ask k) r t h =
      let answer = ask_step eq b k (lookup (eq k) b.kept) (is_flying eq b k) in
      told_after ms (Ask k) r s answer (told_ask ms b k t (lookup (eq k) b.kept) refl (is_flying eq b k) (sound_step eq laws b answer.1 (Ask k) answer.0 t.sound refl)) h
  told_step ms b s (Land n v) r t h =
      told_landing ms b s n v r t (key_of b n) refl h (λ k f. sound_step eq laws b (after_landing b n k v) (Land n v) Done t.sound (rw f refl))
  told_step ms b s (Drop n) r t h =
      told_dropping ms b s n r t (key_of b n) refl h (λ k f. sound_step eq laws b (after_drop b n) (Drop n) Done t.sound (rw f refl))

  told : (ms : List (Answered K V)) (s : State K V) → IsRun eq ms s → Told ms s
  told [] s run = told_start s run
  told (m ∷ ms) s run = told_step ms run.0 s m.event m.reply (told ms run.0 run.1) run.2

  pub sound_run : (ms : List (Answered K V)) (s : State K V) → IsRun eq ms s → IsSound eq s
  sound_run ms s run = (told ms s run).sound

  pub numbers_differ : (ms : List (Answered K V)) (s : State K V) → IsRun eq ms s → NumbersDiffer ms
  numbers_differ ms s run = distinct_from_once nat_eq nat_eq_equiv (keys_of (flights_of ms))
      (λ n. let once = (told ms s run).once n in let c = count-map (nat_eq n) (λ (f : ℕ × K). f.0) (flights_of ms) in let d = count-agree (λ (f : ℕ × K). nat_eq n f.0) (λ f. f.0 == n) (λ f. turned n f.0) (flights_of ms) in omega arith)

  pub flies_once : (ms : List (Answered K V)) (s : State K V) → IsRun eq ms s → FliesOnce eq ms s
  flies_once ms s run capacity none_dropped none_evicted k =
      let t = told ms s run in
      let flights = t.flights capacity k in
      let once = (counted eq laws s t.sound).once k in
      let c = count_by-is (λ (f : ℕ × K). eq k f.1) (flights_of ms) in
      omega arith

  -- the reply of what a step answers
  reply_is : (p : Reply V × State K V) (r : Reply V) (s : State K V) → Some p ≡ Some (r, s) → p.0 ≡ r
  reply_is p r s h = let same : p ≡ (r, s) = cc in ap (λ (q : Reply V × State K V). q.0) same

  here_from : (b : State K V) (k : K) (v : V) (o : Option V) (flying : Bool) → (ask_step eq b k o flying).0 ≡ Here v → o ≡ Some v
  here_from b k v (Some w) flying h = cc
  here_from b k v None true h = cc
  here_from b k v None false h = cc

  fly_from : (b : State K V) (k : K) (n : ℕ) (o : Option V) (flying : Bool) → (ask_step eq b k o flying).0 ≡ Fly n → flying ≡ false
  fly_from b k n (Some w) flying h = cc
  fly_from b k n None true h = cc
  fly_from b k n None false h = refl

  -- an ask of a run, as a step
  asked_in : (m : Answered K V) (b s : State K V) (k : K) (r : Reply V) → step eq b m.event ≡ Some (m.reply, s) → m.event ≡ Ask k → m.reply ≡ r → (ask_step eq b k (lookup (eq k) b.kept) (is_flying eq b k)).0 ≡ r
  asked_in m b s k r h asks is =
      reply_is (ask_step eq b k (lookup (eq k) b.kept) (is_flying eq b k)) m.reply s (subst (λ (e : Event K V). step eq b e ≡ Some (m.reply, s)) asks h) ∙ is

  pub last_is_here : (m : Answered K V) (ms : List (Answered K V)) (s : State K V) → IsRun eq (m ∷ ms) s → IsLastLanded eq ms m
  last_is_here m ms s run k v asks here =
      (told ms run.0 run.1).landed_last k v (here_from run.0 k v (lookup (eq k) run.0.kept) (is_flying eq run.0 k) (asked_in m run.0 s k (Here v) run.2 asks here))

  pub flies_alone : (m : Answered K V) (ms : List (Answered K V)) (s : State K V) → IsRun eq (m ∷ ms) s → IsOnlyFlight eq ms m
  flies_alone m ms s run k n f asks flew began same =
      let none = none_from_any (λ (g : ℕ × K). eq k g.1) run.0.flying (fly_from run.0 k n (lookup (eq k) run.0.kept) (is_flying eq run.0 k) (asked_in m run.0 s k (Fly n) run.2 asks flew)) in
      elim ((told ms run.0 run.1).ended f began) [
        | inl flying ↦ let one = one_from_member (λ (g : ℕ × K). eq k g.1) run.0.flying f flying same in absurd (omega arith)
        | inr over ↦ over
      ]
