-- For callers: the claims of a value and of its seats, and a turn from its take to its give.
use Rattle.std.proofs.Common.{◌≡◌, ℕ, ◌+◌, ◌≤◌, ◌≢◌, eqb, ◌⊎◌, List, [], ◌∷◌, ◌++◌, Option, Some, None, IfSome, cond, Bool, sym, refl, ap, ◌∙◌, subst, inl, inr, ⊎_elim, arith, eq-eqb, ne_eqb}
use Rattle.std.proofs.lemmas.List.{append-nil}
use Rattle.std.proofs.lemmas.List.Sums.{sum_by-cons, sum_by-append}
use Rattle.std.specs.Prelude.{option_map, is_none, filter, not}
use Rattle.std.specs.List.{cons_option}
use mathlib.Core.Logic.{dite}
use native.Mathlib.Decide.{ℕ_discrete}
use Rattle.fx_turn.specs.Claims.{times, mark_of, NumbersDiffer, AreAmong, still, gained, claims_after, SameClaims}
use Rattle.fx_turn.specs.Seats.{SeatState, after_turn}
use Rattle.fx_turn.proofs.Sittings.{if_some}

module _ {M : Type 0} where
  pub times-here : (n : ℕ) (c : ℕ × M) (cs : List (ℕ × M)) → c.0 ≡ n → times n (c ∷ cs) ≡ 1 + times n cs
  times-here n c cs e = sum_by-cons (λ (x : ℕ × M). cond (eqb x.0 n) 1 0) c cs ∙ ap (λ (b : Bool). cond b 1 0 + times n cs) (eq-eqb c.0 n e)

  pub times-else : (n : ℕ) (c : ℕ × M) (cs : List (ℕ × M)) → c.0 ≢ n → times n (c ∷ cs) ≡ times n cs
  times-else n c cs ne = let e : times n (c ∷ cs) ≡ 0 + times n cs = sum_by-cons (λ (x : ℕ × M). cond (eqb x.0 n) 1 0) c cs ∙ ap (λ (b : Bool). cond b 1 0 + times n cs) (ne_eqb c.0 n ne) in omega arith

  pub times-append : (n : ℕ) (xs ys : List (ℕ × M)) → times n (xs ++ ys) ≡ times n xs + times n ys
  times-append n xs ys = sum_by-append (λ (x : ℕ × M). cond (eqb x.0 n) 1 0) xs ys

  pub mark-here : (n : ℕ) (c : ℕ × M) (cs : List (ℕ × M)) → c.0 ≡ n → mark_of n (c ∷ cs) ≡ Some c.1
  mark-here n c cs e = ap (λ (b : Bool). cond b (Some c.1) (mark_of n cs)) (eq-eqb c.0 n e)

  pub mark-else : (n : ℕ) (c : ℕ × M) (cs : List (ℕ × M)) → c.0 ≢ n → mark_of n (c ∷ cs) ≡ mark_of n cs
  mark-else n c cs ne = ap (λ (b : Bool). cond b (Some c.1) (mark_of n cs)) (ne_eqb c.0 n ne)

  pub marked_once : (n : ℕ) (m : M) (cs : List (ℕ × M)) → mark_of n cs ≡ Some m → 1 ≤ times n cs
  marked_once n m [] e = cc
  marked_once n m (c ∷ cs) e = dite (ℕ_discrete c.0 n)
      (λ is. omega (arith, times-here n c cs is))
      (λ ne. let h = marked_once n m cs (sym (mark-else n c cs ne) ∙ e) in omega (arith, times-else n c cs ne))

  pub unmarked : (n : ℕ) (cs : List (ℕ × M)) → mark_of n cs ≡ None → times n cs ≡ 0
  unmarked n [] e = refl
  unmarked n (c ∷ cs) e = dite (ℕ_discrete c.0 n)
      (λ is. let h = mark-here n c cs is in cc)
      (λ ne. times-else n c cs ne ∙ unmarked n cs (sym (mark-else n c cs ne) ∙ e))

  -- a number that stands nowhere has no mark
  pub none_marked : (n : ℕ) (cs : List (ℕ × M)) → times n cs ≡ 0 → mark_of n cs ≡ None
  none_marked n cs none = elim (mark_of n cs) as (λ o. mark_of n cs ≡ o → o ≡ None) [
    | None ↦ λ e. refl
    | Some m ↦ λ e. let h = marked_once n m cs e in absurd (omega arith)
  ] refl

  pub mark_in-append : (n : ℕ) (m : M) (xs ys : List (ℕ × M)) → mark_of n (xs ++ ys) ≡ Some m → (mark_of n xs ≡ Some m) ⊎ (mark_of n ys ≡ Some m)
  mark_in-append n m [] ys e = inr e
  mark_in-append n m (c ∷ xs) ys e = dite (ℕ_discrete c.0 n)
      (λ is. inl (mark-here n c xs is ∙ (sym (mark-here n c (xs ++ ys) is) ∙ e)))
      (λ ne. ⊎_elim (λ h. inl (mark-else n c xs ne ∙ h)) (λ h. inr h) (mark_in-append n m xs ys (sym (mark-else n c (xs ++ ys) ne) ∙ e)))

  -- a mark among the first stays one
  pub mark-append : (n : ℕ) (m : M) (xs ys : List (ℕ × M)) → mark_of n xs ≡ Some m → mark_of n (xs ++ ys) ≡ Some m
  mark-append n m [] ys e = cc
  mark-append n m (c ∷ xs) ys e = dite (ℕ_discrete c.0 n)
      (λ is. mark-here n c (xs ++ ys) is ∙ (sym (mark-here n c xs is) ∙ e))
      (λ ne. mark-else n c (xs ++ ys) ne ∙ mark-append n m xs ys (sym (mark-else n c xs ne) ∙ e))

  -- a seat's own claims
  pub still-none : (now : List (ℕ × M)) (c : ℕ × M) (cs : List (ℕ × M)) → mark_of c.0 now ≡ None → still now (c ∷ cs) ≡ still now cs
  still-none now c cs e = ap (λ (o : Option M). cons_option (option_map (λ m. (c.0, m)) o) (still now cs)) e

  pub still-some : (now : List (ℕ × M)) (c : ℕ × M) (cs : List (ℕ × M)) (m : M) → mark_of c.0 now ≡ Some m → still now (c ∷ cs) ≡ (c.0, m) ∷ still now cs
  still-some now c cs m e = ap (λ (o : Option M). cons_option (option_map (λ m. (c.0, m)) o) (still now cs)) e

  -- the claims that a value gained
  pub gained-none : (before : List (ℕ × M)) (c : ℕ × M) (cs : List (ℕ × M)) → mark_of c.0 before ≡ None → gained before (c ∷ cs) ≡ c ∷ gained before cs
  gained-none before c cs e = ap (λ (o : Option M). cond (is_none o) (c ∷ gained before cs) (gained before cs)) e

  pub gained-some : (before : List (ℕ × M)) (c : ℕ × M) (cs : List (ℕ × M)) (m : M) → mark_of c.0 before ≡ Some m → gained before (c ∷ cs) ≡ gained before cs
  gained-some before c cs m e = ap (λ (o : Option M). cond (is_none o) (c ∷ gained before cs) (gained before cs)) e

  tail_differs : (c : ℕ × M) (cs : List (ℕ × M)) → NumbersDiffer (c ∷ cs) → NumbersDiffer cs
  tail_differs c cs differ n = dite (ℕ_discrete c.0 n)
      (λ is. let h = differ n in omega (arith, times-here n c cs is))
      (λ ne. let h = differ n in omega (arith, times-else n c cs ne))

  tail_among : (c : ℕ × M) (cs now : List (ℕ × M)) → NumbersDiffer (c ∷ cs) → AreAmong (c ∷ cs) now → AreAmong cs now
  tail_among c cs now differ among n m e = dite (ℕ_discrete c.0 n)
      (λ is. let h = differ n in let a = marked_once n m cs e in absurd (omega (arith, times-here n c cs is)))
      (λ ne. among n m (mark-else n c cs ne ∙ e))

  -- where all of a seat's claims stay, it has them as they were
  pub still_all : (now mine : List (ℕ × M)) → NumbersDiffer mine → AreAmong mine now → still now mine ≡ mine
  still_all now [] differ among = refl
  still_all now (c ∷ cs) differ among = still-some now c cs c.1 (among c.0 c.1 (mark-here c.0 c cs refl)) ∙ ap (λ l. c ∷ l) (still_all now cs (tail_differs c cs differ) (tail_among c cs now differ among))

  gained_of_known : (before now : List (ℕ × M)) → ((n : ℕ) → mark_of n before ≡ None → times n now ≡ 0) → gained before now ≡ []
  gained_of_known before [] known = refl
  gained_of_known before (c ∷ cs) known =
      elim (mark_of c.0 before) as (λ o. mark_of c.0 before ≡ o → gained before (c ∷ cs) ≡ []) [
        | None ↦ λ e. let a = known c.0 e in let b = times-here c.0 c cs refl in absurd (omega arith)
        | Some m ↦ λ e. gained-some before c cs m e ∙ gained_of_known before cs (λ n none_there. let a = known n none_there in dite (ℕ_discrete c.0 n) (λ is. omega (arith, times-here n c cs is)) (λ ne. omega (arith, times-else n c cs ne)))
      ] refl

  gained-append : (before xs ys : List (ℕ × M)) → gained before (xs ++ ys) ≡ gained before xs ++ gained before ys
  gained-append before [] ys = refl
  gained-append before (c ∷ xs) ys =
      elim (mark_of c.0 before) as (λ o. mark_of c.0 before ≡ o → gained before (c ∷ (xs ++ ys)) ≡ gained before (c ∷ xs) ++ gained before ys) [
        | None ↦ λ e. gained-none before c (xs ++ ys) e ∙ (ap (λ l. c ∷ l) (gained-append before xs ys) ∙ ap (λ l. l ++ gained before ys) (sym (gained-none before c xs e)))
        | Some m ↦ λ e. gained-some before c (xs ++ ys) m e ∙ (gained-append before xs ys ∙ ap (λ l. l ++ gained before ys) (sym (gained-some before c xs m e)))
      ] refl

  -- a turn that leaves the value's claims leaves the seat's
  pub claims_after-same : (now mine : List (ℕ × M)) → NumbersDiffer mine → AreAmong mine now → claims_after now now mine ≡ mine
  claims_after-same now mine differ among = ap (λ l. l ++ gained now now) (still_all now mine differ among) ∙ (ap (λ l. mine ++ l) (gained_of_known now now (λ n. unmarked n now)) ∙ append-nil mine)

  -- one more claim of the value is one more of the seat
  pub claims_after-more : (before mine : List (ℕ × M)) (c : ℕ × M) → NumbersDiffer mine → AreAmong mine before → mark_of c.0 before ≡ None → claims_after before (before ++ c ∷ []) mine ≡ mine ++ c ∷ []
  claims_after-more before mine c differ among new =
      ap (λ l. l ++ gained before (before ++ c ∷ [])) (still_all (before ++ c ∷ []) mine differ (λ n m e. mark-append n m before (c ∷ []) (among n m e)))
      ∙ ap (λ l. mine ++ l) (gained-append before before (c ∷ []) ∙ (ap (λ l. l ++ gained before (c ∷ [])) (gained_of_known before before (λ n. unmarked n before)) ∙ gained-none before c [] new))

  -- one claim less of the value, which was the seat's, is one less of the seat
  pub claims_after-less : (before now mine : List (ℕ × M)) (n : ℕ) → NumbersDiffer mine → AreAmong mine before → mark_of n now ≡ None → ((k : ℕ) → k ≢ n → mark_of k now ≡ mark_of k before)
      → claims_after before now mine ≡ filter (λ c. not (eqb c.0 n)) mine
  claims_after-less before now mine n differ among gone others =
      ap (λ l. l ++ gained before now) (still_others mine differ among)
      ∙ (ap (λ l. filter (λ c. not (eqb c.0 n)) mine ++ l) (gained_of_known before now (λ k none_there. dite (ℕ_discrete k n) (λ is. unmarked k now (ap (λ z. mark_of z now) is ∙ gone)) (λ ne. unmarked k now (others k ne ∙ none_there)))) ∙ append-nil _)
    where
      still_others : (mine : List (ℕ × M)) → NumbersDiffer mine → AreAmong mine before → still now mine ≡ filter (λ c. not (eqb c.0 n)) mine
      still_others [] differ among = refl
      still_others (c ∷ cs) differ among = let rest = still_others cs (tail_differs c cs differ) (tail_among c cs before differ among) in dite (ℕ_discrete c.0 n)
          (λ is. still-none now c cs (ap (λ z. mark_of z now) is ∙ gone) ∙ (rest ∙ ap (λ (b : Bool). cond (not b) (c ∷ filter (λ c. not (eqb c.0 n)) cs) (filter (λ c. not (eqb c.0 n)) cs)) (sym (eq-eqb c.0 n is))))
          (λ ne. still-some now c cs c.1 (others c.0 ne ∙ among c.0 c.1 (mark-here c.0 c cs refl)) ∙ (ap (λ l. c ∷ l) rest ∙ ap (λ (b : Bool). cond (not b) (c ∷ filter (λ c. not (eqb c.0 n)) cs) (filter (λ c. not (eqb c.0 n)) cs)) (sym (ne_eqb c.0 n ne))))

  -- no claims are no claims
  pub same_as_none : (these : List (ℕ × M)) → SameClaims these [] → these ≡ []
  same_as_none [] same = refl
  same_as_none (c ∷ cs) same = let a = same.counts c.0 in absurd (omega (arith, times-here c.0 c cs refl))

-- A turn from its take to its give. The seat s is t while it has the turn, and u after
module _ {N V M : Type 0} (s t u : SeatState N V M) (slot : ℕ) (before : V) (took : t ≡ record s { turn = Some (slot, before) }) where
  pub while_taken : (P : ℕ × V → Type 0) → P (slot, before) → IfSome t.turn P
  while_taken P h = subst (λ (o : Option (ℕ × V)). IfSome o P) (sym (ap (λ z. z.turn) took)) h

  pub one_turn : (tally : V → List ℕ) (claims : V → List (ℕ × M)) (now : V) → IfSome t.turn (λ x. u ≡ after_turn tally claims x.1 now t) → u ≡ after_turn tally claims before now s
  one_turn tally claims now gave = if_some t.turn (λ x. u ≡ after_turn tally claims x.1 now t) (slot, before) gave (ap (λ z. z.turn) took) ∙ ap (after_turn tally claims before now) took
