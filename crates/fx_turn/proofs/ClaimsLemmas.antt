-- What a turn leaves of the claims of a seat.
use Rattle.std.proofs.Common.{◌≡◌, ℕ, ◌+◌, ◌≤◌, List, [], ◌∷◌, Some, None, sym, refl, ap, ◌∙◌, ⊎_elim, arith}
use mathlib.Core.Logic.{dite}
use native.Mathlib.Decide.{ℕ_discrete}
use Rattle.fx_turn.specs.Claims.{times, mark_of, AreAmong, OnlyOwnLeft, still, gained, claims_after, SameClaims}
use Rattle.fx_turn.proofs.CallerLemmas.{times-here, times-else, times-append, mark-here, mark-else, marked_once, unmarked, mark_in-append, still-none, still-some, gained-none, gained-some}

module _ {M : Type 0} where
  pub times-still_there : (n : ℕ) (a : M) (now mine : List (ℕ × M)) → mark_of n now ≡ Some a → times n (still now mine) ≡ times n mine
  times-still_there n a now [] e = refl
  times-still_there n a now (c ∷ cs) e = let h = times-still_there n a now cs e in dite (ℕ_discrete c.0 n)
      (λ is. let at : mark_of c.0 now ≡ Some a = ap (λ k. mark_of k now) is ∙ e in ap (times n) (still-some now c cs a at) ∙ (times-here n (c.0, a) (still now cs) is ∙ (ap (λ k. 1 + k) h ∙ sym (times-here n c cs is))))
      (λ ne. elim (mark_of c.0 now) as (λ o. mark_of c.0 now ≡ o → times n (still now (c ∷ cs)) ≡ times n (c ∷ cs)) [
        | None ↦ λ at. ap (times n) (still-none now c cs at) ∙ (h ∙ sym (times-else n c cs ne))
        | Some b ↦ λ at. ap (times n) (still-some now c cs b at) ∙ (times-else n (c.0, b) (still now cs) ne ∙ (h ∙ sym (times-else n c cs ne)))
      ] refl)

  pub times-still_gone : (n : ℕ) (now mine : List (ℕ × M)) → mark_of n now ≡ None → times n (still now mine) ≡ 0
  times-still_gone n now [] e = refl
  times-still_gone n now (c ∷ cs) e = let h = times-still_gone n now cs e in dite (ℕ_discrete c.0 n)
      (λ is. let at : mark_of c.0 now ≡ None = ap (λ k. mark_of k now) is ∙ e in ap (times n) (still-none now c cs at) ∙ h)
      (λ ne. elim (mark_of c.0 now) as (λ o. mark_of c.0 now ≡ o → times n (still now (c ∷ cs)) ≡ 0) [
        | None ↦ λ at. ap (times n) (still-none now c cs at) ∙ h
        | Some b ↦ λ at. ap (times n) (still-some now c cs b at) ∙ (times-else n (c.0, b) (still now cs) ne ∙ h)
      ] refl)

  pub mark_in-still : (n : ℕ) (m : M) (now mine : List (ℕ × M)) → mark_of n (still now mine) ≡ Some m → mark_of n now ≡ Some m
  mark_in-still n m now [] e = cc
  mark_in-still n m now (c ∷ cs) e =
      elim (mark_of c.0 now) as (λ o. mark_of c.0 now ≡ o → mark_of n now ≡ Some m) [
        | None ↦ λ at. mark_in-still n m now cs (sym (ap (mark_of n) (still-none now c cs at)) ∙ e)
        | Some b ↦ λ at. let e' : mark_of n ((c.0, b) ∷ still now cs) ≡ Some m = sym (ap (mark_of n) (still-some now c cs b at)) ∙ e in dite (ℕ_discrete c.0 n)
            (λ is. ap (λ k. mark_of k now) (sym is) ∙ (at ∙ (sym (mark-here n (c.0, b) (still now cs) is) ∙ e')))
            (λ ne. mark_in-still n m now cs (sym (mark-else n (c.0, b) (still now cs) ne) ∙ e'))
      ] refl

  pub times-gained_old : (n : ℕ) (a : M) (before now : List (ℕ × M)) → mark_of n before ≡ Some a → times n (gained before now) ≡ 0
  times-gained_old n a before [] e = refl
  times-gained_old n a before (c ∷ cs) e = let h = times-gained_old n a before cs e in dite (ℕ_discrete c.0 n)
      (λ is. let at : mark_of c.0 before ≡ Some a = ap (λ k. mark_of k before) is ∙ e in ap (times n) (gained-some before c cs a at) ∙ h)
      (λ ne. elim (mark_of c.0 before) as (λ o. mark_of c.0 before ≡ o → times n (gained before (c ∷ cs)) ≡ 0) [
        | None ↦ λ at. ap (times n) (gained-none before c cs at) ∙ (times-else n c (gained before cs) ne ∙ h)
        | Some b ↦ λ at. ap (times n) (gained-some before c cs b at) ∙ h
      ] refl)

  pub times-gained_new : (n : ℕ) (before now : List (ℕ × M)) → mark_of n before ≡ None → times n (gained before now) ≡ times n now
  times-gained_new n before [] e = refl
  times-gained_new n before (c ∷ cs) e = let h = times-gained_new n before cs e in dite (ℕ_discrete c.0 n)
      (λ is. let at : mark_of c.0 before ≡ None = ap (λ k. mark_of k before) is ∙ e in ap (times n) (gained-none before c cs at) ∙ (times-here n c (gained before cs) is ∙ (ap (λ k. 1 + k) h ∙ sym (times-here n c cs is))))
      (λ ne. elim (mark_of c.0 before) as (λ o. mark_of c.0 before ≡ o → times n (gained before (c ∷ cs)) ≡ times n (c ∷ cs)) [
        | None ↦ λ at. ap (times n) (gained-none before c cs at) ∙ (times-else n c (gained before cs) ne ∙ (h ∙ sym (times-else n c cs ne)))
        | Some b ↦ λ at. ap (times n) (gained-some before c cs b at) ∙ (h ∙ sym (times-else n c cs ne))
      ] refl)

  -- a number is gained with all that the value has of it
  pub mark_in-gained : (n : ℕ) (m : M) (before now : List (ℕ × M)) → mark_of n (gained before now) ≡ Some m → mark_of n now ≡ Some m
  mark_in-gained n m before [] e = cc
  mark_in-gained n m before (c ∷ cs) e =
      elim (mark_of c.0 before) as (λ o. mark_of c.0 before ≡ o → mark_of n (c ∷ cs) ≡ Some m) [
        | None ↦ λ at. let e' : mark_of n (c ∷ gained before cs) ≡ Some m = sym (ap (mark_of n) (gained-none before c cs at)) ∙ e in dite (ℕ_discrete c.0 n)
            (λ is. mark-here n c cs is ∙ (sym (mark-here n c (gained before cs) is) ∙ e'))
            (λ ne. mark-else n c cs ne ∙ mark_in-gained n m before cs (sym (mark-else n c (gained before cs) ne) ∙ e'))
        | Some b ↦ λ at. let e' : mark_of n (gained before cs) ≡ Some m = sym (ap (mark_of n) (gained-some before c cs b at)) ∙ e in dite (ℕ_discrete c.0 n)
            (λ is. let old = times-gained_old n b before cs (ap (λ k. mark_of k before) (sym is) ∙ at) in let some_there = marked_once n m (gained before cs) e' in absurd (omega arith))
            (λ ne. mark-else n c cs ne ∙ mark_in-gained n m before cs e')
      ] refl

  -- what a seat has after a turn is in the value
  pub after_among : (before now mine : List (ℕ × M)) → AreAmong (claims_after before now mine) now
  after_among before now mine n m e = ⊎_elim (λ h. mark_in-still n m now mine h) (λ h. mark_in-gained n m before now h) (mark_in-append n m (still now mine) (gained before now) e)

  -- a turn changes a seat's claims as it changes the value's
  pub times-claims_after : (n : ℕ) (before now mine : List (ℕ × M)) → times n before ≤ 1 → times n now ≤ 1 → times n mine ≤ times n before → OnlyOwnLeft mine before now
      → times n now + times n mine ≡ times n before + times n (claims_after before now mine)
  times-claims_after n before now mine one_before one_now own left =
      let sum = times-append n (still now mine) (gained before now) in
      let G : Type 0 = times n now + times n mine ≡ times n before + times n (claims_after before now mine) in
      elim (mark_of n now) as (λ o. mark_of n now ≡ o → G) [
        | None ↦ λ gone. elim (mark_of n before) as (λ o. mark_of n before ≡ o → G) [
          | None ↦ λ not_old. omega (arith, unmarked n now gone, unmarked n before not_old, times-still_gone n now mine gone, times-gained_new n before now not_old)
          | Some b ↦ λ old. let own_then : 1 ≤ times n mine = ⊎_elim (λ h. cc) (λ h. marked_once n b mine h) (left n b old) in
              omega (arith, unmarked n now gone, times-still_gone n now mine gone, times-gained_old n b before now old)
        ] refl
        | Some a ↦ λ stays. elim (mark_of n before) as (λ o. mark_of n before ≡ o → G) [
          | None ↦ λ not_old. omega (arith, unmarked n before not_old, times-still_there n a now mine stays, times-gained_new n before now not_old)
          | Some b ↦ λ old. omega (arith, marked_once n a now stays, marked_once n b before old, times-still_there n a now mine stays, times-gained_old n b before now old)
        ] refl
      ] refl

  -- where the first has each claim of the second, and no more of any number, they have the same
  pub same_claims : (these those : List (ℕ × M)) → AreAmong those these → ((n : ℕ) → times n these ≡ times n those) → SameClaims these those
  same_claims these those among counts = record {
    marks = λ n. elim (mark_of n those) as (λ o. mark_of n those ≡ o → mark_of n these ≡ o) [
      | Some m ↦ λ e. among n m e
      | None ↦ λ e. elim (mark_of n these) as (λ o. mark_of n these ≡ o → o ≡ None) [
        | None ↦ λ f. refl
        | Some m ↦ λ f. let a = marked_once n m these f in let b = unmarked n those e in let c = counts n in absurd (omega arith)
      ] refl
    ] refl;
    counts = counts;
  }
