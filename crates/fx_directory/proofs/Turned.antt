-- What a turn leaves to a seat.
use Rattle.std.proofs.Common.{◌≡◌, ℕ, ◌+◌, ◌-◌, List, length, get_or, Some, None, IfSome, Ok, Err, sym, ap, ◌∙◌, subst, arith}
use Rattle.std.specs.declared.result.Result.{Result}
use Rattle.std.specs.Result.{OnErr}
use Rattle.fx_core.specs.State.{State}
use Rattle.fx_turn.specs.Tallies.{tally_after}
use Rattle.fx_turn.specs.Claims.{OnlyOwnLeft, claims_after}
use Rattle.fx_turn.specs.Seats.{SeatState, Agrees, after_turn}
use Rattle.fx_turn.proofs.CallerLemmas.{claims_after-same, one_turn}
use Rattle.fx_turn.proofs.Tallying.{six_is}
use Rattle.fx_directory.specs.declared.home.Home.{Home}
use Rattle.fx_directory.specs.Sitting.{counts_in, flights_in}

-- a value that is given back as it was leaves the tally
tally_same : (t mine : List ℕ) → length mine ≡ 6 → tally_after t t mine ≡ mine
tally_same t mine long = sym (six_is mine (λ i. get_or mine i 0 + (get_or t i 0 - get_or t i 0)) long (λ i within. omega arith))

module _ {N K V : Type 0} where
  -- a turn that changes nothing
  pub untouched : (s u : SeatState (Home N) (State K V) K) (v : State K V) → length s.tally ≡ 6 → s.turn ≡ None → Agrees counts_in flights_in s v → u ≡ after_turn counts_in flights_in v v s → u ≡ s
  untouched s u v long free agrees after =
      let tally = tally_same (counts_in v) s.tally long in
      let claims = claims_after-same (flights_in v) s.claims agrees.2 agrees.1 in
      after ∙ (λ i. record s { turn = sym free i; tally = tally i; claims = claims i })

  -- a call that changes nothing where it answers an error
  pub unchanged : {A E : Type 0} (r : Result A E) (s u : SeatState (Home N) (State K V) K) (v : State K V) (core : State K V) → length s.tally ≡ 6 → s.turn ≡ None → Agrees counts_in flights_in s v
      → u ≡ after_turn counts_in flights_in v core s → OnErr r (core ≡ v) → OnErr r (u ≡ s)
  unchanged (Ok a) s u v core long free agrees after same = tt
  unchanged (Err e) s u v core long free agrees after same = untouched s u v long free agrees (after ∙ ap (λ c. after_turn counts_in flights_in v c s) same)

  -- The seat s is t while it has the turn, and u after. The core was lent as it was taken
  module _ (s t : SeatState (Home N) (State K V) K) (v lent : State K V) (took : t ≡ record s { turn = Some (0, v) }) (same : lent ≡ v) where
    pub own_left_taken : (now : List (ℕ × K)) → OnlyOwnLeft s.claims (flights_in lent) now → IfSome t.turn (λ x. OnlyOwnLeft t.claims (flights_in x.1) now)
    own_left_taken now left =
        let h : OnlyOwnLeft s.claims (flights_in v) now = subst (λ z. OnlyOwnLeft s.claims (flights_in z) now) same left in
        subst (λ (z : SeatState (Home N) (State K V) K). IfSome z.turn (λ x. OnlyOwnLeft z.claims (flights_in x.1) now)) (sym took) h

    pub turned : (u : SeatState (Home N) (State K V) K) (now : State K V) → IfSome t.turn (λ x. u ≡ after_turn counts_in flights_in x.1 now t) → u ≡ after_turn counts_in flights_in lent now s
    turned u now gave = one_turn s t u 0 v took counts_in flights_in now gave ∙ ap (λ z. after_turn counts_in flights_in z now s) (sym same)

    pub claims_turned : (u : SeatState (Home N) (State K V) K) (now : State K V) → IfSome t.turn (λ x. u ≡ after_turn counts_in flights_in x.1 now t) → u.claims ≡ claims_after (flights_in lent) (flights_in now) s.claims
    claims_turned u now gave = ap (λ (z : SeatState (Home N) (State K V) K). z.claims) (turned u now gave)
