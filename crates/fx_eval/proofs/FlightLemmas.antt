-- A core that keeps nothing, and the flights of renders.
use Rattle.std.proofs.Common.{◌≡◌, ◌≤◌, ◌<◌, ◌+◌, ◌-◌, ◌∙◌, min, ℕ, List, [], ◌∷◌, ◌++◌, length, Option, Some, None, Result, Ok, Err, refl, sym, ap, subst, arith, eq-eqb, Bool}
use Rattle.std.proofs.lemmas.List.{length-append}
use Rattle.std.specs.Result.{OnErr}
use Rattle.fx_core.specs.State.{State}
use Rattle.fx_core.specs.Answer.{reply_of}
use Rattle.fx_core.specs.Sound.{IsSound}
use Rattle.fx_core.specs.declared.flight.Answer.{Answer}
use Rattle.fx_core.specs.declared.flight.Answer.TheVariants as answer
use Rattle.fx_core.specs.declared.flight.Flight.{Flight}
use Rattle.fx_core.specs.declared.totals.Totals.{Totals}
use Rattle.fx_core.specs.Step.{Reply, step, Ask, Land, Drop, Fly, Done, after_flight}
use Rattle.fx_eval.specs.declared.window.TheConstants.{MOST_ASKS}
use Rattle.fx_eval.specs.Flights.{IsIdle, FliesAlone, Drops, one_landed, one_dropped, after_flights, after_renders}

same_totals : (s t : Totals) → s.asks ≡ t.asks → s.hits ≡ t.hits → s.busies ≡ t.busies → s.flights ≡ t.flights
    → s.landed ≡ t.landed → s.dropped ≡ t.dropped → s.evicted ≡ t.evicted → s ≡ t
same_totals s t a b c d e f g =
    λ i. record { asks = a i; hits = b i; busies = c i; flights = d i; landed = e i; dropped = f i; evicted = g i }

-- whether there is an error or not
pub on_err : {T E P : Type 0} (r : Result T E) → P → OnErr r P
on_err (Ok x) p = tt
on_err (Err e) p = p

module _ {K V : Type 0} where
  same_state : (s t : State K V) → s.scene ≡ t.scene → s.kept ≡ t.kept → s.flying ≡ t.flying → s.capacity ≡ t.capacity
      → s.next ≡ t.next → s.totals ≡ t.totals → s ≡ t
  same_state s t a b c d e f = λ i. record { scene = a i; kept = b i; flying = c i; capacity = d i; next = e i; totals = f i }

  -- ---- renders, one after another

  pub idle_after : (old new : State K V) (landed dropped : ℕ) → new ≡ after_flights old landed dropped → IsIdle old → IsIdle new
  idle_after old new landed dropped e idle =
      record {
        capacity = ap (λ (s : State K V). s.capacity) e ∙ idle.capacity;
        flying = ap (λ (s : State K V). s.flying) e ∙ idle.flying;
      }

  -- so many flights more
  flights_more : (s : State K V) (l d m e : ℕ)
      → after_flights (after_flights s l d) m e ≡ after_flights s (l + m) (d + e)
  flights_more s l d m e =
      same_state _ _ refl refl refl refl (omega arith)
      (same_totals _ _ (omega arith) refl refl (omega arith) (omega arith) (omega arith) refl)

  flights_none : (s : State K V) → s ≡ after_flights s 0 0
  flights_none s =
      same_state _ _ refl refl refl refl (omega arith)
      (same_totals _ _ (omega arith) refl refl (omega arith) (omega arith) (omega arith) refl)

  pub none_made : (s : State K V) → s ≡ after_renders s 0
  none_made s = flights_none s ∙ ap (λ (k : ℕ). after_flights s k 0) (omega arith)

  -- none is asked for any more
  pub none_asked : (s : State K V) (n : ℕ) → MOST_ASKS ≤ s.totals.asks → s ≡ after_renders s n
  none_asked s n full = flights_none s ∙ ap (λ (k : ℕ). after_flights s k 0) (omega arith)

  pub renders_more : (s t u : State K V) (m n : ℕ) → t ≡ after_renders s m → u ≡ after_renders t n → u ≡ after_renders s (m + n)
  renders_more s t u m n a b =
      let x = min m (MOST_ASKS - s.totals.asks) in
      let asks : t.totals.asks ≡ s.totals.asks + (x + 0) = ap (λ (q : State K V). q.totals.asks) a in
      let all : x + min n (MOST_ASKS - t.totals.asks) ≡ min (m + n) (MOST_ASKS - s.totals.asks) = omega (arith, asks) in
      b ∙ ap (λ (q : State K V). after_flights q (min n (MOST_ASKS - t.totals.asks)) 0) a
      ∙ flights_more s x 0 (min n (MOST_ASKS - t.totals.asks)) 0 ∙ ap (λ (k : ℕ). after_flights s k 0) all

  -- as many as there are items
  pub renders_begin : {X : Type 0} (s : State K V) (xs : List X) → xs ≡ [] → s ≡ after_renders s (length xs)
  renders_begin {X} s xs none = none_made s ∙ ap (λ (ys : List X). after_renders s (length ys)) (sym none)

  pub renders_push : {X : Type 0} (s t u : State K V) (xs ys : List X) (x : X) → t ≡ after_renders s (length xs)
      → u ≡ after_renders t 1 → ys ≡ xs ++ x ∷ [] → u ≡ after_renders s (length ys)
  renders_push {X} s t u xs ys x a b pushed =
      renders_more s t u (length xs) 1 a b
      ∙ ap (after_renders s) (sym (length-append xs (x ∷ [])) ∙ ap (λ (zs : List X). length zs) (sym pushed))

  pub renders_idle : (s t : State K V) (n : ℕ) → t ≡ after_renders s n → IsIdle s → IsIdle t
  renders_idle s t n a idle = idle_after s t _ 0 a idle

  -- ---- want of memory

  pub drops_none : (s : State K V) → Drops s s
  drops_none s = record { landed = 0; dropped = 0; few = omega arith; is = flights_none s }

  pub renders_drop : (s t u : State K V) (n : ℕ) → t ≡ after_renders s n → Drops t u → Drops s u
  renders_drop s t u n a b =
      let x = min n (MOST_ASKS - s.totals.asks) in
      record {
        landed = x + b.landed;
        dropped = b.dropped;
        few = b.few;
        is = b.is ∙ ap (λ (q : State K V). after_flights q b.landed b.dropped) a ∙ flights_more s x 0 b.landed b.dropped
            ∙ ap (after_flights s (x + b.landed)) (omega arith);
      }

  -- memory is wanting after all renders
  pub renders_fail : (s t : State K V) (n : ℕ) → t ≡ after_renders s n → Drops s t
  renders_fail s t n a = record { landed = min n (MOST_ASKS - s.totals.asks); dropped = 0; few = omega arith; is = a }

  pub drops_idle : (s t : State K V) → Drops s t → IsIdle s → IsIdle t
  drops_idle s t a idle = idle_after s t a.landed a.dropped a.is idle

  -- ---- one flight

  -- the state after a step
  abbrev after : Option (Reply V × State K V) → State K V → State K V
  after None s = s
  after (Some r) s = r.1

  module _ (eq : K → K → Bool) where
    -- it is asked for
    pub asked : (s t : State K V) (k : K) (n : ℕ) → IsIdle s → s.kept ≡ [] → step eq s (Ask k) ≡ Some (Fly n, t)
        → t ≡ after_flight s k
    asked s t k n idle none e =
        let f = idle.flying in
        sym (rw (none, f) at (ap (λ (o : Option (Reply V × State K V)). after o s) e))
        ∙ same_state _ (after_flight s k) refl (sym none) (sym (ap (λ (fs : List (ℕ × K)). fs ++ (s.next, k) ∷ []) f)) refl refl refl

    -- and it lands
    pub one_lands : (s t : State K V) (f : Flight K) (v : V) → FliesAlone s f
        → step eq s (Land f.ticket.number v) ≡ Some (Done, t) → t ≡ one_landed s
    one_lands s t f v alone e =
        let flying = alone.flying in
        let small = alone.capacity in
        let is = rw (flying, small, eq-eqb f.ticket.number f.ticket.number refl) at (ap (λ (o : Option (Reply V × State K V)). after o s) e) in
        sym is
        ∙ same_state _ (one_landed s) refl refl refl (sym small) refl (same_totals _ _ refl refl refl refl refl refl (omega arith))

    -- or is dropped
    pub one_drops : (s t : State K V) (f : Flight K) → FliesAlone s f
        → step eq s (Drop f.ticket.number) ≡ Some (Done, t) → t ≡ one_dropped s
    one_drops s t f alone e =
        let flying = alone.flying in
        sym (rw (flying, eq-eqb f.ticket.number f.ticket.number refl) at (ap (λ (o : Option (Reply V × State K V)). after o s) e))

  pub flight_lands : (s t u : State K V) (k : K) → IsIdle s → s.totals.asks < MOST_ASKS → t ≡ after_flight s k → u ≡ one_landed t
      → u ≡ after_renders s 1
  flight_lands s t u k idle room is e =
      let one : min 1 (MOST_ASKS - s.totals.asks) ≡ 1 = omega arith in
      e ∙ ap one_landed is
      ∙ same_state (one_landed (after_flight s k)) (after_flights s 1 0) refl refl (sym idle.flying) refl (omega arith)
      (same_totals _ _ (omega arith) refl refl (omega arith) (omega arith) (omega arith) refl)
      ∙ ap (λ (n : ℕ). after_flights s n 0) (sym one)

  pub flight_drops : (s t u : State K V) (k : K) → IsIdle s → t ≡ after_flight s k → u ≡ one_dropped t → Drops s u
  flight_drops s t u k idle is e =
      record {
        landed = 0;
        dropped = 1;
        few = omega arith;
        is = e ∙ ap one_dropped is
            ∙ same_state (one_dropped (after_flight s k)) (after_flights s 0 1) refl refl (sym idle.flying) refl (omega arith)
            (same_totals _ _ (omega arith) refl refl (omega arith) (omega arith) (omega arith) refl);
      }

  -- ---- an ask that was answered by a flight

  module _ {eq : K → K → Bool} (s t : State K V) (k : K) (a : Answer K V) (f : Flight K) (idle : IsIdle s) (sound : IsSound eq s)
      (step_is : step eq s (Ask k) ≡ Some (reply_of a, t)) (is : a ≡ answer.Fly f) where
    flown : t ≡ after_flight s k
    flown = asked eq s t k f.ticket.number idle (sound.none_kept idle.capacity)
        (subst (λ (b : Answer K V). step eq s (Ask k) ≡ Some (reply_of b, t)) is step_is)

    pub fly_lands : (u : State K V) → s.totals.asks < MOST_ASKS → u ≡ one_landed t → u ≡ after_renders s 1
    fly_lands u room e = flight_lands s t u k idle room flown e

    pub fly_drops : (u : State K V) → u ≡ one_dropped t → Drops s u
    fly_drops u e = flight_drops s t u k idle flown e
