-- What renders leave of a core that keeps nothing: each is under a flight, which lands, or at want of memory is dropped.
use Rattle.std.specs.Prelude.{◌≡◌, ◌≤◌, ◌+◌, ◌-◌, min, ℕ, [], ◌∷◌}
use Rattle.std.specs.Arc.{arc_value}
use Rattle.fx_core.specs.State.{State}
use Rattle.fx_core.specs.declared.flight.Flight.{Flight}
use Rattle.fx_eval.specs.declared.window.TheConstants.{MOST_ASKS}

module _ {K V : Type 0} where
  -- it keeps nothing, and nothing flies
  pub record IsIdle (core : State K V) : Type 0 where
    pub capacity : core.capacity ≡ 0
    pub flying : core.flying ≡ []

  -- it keeps nothing, and this alone flies
  pub record FliesAlone (core : State K V) (f : Flight K) : Type 0 where
    pub capacity : core.capacity ≡ 0
    pub kept : core.kept ≡ []
    pub flying : core.flying ≡ (f.ticket.number, arc_value f.key) ∷ []

  -- the core once its one flight has landed, or was dropped
  abbrev pub one_landed : State K V → State K V
  one_landed s = record s { flying = []; totals = record s.totals { landed = s.totals.landed + 1 } }

  abbrev pub one_dropped : State K V → State K V
  one_dropped s = record s { flying = []; totals = record s.totals { dropped = s.totals.dropped + 1 } }

  -- the core after so many flights that landed, and so many that were dropped
  abbrev pub after_flights : State K V → ℕ → ℕ → State K V
  after_flights s landed dropped =
      let t = s.totals in
      record s {
        next = s.next + (landed + dropped);
        totals = record t {
          asks = t.asks + (landed + dropped);
          flights = t.flights + (landed + dropped);
          landed = t.landed + landed;
          dropped = t.dropped + dropped;
        };
      }

  -- the core after so many renders, each of which had a flight that landed, as long as the core may be asked
  abbrev pub after_renders : State K V → ℕ → State K V
  after_renders s renders = after_flights s (min renders (MOST_ASKS - s.totals.asks)) 0

  -- flights were asked for, of which one at most was dropped, and the others landed
  pub record Drops (old new : State K V) : Type 0 where
    pub landed : ℕ
    pub dropped : ℕ
    pub few : dropped ≤ 1
    pub is : new ≡ after_flights old landed dropped
