-- What clauses see of a directory's seat, and what an answer says.
use Rattle.std.specs.Prelude.{◌≡◌, ℕ, ◌+◌, ◌-◌, ◌≤◌, ◌==◌, min, if◌then◌else◌, List, ◌∷◌, ◌++◌}
use Rattle.std.specs.Arc.{arc_value}
use Rattle.fx_core.specs.declared.flight.Answer.{Answer}
use Rattle.fx_core.specs.declared.flight.Answer.TheVariants as answer
use Rattle.fx_core.specs.declared.flight.Flight.{Flight}
use Rattle.fx_core.specs.declared.totals.Totals.{Totals}
use Rattle.fx_directory.specs.Rows.{DirRow}

-- how often the seat asked, how often each answer came, and how many flights it landed and dropped
pub record Made : Type 0 where
  pub asks : ℕ
  pub hits : ℕ
  pub busies : ℕ
  pub flights : ℕ
  pub landed : ℕ
  pub dropped : ℕ

-- aloft: the number and the key of each flight that was asked through the seat and neither landed nor dropped
pub record DirSeatState (N K : Type 0) : Type 0 where
  pub row : DirRow N
  pub parts : ℕ
  pub aloft : List (ℕ × K)
  pub made : Made

-- where the directory may keep nothing, nothing was found kept through the seat
abbrev pub FindsNone : {N K : Type 0} → DirSeatState N K → Type 0
FindsNone s = s.row.capacity ≡ 0 → s.made.hits ≡ 0

abbrev pub nothing_made : Made
nothing_made = record { asks = 0; hits = 0; busies = 0; flights = 0; landed = 0; dropped = 0 }

-- count by count
abbrev pub both_made : Made → Made → Made
both_made m n =
    record {
      asks = m.asks + n.asks;
      hits = m.hits + n.hits;
      busies = m.busies + n.busies;
      flights = m.flights + n.flights;
      landed = m.landed + n.landed;
      dropped = m.dropped + n.dropped;
    }

-- no count is above the bound
pub record AreAtMost (bound : ℕ) (m : Made) : Type 0 where
  pub asks : m.asks ≤ bound
  pub hits : m.hits ≤ bound
  pub busies : m.busies ≤ bound
  pub flights : m.flights ≤ bound
  pub landed : m.landed ≤ bound
  pub dropped : m.dropped ≤ bound

module _ {K V : Type 0} where
  -- the asks rise by 1, and so does the count of the answer
  abbrev pub after_ask : Made → Answer K V → Made
  after_ask m (answer.Here v) = record m { asks = m.asks + 1; hits = m.hits + 1 }
  after_ask m (answer.Fly f) = record m { asks = m.asks + 1; flights = m.flights + 1 }
  after_ask m answer.Busy = record m { asks = m.asks + 1; busies = m.busies + 1 }

  -- the value that is here
  abbrev pub IfHere : (V → Type 0) → Answer K V → Type 0
  IfHere P (answer.Here v) = P (arc_value v)
  IfHere P (answer.Fly f) = Unit {0}
  IfHere P answer.Busy = Unit {0}

  -- the number of the new flight
  abbrev pub IfFly : (ℕ → Type 0) → Answer K V → Type 0
  IfFly P (answer.Here v) = Unit {0}
  IfFly P (answer.Fly f) = P f.ticket.number
  IfFly P answer.Busy = Unit {0}

  abbrev pub IsNotHere : Answer K V → Type 0
  IsNotHere = IfHere (λ _. ⊥)

-- the flight left, wherever it stood, and the others stay in their order
abbrev pub LeavesAlone : {K : Type 0} → List (ℕ × K) → List (ℕ × K) → Flight K → Type 0
LeavesAlone {K} old new f =
    (before after : List (ℕ × K)) → old ≡ before ++ (f.ticket.number, arc_value f.key) ∷ after
    → new ≡ before ++ after

-- each ask had one answer, and each flight was landed or dropped
pub record AddsUp (m : Made) : Type 0 where
  pub asks : m.asks ≡ m.hits + m.busies + m.flights
  pub flights : m.flights ≡ m.landed + m.dropped

-- The counts of a core in which nothing flies, by what was done through its seats: what landed was kept up to the
-- capacity, and the rest was evicted. Where none may be kept, none was evicted
abbrev pub totals_of : ℕ → Made → Totals
totals_of capacity m =
    let evicted = if capacity == 0 then 0 else m.landed - min m.landed capacity in
    record {
      asks = m.asks;
      hits = m.hits;
      busies = m.busies;
      flights = m.flights;
      landed = m.landed;
      dropped = m.dropped;
      evicted = evicted;
    }
