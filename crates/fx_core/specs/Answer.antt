-- What an answer to an ask hands out, and what it leaves.
use Rattle.std.specs.Prelude.{◌≡◌, ℕ, ◌+◌, Bool, true, false, List, [], ◌∷◌, ◌++◌, Contains, ◌⊎◌}
use Rattle.std.specs.Arc.{arc_value}
use Rattle.fx_core.specs.declared.flight.Answer.{Answer}
use Rattle.fx_core.specs.declared.flight.Answer.TheVariants as answer
use Rattle.fx_core.specs.declared.totals.Totals.{Totals}
use Rattle.fx_core.specs.Step.{Reply, Here, Fly, Busy}

module _ {K V : Type 0} where
  abbrev pub reply_of : Answer K V → Reply V
  reply_of (answer.Here v) = Here (arc_value v)
  reply_of (answer.Fly f) = Fly f.ticket.number
  reply_of answer.Busy = Busy

  -- the asks rise by 1, and so does the count of the answer
  abbrev pub counted : Totals → Answer K V → Totals
  counted t (answer.Here v) = record t { asks = t.asks + 1; hits = t.hits + 1 }
  counted t (answer.Fly f) = record t { asks = t.asks + 1; flights = t.flights + 1 }
  counted t answer.Busy = record t { asks = t.asks + 1; busies = t.busies + 1 }

  -- a value was kept under a key that is equal to the one asked for
  abbrev pub IsKeptFor : (K → K → Bool) → List (K × V) → K → Answer K V → Type 0
  IsKeptFor eq kept k (answer.Here v) = (j : K) × Contains kept (j, arc_value v) × (eq k j ≡ true)
  IsKeptFor eq kept k (answer.Fly f) = Unit {0}
  IsKeptFor eq kept k answer.Busy = Unit {0}

  -- a flight is of the key asked for and of the core's scene, and isn't stamped
  abbrev pub IsFreshFor : ℕ → K → Answer K V → Type 0
  IsFreshFor scene k (answer.Here v) = Unit {0}
  IsFreshFor scene k (answer.Fly f) = (arc_value f.key ≡ k) × (f.ticket.scene ≡ scene) × (f.ticket.stamped ≡ false)
  IsFreshFor scene k answer.Busy = Unit {0}

  -- a flight that is handed out joins those that stand
  abbrev pub Joins : List (ℕ × K) → List (ℕ × K) → Answer K V → Type 0
  Joins old new (answer.Here v) = new ≡ old
  Joins old new (answer.Fly f) = new ≡ old ++ (f.ticket.number, arc_value f.key) ∷ []
  Joins old new answer.Busy = new ≡ old

  -- every entry was there before
  abbrev pub KeepsNoMore : List (K × V) → List (K × V) → Type 0
  KeepsNoMore old new = (e : K × V) → Contains new e → Contains old e

  -- every entry was there before, or is the one added
  abbrev pub KeepsAtMost : List (K × V) → K × V → List (K × V) → Type 0
  KeepsAtMost old added new = (e : K × V) → Contains new e → Contains old e ⊎ (e ≡ added)
