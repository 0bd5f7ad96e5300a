-- A flight among those that stand.
use Rattle.std.specs.Prelude.{◌≡◌, ℕ, List, [], ◌∷◌, ◌++◌, Contains}
use Rattle.std.specs.Arc.{arc_value}
use Rattle.fx_core.specs.declared.flight.Flight.{Flight}

module _ {K : Type 0} where
  -- its number flies for its key
  abbrev pub Stands : List (ℕ × K) → Flight K → Type 0
  Stands flying f = Contains flying (f.ticket.number, arc_value f.key)

  -- it left, and the others stay in their order
  abbrev pub Leaves : List (ℕ × K) → List (ℕ × K) → Flight K → Type 0
  Leaves old new f =
      (before : List (ℕ × K)) × (after : List (ℕ × K))
      × (old ≡ before ++ (f.ticket.number, arc_value f.key) ∷ after) × (new ≡ before ++ after)

  -- where it began last, the others stay as they were
  abbrev pub LeavesLast : List (ℕ × K) → List (ℕ × K) → Flight K → Type 0
  LeavesLast old new f =
      (others : List (ℕ × K)) → old ≡ others ++ (f.ticket.number, arc_value f.key) ∷ [] → new ≡ others
