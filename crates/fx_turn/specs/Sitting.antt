-- How a row and its seats show themselves.
use Rattle.std.specs.Prelude.{◌≡◌, ℕ, ◌<◌, ◌∷◌, length, Option, Some}
use Rattle.atomic_table.specs.Table.{Me}
use Rattle.atomic_table.specs.Seated.{TableId}
use Rattle.fx_turn.specs.declared.rule.View.{View}
use Rattle.fx_turn.specs.Seats.{Row, SeatState}
use Rattle.fx_turn.specs.Turning.{seen_turn, turn_of, slots_of}

abbrev pub row_of : {N : Type 0} → N → TableId → Row N
row_of n z =
    let stamp = z.words ∷ z.views_name ∷ z.atom ∷ z.block ∷ z.offset ∷ z.slot_names in
    record { slots = z.slots; name = n; stamp = stamp }

module _ {N V M : Type 0} where
  abbrev pub seat_view : N → TableId → View N V M → SeatState N V M
  seat_view n z w =
      record { row = row_of n z; parts = w.parts; turn = seen_turn w.turn; tally = w.tally; claims = w.claims }

  -- a seat knows the name, has a part and a tally, and has the slot of its turn and no other
  pub record IsSeat (name : N) (z : TableId) (me : Me (Option V) (View N V M)) : Type 0 where
    pub named : me.0.name ≡ Some name
    pub some_part : 0 < me.0.parts
    pub six_numbers : length me.0.tally ≡ 6
    pub turn : me.0.turn ≡ turn_of (seen_turn me.0.turn)
    pub slot : me.1 ≡ slots_of (seen_turn me.0.turn)
    pub within : (k : ℕ) (v : V) → seen_turn me.0.turn ≡ Some (k, v) → k < z.slots

-- a word for each slot, and one slot at least
pub record IsRow (z : TableId) : Type 0 where
  pub words : z.words ≡ z.slots
  pub some_slot : 0 < z.slots
