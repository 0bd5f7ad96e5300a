-- What clauses see of a row, of a seat of it, and of a value that is held.
use Rattle.std.specs.Prelude.{◌≡◌, ℕ, ◌-◌, ◌+◌, List, [], ◌++◌, flat_map, Option, None}
use Rattle.fx_turn.specs.Tallies.{zeros, plus, IsAtMost, tally_after, tally_of_all}
use Rattle.fx_turn.specs.Claims.{AreAmong, NumbersDiffer, claims_after}

-- How many slots a row has, its name, and what no other row shares with it
pub record Row (N : Type 0) : Type 0 where
  pub slots : ℕ
  pub name : N
  pub stamp : List ℕ

-- The turn that a seat has, if it has one: the slot, and the value as it was taken. Of the row's tally and claims it
-- has its own part
pub record SeatState (N V M : Type 0) : Type 0 where
  pub row : Row N
  pub parts : ℕ
  pub turn : Option (ℕ × V)
  pub tally : List ℕ
  pub claims : List (ℕ × M)

-- a value, and the slot that it was taken from
pub record HeldState (V : Type 0) : Type 0 where
  pub slot : ℕ
  pub value : V

-- as many parts as a row has
abbrev pub all_parts : ℕ
all_parts = 4294967296

-- the value counts nothing and claims nothing
abbrev pub IsPlain : {V M : Type 0} → (V → List ℕ) → (V → List (ℕ × M)) → V → Type 0
IsPlain tally claims v = (tally v ≡ zeros) × (claims v ≡ [])

module _ {N V M : Type 0} where
  -- a new seat: one part, and nothing else
  abbrev pub new_seat : SeatState N V M → SeatState N V M
  new_seat s = record { row = s.row; parts = 1; turn = None; tally = zeros; claims = [] }

  abbrev pub with_one_part_less : SeatState N V M → SeatState N V M
  with_one_part_less s = record s { parts = s.parts - 1 }

  -- both in one, as the first
  abbrev pub joined : SeatState N V M → SeatState N V M → SeatState N V M
  joined s t = record s { parts = s.parts + t.parts; tally = plus s.tally t.tally; claims = s.claims ++ t.claims }

  module _ (tally : V → List ℕ) (claims : V → List (ℕ × M)) where
    -- the first seat of a row has all parts, and what the values have
    abbrev pub first_seat : Row N → List V → SeatState N V M
    first_seat row values =
        let counted = tally_of_all tally values in
        record { row = row; parts = all_parts; turn = None; tally = counted; claims = flat_map claims values }

    -- what the seat has of tally and claims is in the value
    abbrev pub Agrees : SeatState N V M → V → Type 0
    Agrees s v = IsAtMost s.tally (tally v) × AreAmong s.claims (claims v) × NumbersDiffer s.claims

    -- the seat gave its turn back, with the second value in place of the first
    abbrev pub after_turn : V → V → SeatState N V M → SeatState N V M
    after_turn before now s =
        record s {
          turn = None;
          tally = tally_after (tally before) (tally now) s.tally;
          claims = claims_after (claims before) (claims now) s.claims;
        }
