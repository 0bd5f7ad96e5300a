-- What clauses see of a row of gates, of a seat of it, and of a hold.
use Rattle.std.specs.Prelude.{ℕ, List, Option}
use Rattle.fx_turn.specs.Seats.{Row}

-- how many gates a row has, and what no other row shares with it
pub record GateRow : Type 0 where
  pub gates : ℕ
  pub stamp : List ℕ

-- The gate whose turn the seat has, if it has one
pub record GateSeatState : Type 0 where
  pub row : GateRow
  pub parts : ℕ
  pub turn : Option ℕ

-- the gate that is held, if one is, and the cells and the bytes of the workspace
pub record HoldState : Type 0 where
  pub gate : Option ℕ
  pub cells : List ℕ
  pub bytes : List ℕ

-- a row of gates is a row of turns without a name
abbrev pub row_of : Row (Unit {0}) → GateRow
row_of r = record { gates = r.slots; stamp = r.stamp }
