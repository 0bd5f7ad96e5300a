-- How a directory's seat shows itself.
use Rattle.std.specs.Prelude.{ℕ, List, slice_index}
use Rattle.fx_turn.specs.Seats.{SeatState}
use Rattle.fx_directory.specs.declared.home.Home.{Home}
use Rattle.fx_core.specs.State.{State}
use Rattle.fx_directory.specs.Keeps.{tally_of}
use Rattle.fx_directory.specs.Rows.{dir_row_of}
use Rattle.fx_directory.specs.Seats.{Made, DirSeatState}

-- the six numbers of a tally
abbrev pub made_of : List ℕ → Made
made_of t =
    record {
      asks = slice_index t 0;
      hits = slice_index t 1;
      busies = slice_index t 2;
      flights = slice_index t 3;
      landed = slice_index t 4;
      dropped = slice_index t 5;
    }

abbrev pub dir_seat_of : {N K V : Type 0} → SeatState (Home N) (State K V) K → DirSeatState N K
dir_seat_of s = record { row = dir_row_of s.row; parts = s.parts; aloft = s.claims; made = made_of s.tally }

module _ {K V : Type 0} where
  -- what a value of the row counts, and which flights stand in it
  abbrev pub counts_in : State K V → List ℕ
  counts_in g = tally_of g.totals

  abbrev pub flights_in : State K V → List (ℕ × K)
  flights_in g = g.flying
