-- How a hold changes through its workspace, and how a seat shows itself.
use Rattle.std.specs.Prelude.{option_map}
use Rattle.fx_turn.specs.Seats.{SeatState}
use Rattle.fx_gate.specs.Gates.{GateSeatState, HoldState, row_of}
use Rattle.fx_gate.specs.declared.workspace.Workspace.{Workspace}

abbrev pub with_workspace : HoldState → Workspace → HoldState
with_workspace h w = record h { cells = w.cells.items; bytes = w.bytes.items }

-- a seat of a row of gates has nothing to count and to claim
abbrev pub seat_of : SeatState (Unit {0}) Workspace (Unit {0}) → GateSeatState
seat_of s = record { row = row_of s.row; parts = s.parts; turn = option_map (λ t. t.0) s.turn }
