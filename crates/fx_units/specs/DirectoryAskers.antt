-- For the tests: a seat in which nothing flies.
use Rattle.std.specs.Prelude.{◌≡◌, []}
use Rattle.fx_directory.specs.Rows.{DirRow}
use Rattle.fx_directory.specs.Seats.{DirSeatState}

abbrev pub IsIdle : {N K : Type 0} → DirRow N → DirSeatState N K → Type 0
IsIdle row seat = (seat.row ≡ row) × (seat.aloft ≡ [])
