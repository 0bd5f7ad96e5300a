-- All seats of those who render, and what ends with them.
use Rattle.std.specs.Prelude.{◌≡◌, ◌<◌, ◌+◌, ◌^◌, ◌⊎◌, List, [], All, length}
use Rattle.fx_core.specs.declared.totals.Totals.{Totals}
use Rattle.fx_directory.specs.Rows.{DirRow}
use Rattle.fx_directory.specs.Seats.{DirSeatState, nothing_made}
use Rattle.fx_scene.specs.Scenes.{Shot}
use Rattle.fx_turn.specs.Seats.{all_parts}
use Rattle.fx_tile.specs.declared.share.Shared.{Shared}
use Rattle.fx_tile.specs.declared.share.TileSeat.{TileSeat}
use Rattle.fx_tile.specs.Moments.{IsFree, IsIdle}

-- the seat has all parts of a directory, and through it nothing was asked
abbrev pub IsFirstSeat : {N K : Type 0} → DirRow N → DirSeatState N K → Type 0
IsFirstSeat row seat = seat ≡ record { row = row; parts = all_parts; aloft = []; made = nothing_made }

-- the first seat, and those that were split off from it, one for each worker, are all that there are, and none has a
-- flight or a gate
pub record AreAll {E : Type 0} (shared : Shared E) (first : TileSeat E) (seats : List (TileSeat E)) : Type 0 where
  pub first_is : IsIdle shared first.directory.parts first
  pub free : All (IsFree shared) seats
  pub all : first.directory.parts + length seats ≡ all_parts

-- What is shared, and its seat, once their names could not be renewed: all is as before, but that whole images may have
-- the name of the scene already
pub record IsLeft {E : Type 0} (scene : Shot E) (shared now : Shared E) (first seat : TileSeat E) : Type 0 where
  pub rest : now ≡ record shared { wholes = now.wholes }
  pub seat_is : seat ≡ record first { wholes = record first.wholes { row = now.wholes } }
  pub capacity : now.wholes.capacity ≡ shared.wholes.capacity
  pub name : (now.wholes ≡ shared.wholes) ⊎ (now.wholes.name.scene.value ≡ scene)

-- count by count
abbrev pub both_totals : Totals → Totals → Totals
both_totals s t =
    record {
      asks = s.asks + t.asks;
      hits = s.hits + t.hits;
      busies = s.busies + t.busies;
      flights = s.flights + t.flights;
      landed = s.landed + t.landed;
      dropped = s.dropped + t.dropped;
      evicted = s.evicted + t.evicted;
    }

-- no count is past the greatest that it can be
pub record CanTotal (totals : Totals) : Type 0 where
  pub asks : totals.asks < 2 ^ 64
  pub hits : totals.hits < 2 ^ 64
  pub busies : totals.busies < 2 ^ 64
  pub flights : totals.flights < 2 ^ 64
  pub landed : totals.landed < 2 ^ 64
  pub dropped : totals.dropped < 2 ^ 64
  pub evicted : totals.evicted < 2 ^ 64
