-- What clauses see of a directory, and how the name of its row may grow.
use Rattle.std.specs.Prelude.{◌≡◌, ℕ, List}
use Rattle.fx_turn.specs.Seats.{Row}
use Rattle.fx_directory.specs.declared.home.Home.{Home}

-- The name that each kept value suits under its key, the scene's number, how many values may be kept, and what no other
-- directory shares with it
pub record DirRow (N : Type 0) : Type 0 where
  pub name : N
  pub scene : ℕ
  pub capacity : ℕ
  pub stamp : List ℕ

module _ {N : Type 0} where
  -- a directory is a row of one slot
  abbrev pub dir_row_of : Row (Home N) → DirRow N
  dir_row_of r = record { name = r.name.name; scene = r.name.scene; capacity = r.name.capacity; stamp = r.stamp }

  -- the name has grown, and the scene's number and the room are the same
  abbrev pub HasGrown : (N → N → Type 0) → Home N → Home N → Type 0
  HasGrown grown old new = grown old.name new.name × (new.scene ≡ old.scene) × (new.capacity ≡ old.capacity)
