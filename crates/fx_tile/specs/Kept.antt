-- The two directories in which images are kept, as a seat sees them: whole images of effects that support no tiles (OpenFX
-- 1.4, kOfxImageEffectPropSupportsTiles) in the one, and all others, the tiles, in the other.
use Rattle.std.specs.Prelude.{◌≡◌, ◌++◌, [], ◌∷◌, Bool, false, not, if◌then◌else◌}
use Rattle.std.specs.Arc.{arc_value}
use Rattle.fx_core.specs.declared.flight.Answer.{Answer}
use Rattle.fx_core.specs.declared.flight.Answer.TheVariants as answer
use Rattle.fx_core.specs.declared.flight.Flight.{Flight}
use Rattle.fx_directory.specs.Rows.{DirRow}
use Rattle.fx_directory.specs.Seats.{DirSeatState, LeavesAlone, Made, both_made}
use Rattle.fx_effect.specs.Meaning.{Meaning}
use Rattle.fx_image.specs.Stored.{Stored}
use Rattle.fx_scene.specs.declared.key.Key.{Key}
use Rattle.fx_scene.specs.Nodes.{Effect, Node, Source}
use Rattle.fx_scene.specs.Scenes.{Shot}
use Rattle.fx_scene.specs.Scripts.{IsRightFor}
use Rattle.fx_tile.specs.declared.name.SceneName.{SceneName}
use Rattle.fx_tile.specs.declared.share.Shared.{Shared}
use Rattle.fx_tile.specs.declared.share.TileSeat.{TileSeat}
use Rattle.fx_tile.specs.Counts.{IsHit, IsUnasked}

-- what was asked, landed and dropped through a seat, in both directories together
abbrev pub made_of : {E : Type 0} → TileSeat E → Made
made_of seat = both_made seat.directory.made seat.wholes.made

-- whether images of the node are kept whole
abbrev pub is_whole : Node → Bool
is_whole (Source s) = false
is_whole (Effect o) = not o.meaning.shape.tiles

-- the directory of whole images, or that of tiles
abbrev pub row_in : {E : Type 0} → Bool → Shared E → DirRow (SceneName E)
row_in whole shared = if whole then shared.wholes else shared.directory

abbrev pub seat_in : {E : Type 0} → Bool → TileSeat E → DirSeatState (SceneName E) Key
seat_in whole seat = if whole then seat.wholes else seat.directory

-- the seat is one of both directories
pub record HasRows {E : Type 0} (shared : Shared E) (seat : TileSeat E) : Type 0 where
  pub directory : seat.directory.row ≡ shared.directory
  pub wholes : seat.wholes.row ≡ shared.wholes

-- the seat has its directories and its parts of them, and what it has of the gates, as before
pub record KeepsRows {E : Type 0} (old new : TileSeat E) : Type 0 where
  pub row : new.directory.row ≡ old.directory.row
  pub parts : new.directory.parts ≡ old.directory.parts
  pub whole_row : new.wholes.row ≡ old.wholes.row
  pub whole_parts : new.wholes.parts ≡ old.wholes.parts
  pub gates : new.gates ≡ old.gates

-- and its flights
pub record KeepsSeat {E : Type 0} (old new : TileSeat E) : Type 0 where
  pub rows : KeepsRows old new
  pub aloft : new.directory.aloft ≡ old.directory.aloft
  pub whole_aloft : new.wholes.aloft ≡ old.wholes.aloft

-- a flight joined those that it has in the one directory, and those in the other stay
pub record Gains {E : Type 0} (whole : Bool) (f : Flight Key) (old new : TileSeat E) : Type 0 where
  pub rows : KeepsRows old new
  pub other : (seat_in (not whole) new).aloft ≡ (seat_in (not whole) old).aloft
  pub joined : (seat_in whole new).aloft ≡ (seat_in whole old).aloft ++ (f.ticket.number, arc_value f.key) ∷ []

-- a flight left those that it has in the one directory, and those in the other stay
pub record Loses {E : Type 0} (whole : Bool) (f : Flight Key) (old new : TileSeat E) : Type 0 where
  pub rows : KeepsRows old new
  pub other : (seat_in (not whole) new).aloft ≡ (seat_in (not whole) old).aloft
  pub left : LeavesAlone (seat_in whole old).aloft (seat_in whole new).aloft f

-- what an ask answers: an image that is right under the key, a flight of it, or that another makes it
abbrev pub AnswersAsk : {E : Type 0} → (E → Meaning) → Shot E → Bool → Key → TileSeat E → TileSeat E
    → Answer Key Stored → Type 0
AnswersAsk meaning scene whole key old new (answer.Here image) =
    IsRightFor meaning scene key (arc_value image) × KeepsSeat old new × IsHit (made_of old) (made_of new)
AnswersAsk meaning scene whole key old new (answer.Fly f) =
    (arc_value f.key ≡ key) × Gains whole f old new × IsUnasked (made_of old) (made_of new)
AnswersAsk meaning scene whole key old new answer.Busy = KeepsSeat old new × IsUnasked (made_of old) (made_of new)
