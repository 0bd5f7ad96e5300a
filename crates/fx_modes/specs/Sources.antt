-- What was read of the source frames of some first moments, and why those of the next were not.
use Rattle.std.specs.Prelude.{◌<◌, ℕ, List}
use Rattle.fx_base.specs.declared.limits.TheConstants.{MOST_SIDE}
use Rattle.fx_outside.specs.Outside.{Files}
use Rattle.fx_seq.specs.Filling.{IsFetchIn, IsFirstFetch, IsQuietAt, IsTold}
use Rattle.fx_seq.specs.Lists.{ArePictures}
use Rattle.fx_seq.specs.Moments.{due_at, due_until, held_bytes, moment_refused}
use Rattle.fx_seq.specs.declared.fault.SeqFault.{SeqFault}
use Rattle.fx_seq.specs.declared.source.SourceFrame.{SourceFrame}
use Rattle.fx_seq.specs.declared.used.Use.{Use}
use Rattle.fx_modes.specs.Ended.{Calls}
use Rattle.fx_modes.specs.Files.{AreAccepted}
use Rattle.fx_modes.specs.declared.sources.TheConstants.{MOST_BYTES}

-- these frames are the images of the files that the first n moments want, and none of these is refused
pub record HasSources (tells : Type 0) (library : Files) (uses : List Use) (n : ℕ) (seen : List SourceFrame)
    : Type 0 where
  pub pictures : tells → ArePictures library MOST_SIDE (due_until uses n) seen
  pub accepted : tells → AreAccepted library uses n

-- the frames that moment n is the first to want were not read, for this: what the library tells of it, and what it
-- shows
pub record IsNotRead (tells : Type 0) (library : Files) (uses : List Use) (n : ℕ) (fetches : Calls) (e : SeqFault)
    : Type 0 where
  pub told : tells → IsTold (moment_refused library MOST_SIDE MOST_BYTES uses n) e
  pub first :
      tells → IsFirstFetch library MOST_SIDE MOST_BYTES (held_bytes library uses n) (due_at uses n) e
  pub fetch : IsFetchIn fetches.before fetches.now fetches.last (due_at uses n) e
  pub quiet : IsQuietAt fetches.before fetches.now fetches.was fetches.last e

-- those of one of so many moments were not, and none of the moments before is refused
pub record StopsReading (tells : Type 0) (library : Files) (uses : List Use) (count : ℕ) (fetches : Calls)
    (e : SeqFault) : Type 0 where
  pub moment : ℕ
  pub low : moment < count
  pub before : tells → AreAccepted library uses moment
  pub not_read : IsNotRead tells library uses moment fetches e
