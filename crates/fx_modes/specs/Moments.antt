-- The moments of a run, one after another: what is made of each, and how they end.
use Rattle.std.specs.Prelude.{◌≡◌, ◌≢◌, ℕ, List, Option, option_map}
use Rattle.fx_outside.specs.Outside.{Files}
use Rattle.fx_image.specs.Stored.{image_of}
use Rattle.fx_seq.specs.declared.source.SourceFrame.{SourceFrame}
use Rattle.fx_seq.specs.Lists.{frames_in}
use Rattle.fx_proxy.specs.Reduced.{IsScale}
use Rattle.fx_scene.specs.Scenes.{Images}
use Rattle.fx_pipe.specs.declared.made.Made.{Made}
use Rattle.fx_tile.specs.declared.count.TileCount.{TileCount}
use Rattle.fx_words.specs.Ordered.{Ordered}
use Rattle.fx_words.specs.declared.fault.RunFault.{RunFault}
use Rattle.fx_words.specs.declared.fault.RunFault.TheVariants as run
use Rattle.fx_modes.specs.Ended.{Calls}
use Rattle.fx_modes.specs.Files.{AreImages, HasGained, wanted_of}
use Rattle.fx_modes.specs.Reels.{Reel, file_name, file_text, scaled_in}
use Rattle.fx_modes.specs.Run.{Cause, IsAccepted, Leaves, LeavesDepot, LeavesLibrary, Rose, count_in}
use Rattle.fx_modes.specs.Tiles.{HasCounted}

-- the images of frames that were read
abbrev pub images_of : List SourceFrame → Images
images_of frames n f = option_map image_of (frames_in frames n f)

-- the file of moment m, over the frames that were read up to it
pub record IsMomentFile (r : Reel) (seen : List SourceFrame) (m : ℕ) (made : Made) : Type 0 where
  pub name : made.name ≡ file_name r m
  pub text : made.bytes.items ≡ file_text r (scaled_in r (images_of seen)) m

-- Every moment's file was put, at a size that may be ordered, and nothing else; so many window tiles became what the
-- count tells
pub record HasRendered (tells : Type 0) (asked : Option Ordered) (library old new : Files) (count : TileCount)
    : Type 0 where
  pub known : IsAccepted asked library
  pub images : Images
  pub are : AreImages library (wanted_of known.job.uses) images
  pub size : IsScale known.job.order.scale
  pub gained : tells → HasGained known.job.reel (scaled_in known.job.reel images) (count_in known.job) old new
  pub counted :
      let order = known.job.order in
      HasCounted known.job.reel (scaled_in known.job.reel images) order.tile order.cache (count_in known.job) count

-- The moments end early, with a fault of a source frame, of a file, or want of memory
pub record Stops (reads puts : Type 0) (asked : Option Ordered) (library : Files) (fetched put : Calls)
    (old new : Files) (fault : RunFault) : Type 0 where
  pub moment : ℕ
  pub rose : Rose (fetched.before, fetched.now, fetched.last) (put.before, put.now, put.last) (0, 0) fault
  pub cause : reads → Cause asked library moment fault
  pub leaves : reads → puts → Leaves asked library moment fault old new
  pub fetches : LeavesLibrary asked fault fetched.before fetched.now fetched.was fetched.last
  pub places : LeavesDepot fault put.before put.now put.was put.last
  pub ordered : fault ≢ run.Usage
  pub no_report : fault ≢ run.Report
