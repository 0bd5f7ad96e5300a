-- What stands between two frames of a plan.
use Rattle.std.specs.Prelude.{◌≡◌, ◌≢◌, ◌<◌, ◌≤◌, ◌+◌, ℕ, List, [], length, Option}
use Rattle.fx_base.specs.declared.limits.TheConstants.{LAST_FRAME}
use Rattle.fx_outside.specs.Outside.{Files}
use Rattle.fx_proxy.specs.Reduced.{IsScale}
use Rattle.fx_seq.specs.Held.{held_frames}
use Rattle.fx_seq.specs.Lists.{used_size}
use Rattle.fx_seq.specs.declared.source.SourceFrame.{SourceFrame}
use Rattle.fx_seq.specs.declared.used.Use.{Use}
use Rattle.fx_scene.specs.Depends as scene
use Rattle.fx_scene.specs.Right.{HasGrown}
use Rattle.fx_scene.specs.Scenes.{Images}
use Rattle.fx_words.specs.Ordered.{Ordered}
use Rattle.fx_words.specs.declared.fault.RunFault.{RunFault}
use Rattle.fx_words.specs.declared.fault.RunFault.TheVariants as run
use Rattle.fx_modes.specs.declared.planning.Planning.{Planning}
use Rattle.fx_modes.specs.declared.sources.TheConstants.{MOST_BYTES}
use Rattle.fx_modes.specs.Ended.{Calls}
use Rattle.fx_modes.specs.Files.{AreUsesOf}
use Rattle.fx_modes.specs.Plans.{ArePlanned, PlanCause}
use Rattle.fx_modes.specs.Making.{HoldsScaled, handed_in}
use Rattle.fx_modes.specs.Moments.{images_of}
use Rattle.fx_modes.specs.Reels.{Reel, scaled_in}
use Rattle.fx_modes.specs.Run.{LeavesLibrary, Rose}

-- the source frames that were handed in
abbrev pub seen_by : Planning → List SourceFrame
seen_by m = handed_in m.seen.items

-- how many frames were planned
abbrev pub done_by : Planning → ℕ
done_by m = length m.frames.items

-- The first frames of a reel without takes were planned: what they want was read, within the limit, and is held at the
-- reel's size; and over whatever more is read each has its plan
pub record IsPlanning (r : Reel) (uses : List Use) (side : ℕ) (m : Planning) : Type 0 where
  pub are : AreUsesOf r uses
  pub plain : r.edits ≡ []
  pub few : r.first + r.count ≤ LAST_FRAME + 1
  pub scale : m.scale ≡ r.scale
  pub small : IsScale r.scale
  pub graph : m.scene.graph ≡ r.graph
  pub read : HoldsScaled r.scale uses (done_by m) (seen_by m) m.scene.store
  pub size : used_size uses (done_by m) (held_frames m.scene.store) ≤ MOST_BYTES
  pub planned :
      (more : Images) → scene.AreImages more → HasGrown (scaled_in r (images_of (seen_by m))) more
      → ArePlanned r.graph more side r.first m.frames.items

-- this frame of it is next
pub record MayPlan (r : Reel) (uses : List Use) (side frame : ℕ) (m : Planning) : Type 0 where
  pub planning : IsPlanning r uses side m
  pub next : frame ≡ r.first + done_by m
  pub low : done_by m < r.count

-- the frames end early, with a fault of a source frame or want of memory
pub record PlanStops (tells : Type 0) (asked : Option Ordered) (library : Files) (fetched : Calls) (fault : RunFault)
    : Type 0 where
  pub moment : ℕ
  pub rose :
      (puts : ℕ × ℕ × List ℕ) (out : ℕ × ℕ) → Rose (fetched.before, fetched.now, fetched.last) puts out fault
  pub cause : PlanCause tells asked library moment fault
  pub fetches : LeavesLibrary asked fault fetched.before fetched.now fetched.was fetched.last
  pub ordered : fault ≢ run.Usage
  pub no_report : fault ≢ run.Report
