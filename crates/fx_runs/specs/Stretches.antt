-- A range of frames that is rendered in stretches, by runs in any order.
use Rattle.std.specs.Prelude.{◌≡◌, ◌≤◌, ℕ, List, [], ◌∷◌, Contains, Option}
use Rattle.fx_base.specs.declared.limits.TheConstants.{LAST_FRAME}
use Rattle.fx_outside.specs.Outside.{Files, SameFiles}
use Rattle.fx_seq.specs.declared.used.Use.{Use}
use Rattle.fx_seq.specs.declared.wanted.Wanted.{Wanted}
use Rattle.fx_proxy.specs.Reduced.{IsScale}
use Rattle.fx_scene.specs.Scenes.{Images}
use Rattle.fx_scene.specs.Wants.{Lists}
use Rattle.fx_words.specs.Ordered.{Ordered}
use Rattle.fx_words.specs.declared.order.Mode.TheVariants.{Render}
use Rattle.fx_modes.specs.Graphs.{Graph, first_of, last_of}
use Rattle.fx_modes.specs.Reels.{moments_in, ordered_file, plain_reel, scaled_in}
use Rattle.fx_modes.specs.Files.{AreImages, AreUsesOf, HasGained, wanted_of}
use Rattle.fx_modes.specs.Run.{HasPutAll, Job}

-- the frames from a first one to a last one
pub record Stretch : Type 0 where
  pub first : ℕ
  pub last : ℕ

pub record IsIn (p : Stretch) (t : ℕ) : Type 0 where
  pub from : p.first ≤ t
  pub to : t ≤ p.last

-- A run over a stretch of a graph as it is written, which is one at 1/q of its size: each source frame that its frames
-- want has the image of its file, and the files of its frames are put, over images of that size, and nothing else.
pub record HasRun (q : ℕ) (g : Graph) (library : Files) (p : Stretch) (old new : Files) : Type 0 where
  pub uses : List Use
  pub are : AreUsesOf (plain_reel q g p.first p.last) uses
  pub images : Images
  pub shown : AreImages library (wanted_of uses) images
  pub gained :
      let r = plain_reel q g p.first p.last in
      HasGained r (scaled_in r images) (moments_in r) old new

-- the frames that an order asks for
abbrev pub stretch_of : {asked : Option Ordered} {library : Files} → Job asked library → Stretch
stretch_of job = record { first = first_of job.file.graph job.order; last = last_of job.file.graph job.order }

-- what a run of the program in mode `render` leaves that put the files of all its frames
abbrev pub RunsAreSuch : Type 0
RunsAreSuch =
    (asked : Option Ordered) (library old new : Files) (put : HasPutAll asked library old new)
    → (let job = put.known.job in
    job.order.mode ≡ Render
    → HasRun job.order.scale (ordered_file job.order job.file).graph library (stretch_of job) old new)

-- runs over stretches, one after another
abbrev pub HaveRun : ℕ → Graph → Files → List Stretch → Files → Files → Type 0
HaveRun q g library [] old new = SameFiles old new
HaveRun q g library (p ∷ ps) old new =
    (between : Files) × HasRun q g library p old between × HaveRun q g library ps between new

-- stretches of a range, in any order: each of its frames is in one of them, or in several, and they have no other
pub record AreStretches (whole : Stretch) (stretches : List Stretch) : Type 0 where
  pub all : (t : ℕ) → IsIn whole t → (p : Stretch) × Contains stretches p × IsIn p t
  pub only : (p : Stretch) (t : ℕ) → Contains stretches p → IsIn p t → IsIn whole t

-- the files of the stretches are the files of the whole, at the same size
abbrev pub StretchesMakeWhole : Graph → Type 0
StretchesMakeWhole g =
    (q : ℕ) (library : Files) (whole : Stretch) (stretches : List Stretch) (old new other : Files) → IsScale q
    → whole.last ≤ LAST_FRAME → AreStretches whole stretches → HaveRun q g library stretches old new
    → HasRun q g library whole old other → SameFiles other new

-- a source frame that a stretch of a range wants is wanted by the range
abbrev pub StretchesWantNoMore : Graph → Type 0
StretchesWantNoMore g =
    (q : ℕ) (whole p : Stretch) (uses some : List Use) → ((t : ℕ) → IsIn p t → IsIn whole t)
    → AreUsesOf (plain_reel q g whole.first whole.last) uses
    → AreUsesOf (plain_reel q g p.first p.last) some
    → (w : Wanted) → Contains (wanted_of some) w → Lists (wanted_of uses) w.node w.frame
