-- What a run does, why it ends early, and what it leaves.
use Rattle.std.specs.Prelude.{◌≡◌, ℕ, ◌+◌, ◌≤◌, ◌<◌, ◌⊎◌, Bool, ◌==◌, List, [], ◌∷◌, ◌++◌, ℤ, Some, None, Ok, Err}
use Rattle.std.specs.Prelude.{Option}
use Rattle.std.specs.List.{list_any}
use Rattle.fx_outside.specs.Outside.{Files, HasRisen, SameFiles, AddsPrefix}
use Rattle.fx_pam.specs.declared.fault.PamFault.{PamFault}
use Rattle.fx_pam.specs.declared.fault.PamFault.TheVariants as pam
use Rattle.fx_seq.specs.declared.used.Use.{Use}
use Rattle.fx_seq.specs.declared.wanted.Wanted.{Wanted}
use Rattle.fx_seq.specs.declared.fault.SeqFault.{SeqFault}
use Rattle.fx_seq.specs.declared.fault.SeqFault.TheVariants as seq
use Rattle.fx_seq.specs.Filling.{IsQuiet}
use Rattle.fx_seq.specs.Moments.{due_until}
use Rattle.fx_text.specs.declared.fault.GraphCode.{GraphCode}
use Rattle.fx_graph.specs.Refusal.{refusal}
use Rattle.fx_region.specs.Counts.{TileCounts, count_ends}
use Rattle.fx_region.specs.Ends.{EndShown}
use Rattle.fx_scene.specs.Scenes.{Images}
use Rattle.fx_words.specs.Ordered.{Ordered}
use Rattle.fx_words.specs.Texts.{render_text, report_text, takes_text}
use Rattle.fx_words.specs.declared.order.Mode.{Mode}
use Rattle.fx_words.specs.declared.order.Mode.TheVariants.{Render, Takes}
use Rattle.fx_words.specs.declared.report.Report.{Report}
use Rattle.fx_words.specs.declared.fault.FrameFault.{FrameFault}
use Rattle.fx_words.specs.declared.fault.FrameFault.TheVariants as fault
use Rattle.fx_words.specs.declared.fault.RunFault.{RunFault}
use Rattle.fx_words.specs.declared.fault.RunFault.TheVariants as run
use Rattle.fx_modes.specs.Graphs.{FileShown, Graph, graph_under, name_at}
use Rattle.fx_modes.specs.Reels.{IsReelOf, Reel, file_name, moments_in, scaled_in, takes_in}
use Rattle.fx_modes.specs.Files.{AreAccepted, AreImages, AreUsesOf, HasGained, HasGainedBut, IsReachedAt, IsRefusedAt, wanted_of}
use Rattle.fx_modes.specs.Tiles.{ends_in, renders_in}

-- ---- what is asked for

-- an order of a graph that the library tells, what it renders, and the source frames that its moments use
pub record Job (asked : Option Ordered) (library : Files) : Type 0 where
  pub order : Ordered
  pub ordered : asked ≡ Some order
  pub file : FileShown
  pub there : graph_under library order.graph ≡ Some (Ok file)
  pub reel : Reel
  pub is : IsReelOf order file reel
  pub uses : List Use
  pub are : AreUsesOf reel uses

-- how many moments the job has
abbrev pub count_in : {asked : Option Ordered} {library : Files} → Job asked library → ℕ
count_in job = moments_in job.reel

-- an order of a graph that the library tells, and at no moment a source frame is refused
pub record IsAccepted (asked : Option Ordered) (library : Files) : Type 0 where
  pub job : Job asked library
  pub accepted : AreAccepted library job.uses (count_in job)

-- an order of bytes that the library tells and that are no graph
pub record IsRefused (asked : Option Ordered) (library : Files) (code : GraphCode) (path : List ℕ) : Type 0 where
  pub order : Ordered
  pub ordered : asked ≡ Some order
  pub refused : graph_under library order.graph ≡ Some (Err (refusal code path))

abbrev pub NamesNoGraph : Option Ordered → Files → Type 0
NamesNoGraph asked library = (code : GraphCode) × (path : List ℕ) × IsRefused asked library code path

-- ---- what a run leaves in the depot

-- the files of n moments were put, over the source frames that they want at the size that is ordered, and nothing else
pub record HasPut (asked : Option Ordered) (library : Files) (n : ℕ) (old new : Files) : Type 0 where
  pub job : Job asked library
  pub few : n ≤ count_in job
  pub accepted : AreAccepted library job.uses n
  pub images : Images
  pub are : AreImages library (due_until job.uses n) images
  pub gained : HasGained job.reel (scaled_in job.reel images) n old new

-- the same of n moments, but the file of the moment behind them, which has this name, holds anything or is absent
pub record HasPutBut (asked : Option Ordered) (library : Files) (n : ℕ) (file : List ℕ) (old new : Files) : Type 0 where
  pub job : Job asked library
  pub few : n < count_in job
  pub accepted : AreAccepted library job.uses (n + 1)
  pub images : Images
  pub are : AreImages library (due_until job.uses n) images
  pub file_is : file ≡ file_name job.reel n
  pub gained : HasGainedBut job.reel (scaled_in job.reel images) n old new

-- the file of every moment was put, and nothing else
pub record HasPutAll (asked : Option Ordered) (library : Files) (old new : Files) : Type 0 where
  pub known : IsAccepted asked library
  pub images : Images
  pub are : AreImages library (wanted_of known.job.uses) images
  pub gained : HasGained known.job.reel (scaled_in known.job.reel images) (count_in known.job) old new

-- ---- what it reports

-- where the window tiles of the job's moments are found
abbrev pub tile_ends : {asked : Option Ordered} {library : Files} → Job asked library → Images → List EndShown
tile_ends job images = ends_in job.reel (scaled_in job.reel images) job.order.tile (count_in job)

-- how many renders those of them need that are renders
abbrev pub tile_renders : {asked : Option Ordered} {library : Files} → Job asked library → Images → ℕ
tile_renders job images = renders_in job.reel (scaled_in job.reel images) job.order.tile (count_in job)

-- the lines of a report, in mode `takes` with the number of takes
abbrev pub lines_for : Mode → ℕ → ℕ → TileCounts → ℕ → ℕ → List ℕ
lines_for Takes takes frames n landed hits =
    takes_text takes frames n.tiles n.void_tiles n.passed n.asked landed hits
lines_for other takes frames n landed hits = render_text frames n.tiles n.void_tiles n.passed n.asked landed hits

-- How many takes and frames were rendered, and how many window tiles they have; how many of these are found nowhere, in
-- a source's frame, and in a render; how many renders landed, and how many were found kept. As many landed or were found
-- kept, at least, as are asked for. Where nothing may be kept, none was found kept, and at least as many landed as are
-- asked for and as these need.
pub record IsRenderReport (asked : Option Ordered) (library : Files) (text : List ℕ) : Type 0 where
  pub known : IsAccepted asked library
  pub images : Images
  pub are : AreImages library (wanted_of known.job.uses) images
  pub landed : ℕ
  pub hits : ℕ
  pub told :
      let job = known.job in
      text ≡ lines_for job.order.mode (takes_in job.reel) (count_in job) (count_ends (tile_ends job images)) landed hits
  pub enough : (count_ends (tile_ends known.job images)).asked ≤ hits + landed
  pub none_kept :
      known.job.order.cache ≡ 0
      → (hits ≡ 0)
      × ((count_ends (tile_ends known.job images)).asked + tile_renders known.job images ≤ landed)

-- the report was written
abbrev pub HasTold : Option Ordered → Files → List ℕ → List ℕ → Type 0
HasTold asked library old new = (text : List ℕ) × IsRenderReport asked library text × (new ≡ old ++ text)

-- a front of it was written
abbrev pub HasBegunToTell : Option Ordered → Files → List ℕ → List ℕ → Type 0
HasBegunToTell asked library old new =
    (text : List ℕ) × IsRenderReport asked library text × AddsPrefix text old new

-- ---- why it ends early

-- why a frame is refused, as the line tells it
abbrev pub frame_fault : PamFault → Option FrameFault
frame_fault pam.NotPam = Some fault.NotPam
frame_fault (pam.HeaderWrong line) = Some (fault.HeaderWrong line)
frame_fault (pam.SizeOutOfRange field) = Some (fault.SizeOutOfRange field)
frame_fault (pam.Truncated wanted had) = Some (fault.Truncated wanted had)
frame_fault (pam.SampleAboveMaxval place value) = Some (fault.SampleAboveMaxval place value)
frame_fault pam.Memory = None

-- the refusal is of the frame of a node of this name, for this reason
abbrev pub IsToldAs : Graph → SeqFault → List ℕ → ℤ → FrameFault → Type 0
IsToldAs g (seq.Frame node frame cause) name t why =
    (name_at g node ≡ Some name) × (t ≡ frame) × (frame_fault cause ≡ Some why)
IsToldAs g (seq.TooLarge node frame sum) name t why =
    (name_at g node ≡ Some name) × (t ≡ frame) × (why ≡ fault.TooLarge sum)
IsToldAs g (seq.Fetch node frame file) name t why = ⊥
IsToldAs g seq.Memory name t why = ⊥

-- the name is that of the graph, or of a source frame that moment j is the first to want, and its fetch was reached
abbrev pub IsReadName : Option Ordered → Files → ℕ → List ℕ → Type 0
IsReadName asked library j name =
    ((order : Ordered) × (asked ≡ Some order) × (order.graph ≡ name) × (j ≡ 0))
    ⊎ ((job : Job asked library) × (j < count_in job) × (w : Wanted) × IsReachedAt library job.uses j w
    × (w.name ≡ name))

-- the cause of a fault at moment j, by what the library tells
abbrev pub Cause : Option Ordered → Files → ℕ → RunFault → Type 0
Cause asked library j run.Usage = asked ≡ None
Cause asked library j (run.Graph code path) = IsRefused asked library code path
Cause asked library j (run.Frame node t why) =
    (job : Job asked library) × (j < count_in job) × (first : SeqFault) × IsRefusedAt library job.uses j first
    × IsToldAs job.reel.graph first node t why
Cause asked library j (run.Read name) = IsReadName asked library j name
Cause asked library j (run.Write name) =
    (job : Job asked library) × (j < count_in job) × AreAccepted library job.uses (j + 1)
    × (file_name job.reel j ≡ name)
Cause asked library j run.Memory = Unit {0}
Cause asked library j run.Report = IsAccepted asked library

-- What a fault shows of the outside: of the library and the depot the count of faults before and now and the last name
-- that failed, of the report the count. It rose, and the name is the fault's.
abbrev pub Rose : (library depot : ℕ × ℕ × List ℕ) (out : ℕ × ℕ) → RunFault → Type 0
Rose library depot out (run.Read name) = HasRisen library.0 library.1 × (library.2 ≡ name)
Rose library depot out (run.Write name) = HasRisen depot.0 depot.1 × (depot.2 ≡ name)
Rose library depot out run.Report = HasRisen out.0 out.1
Rose library depot out other = Unit {0}

-- what a fault at moment j leaves in the depot: the files of the moments before it
abbrev pub Leaves : Option Ordered → Files → ℕ → RunFault → Files → Files → Type 0
Leaves asked library j (run.Frame node t why) old new = HasPut asked library j old new
Leaves asked library j (run.Read name) old new = ((j ≡ 0) × SameFiles old new) ⊎ HasPut asked library j old new
Leaves asked library j (run.Write name) old new = HasPutBut asked library j name old new
Leaves asked library j run.Memory old new = SameFiles old new ⊎ ((n : ℕ) × HasPut asked library n old new)
Leaves asked library j run.Report old new = HasPutAll asked library old new
Leaves asked library j other old new = SameFiles old new

-- a fault of the report leaves a front of a report, and each other fault nothing
abbrev pub LeavesReport : RunFault → List ℕ → List ℕ → Type 0
LeavesReport run.Report old new = (report : Report) × AddsPrefix (report_text report) old new
LeavesReport other old new = new ≡ old

-- a front of this run's own report
abbrev pub LeavesOwnReport : Option Ordered → Files → RunFault → List ℕ → List ℕ → Type 0
LeavesOwnReport asked library run.Report old new = HasBegunToTell asked library old new
LeavesOwnReport asked library other old new = Unit {0}

-- how many moments a block has that is read ahead: in other modes than those that put frames none is
abbrev pub ahead_for : Mode → ℕ → ℕ
ahead_for Render ahead = ahead
ahead_for Takes ahead = ahead
ahead_for other ahead = 0

abbrev pub ahead_in : Option Ordered → ℕ
ahead_in None = 0
ahead_in (Some order) = ahead_for order.mode order.ahead

-- no fetch failed, but at a fault of reading or of memory; and at a fault of writing, where later moments are read ahead
abbrev pub LeavesLibrary : Option Ordered → RunFault → ℕ → ℕ → List ℕ → List ℕ → Type 0
LeavesLibrary asked (run.Read name) before now was last = Unit {0}
LeavesLibrary asked (run.Write name) before now was last = ahead_in asked ≡ 0 → IsQuiet before now was last
LeavesLibrary asked run.Memory before now was last = Unit {0}
LeavesLibrary asked other before now was last = IsQuiet before now was last

-- no put failed, but at a fault of writing
abbrev pub LeavesDepot : RunFault → ℕ → ℕ → List ℕ → List ℕ → Type 0
LeavesDepot (run.Write name) before now was last = Unit {0}
LeavesDepot other before now was last = IsQuiet before now was last

-- no write of the report failed, but at a fault of the report
abbrev pub LeavesOut : RunFault → ℕ → ℕ → Type 0
LeavesOut run.Report before now = Unit {0}
LeavesOut other before now = now ≡ before

-- the statuses that a run may end with
abbrev pub is_status : ℕ → Bool
is_status n = list_any (λ status. status == n) (0 ∷ 1 ∷ 2 ∷ 3 ∷ 4 ∷ 5 ∷ 6 ∷ 7 ∷ [])
