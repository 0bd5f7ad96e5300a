-- What a plan reports, and why it ends early. It reads what a render reads, and puts nothing.
use Rattle.std.specs.Prelude.{◌≡◌, ◌+◌, ℕ, pos, List, [], ◌∷◌, ◌++◌, length, map, Option}
use Rattle.fx_outside.specs.Outside.{Files, AddsPrefix}
use Rattle.fx_plan.specs.Plan.{IsPlanOf}
use Rattle.fx_plan.specs.declared.entry.Entry.{Entry}
use Rattle.fx_scene.specs.Scenes.{Images}
use Rattle.fx_shipped.specs.Shipped.{meaning_of}
use Rattle.fx_words.specs.Ordered.{Ordered}
use Rattle.fx_words.specs.Texts.{plan_text}
use Rattle.fx_words.specs.declared.plan.PlanFrame.{PlanFrame}
use Rattle.fx_words.specs.declared.plan.PlanLine.{PlanLine}
use Rattle.fx_words.specs.declared.fault.RunFault.{RunFault}
use Rattle.fx_words.specs.declared.fault.RunFault.TheVariants as run
use Rattle.fx_modes.specs.Graphs.{Graph}
use Rattle.fx_modes.specs.Files.{AreImages, wanted_of}
use Rattle.fx_modes.specs.Reels.{scaled_in}
use Rattle.fx_modes.specs.Run.{IsAccepted, Cause, count_in}

-- ---- what it reports

-- an entry of a plan, as a line tells it
abbrev pub line_of : Entry → PlanLine
line_of e = record { node = e.node; frame = e.frame; region = e.region }

-- the lines are those of the plan of frame t of a graph over these images, by a grid of this side
pub record AreLinesOf (g : Graph) (images : Images) (side t : ℕ) (lines : List PlanLine) : Type 0 where
  pub entries : List Entry
  pub plan : IsPlanOf meaning_of g images side (pos t) entries
  pub lines_are : lines ≡ map line_of entries

-- these are the frames from t on, one after the other, each with the lines of its plan
abbrev pub ArePlanned : Graph → Images → ℕ → ℕ → List PlanFrame → Type 0
ArePlanned g images side t [] = Unit {0}
ArePlanned g images side t (f ∷ fs) =
    (f.frame ≡ t) × AreLinesOf g images side t f.entries × ArePlanned g images side (t + 1) fs

-- these are all frames that are asked for, each with its plan, over the source frames that they want at the size that
-- is ordered
pub record ArePlansOf (asked : Option Ordered) (library : Files) (frames : List PlanFrame) : Type 0 where
  pub known : IsAccepted asked library
  pub images : Images
  pub are : AreImages library (wanted_of known.job.uses) images
  pub many : length frames ≡ count_in known.job
  pub planned :
      let r = known.job.reel in
      ArePlanned r.graph (scaled_in r images) known.job.order.tile r.first frames

-- the report was written
abbrev pub HasPlanned : Option Ordered → Files → List ℕ → List ℕ → Type 0
HasPlanned asked library old new =
    (frames : List PlanFrame) × ArePlansOf asked library frames × (new ≡ old ++ plan_text frames)

-- ---- why it ends early

-- The cause of a fault at moment j: that of a render. No file is written; what rests on what the library tells has that
-- as its premise.
abbrev pub PlanCause : Type 0 → Option Ordered → Files → ℕ → RunFault → Type 0
PlanCause tells asked library j (run.Write name) = ⊥
PlanCause tells asked library j fault = tells → Cause asked library j fault

-- a fault of the report leaves a front of it, and each other fault nothing
abbrev pub LeavesPlanReport : Type 0 → Option Ordered → Files → RunFault → List ℕ → List ℕ → Type 0
LeavesPlanReport tells asked library run.Report old new =
    (frames : List PlanFrame) × AddsPrefix (plan_text frames) old new × (tells → ArePlansOf asked library frames)
LeavesPlanReport tells asked library other old new = new ≡ old
