-- What a check reports, and why it ends early. It fetches the graph alone, and puts nothing.
use Rattle.std.specs.Prelude.{◌≡◌, ℕ, List, ◌++◌, length, Option, Some, None}
use Rattle.fx_outside.specs.Outside.{Files, AddsPrefix}
use Rattle.fx_words.specs.Ordered.{Ordered}
use Rattle.fx_words.specs.Texts.{check_text}
use Rattle.fx_words.specs.declared.fault.RunFault.{RunFault}
use Rattle.fx_words.specs.declared.fault.RunFault.TheVariants as run
use Rattle.fx_modes.specs.Run.{Job, IsRefused, count_in}

-- how many nodes the graph has, how many frames are to be rendered, and how many source frames they want
abbrev pub check_report : {asked : Option Ordered} {library : Files} → Job asked library → List ℕ
check_report job = check_text (length job.reel.graph.nodes) (count_in job) (length job.uses)

-- the report was written
abbrev pub HasChecked : Option Ordered → Files → List ℕ → List ℕ → Type 0
HasChecked asked library old new = (job : Job asked library) × (new ≡ old ++ check_report job)

-- The cause of a fault. No source frame is read or refused, and no file is written; what rests on what the library
-- tells has that as its premise.
abbrev pub CheckCause : Type 0 → Option Ordered → Files → RunFault → Type 0
CheckCause tells asked library run.Usage = asked ≡ None
CheckCause tells asked library (run.Graph code path) = tells → IsRefused asked library code path
CheckCause tells asked library (run.Frame node t why) = ⊥
CheckCause tells asked library (run.Read name) = (order : Ordered) × (asked ≡ Some order) × (order.graph ≡ name)
CheckCause tells asked library (run.Write name) = ⊥
CheckCause tells asked library run.Memory = Unit {0}
CheckCause tells asked library run.Report = tells → Job asked library

-- a fault of the report leaves a front of it, and each other fault nothing
abbrev pub LeavesCheckReport : Type 0 → Option Ordered → Files → RunFault → List ℕ → List ℕ → Type 0
LeavesCheckReport tells asked library run.Report old new =
    (nodes frames wanted : ℕ) × AddsPrefix (check_text nodes frames wanted) old new
    × (tells → (job : Job asked library) × (check_text nodes frames wanted ≡ check_report job))
LeavesCheckReport tells asked library other old new = new ≡ old
