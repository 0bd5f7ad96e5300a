-- Why a run ends early, and what it leaves, by its mode. Words that are no order end as those of a render.
use Rattle.std.specs.Prelude.{ℕ, List, Option, Some}
use Rattle.fx_outside.specs.Outside.{Files, SameFiles}
use Rattle.fx_words.specs.Ordered.{Ordered}
use Rattle.fx_words.specs.declared.order.Mode.{Mode}
use Rattle.fx_words.specs.declared.order.Mode.TheVariants.{Check, Bench, Migrate, Plan}
use Rattle.fx_words.specs.declared.fault.RunFault.{RunFault}
use Rattle.fx_modes.specs.Run.{Cause, Leaves, LeavesReport, LeavesOwnReport}
use Rattle.fx_modes.specs.Check.{CheckCause, LeavesCheckReport}
use Rattle.fx_modes.specs.Bench.{BenchCause, LeavesBenchReport}
use Rattle.fx_modes.specs.Migrate.{MigrateCause, LeavesMigrate, LeavesMigrateReport}
use Rattle.fx_modes.specs.Plans.{PlanCause, LeavesPlanReport}

-- the cause of a fault at moment j, where `tells` says that the library tells its files
abbrev pub CauseIn : Option Mode → Type 0 → Option Ordered → Files → ℕ → RunFault → Type 0
CauseIn (Some Check) tells asked library j fault = CheckCause tells asked library fault
CauseIn (Some Bench) tells asked library j fault = BenchCause asked j fault
CauseIn (Some Migrate) tells asked library j fault = MigrateCause tells asked library fault
CauseIn (Some Plan) tells asked library j fault = PlanCause tells asked library j fault
CauseIn _ tells asked library j fault = tells → Cause asked library j fault

-- what a fault at moment j leaves in the depot: a check, a bench and a plan put nothing there
abbrev pub LeavesIn : Option Mode → Option Ordered → Files → ℕ → RunFault → Files → Files → Type 0
LeavesIn (Some Check) asked library j fault old new = SameFiles old new
LeavesIn (Some Bench) asked library j fault old new = SameFiles old new
LeavesIn (Some Migrate) asked library j fault old new = LeavesMigrate asked library fault old new
LeavesIn (Some Plan) asked library j fault old new = SameFiles old new
LeavesIn _ asked library j fault old new = Leaves asked library j fault old new

-- what a fault leaves of the report
abbrev pub LeavesReportIn : Option Mode → Type 0 → Option Ordered → Files → RunFault → List ℕ → List ℕ → Type 0
LeavesReportIn (Some Check) tells asked library fault old new = LeavesCheckReport tells asked library fault old new
LeavesReportIn (Some Bench) tells asked library fault old new = LeavesBenchReport asked fault old new
LeavesReportIn (Some Migrate) tells asked library fault old new = LeavesMigrateReport tells asked library fault old new
LeavesReportIn (Some Plan) tells asked library fault old new = LeavesPlanReport tells asked library fault old new
LeavesReportIn _ tells asked library fault old new =
    LeavesReport fault old new × (tells → LeavesOwnReport asked library fault old new)
