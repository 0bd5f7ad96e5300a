-- How a run ends early: one record of all that is said of its fault.
use Rattle.std.specs.Prelude.{◌≡◌, ℕ, List, Option, None}
use Rattle.fx_outside.specs.Outside.{Files}
use Rattle.fx_words.specs.Ordered.{Ordered}
use Rattle.fx_words.specs.declared.order.Mode.{Mode}
use Rattle.fx_words.specs.declared.fault.RunFault.{RunFault}
use Rattle.fx_words.specs.declared.fault.RunFault.TheVariants as run
use Rattle.fx_modes.specs.Run.{Rose, LeavesLibrary, LeavesDepot, LeavesOut}
use Rattle.fx_modes.specs.Modes.{CauseIn, LeavesIn, LeavesReportIn}

-- the count of faults and the last name that failed, before and now
pub record Calls : Type 0 where
  pub before : ℕ
  pub now : ℕ
  pub was : List ℕ
  pub last : List ℕ

abbrev pub calls : ℕ → ℕ → List ℕ → List ℕ → Calls
calls before now was last = record { before = before; now = now; was = was; last = last }

-- what a fault shows of the outside, the moment at which it came, its cause, and what it leaves
pub record Ended (mode : Option Mode) (library_tells depot_tells out_tells : Type 0) (asked : Option Ordered)
    (library : Files) (fetches puts : Calls) (writes : ℕ × ℕ) (depot : Files × Files) (report : List ℕ × List ℕ)
    (fault : RunFault) : Type 0 where
  pub moment : ℕ
  pub rose : Rose (fetches.before, fetches.now, fetches.last) (puts.before, puts.now, puts.last) writes fault
  pub cause : CauseIn mode library_tells asked library moment fault
  pub leaves : library_tells → depot_tells → LeavesIn mode asked library moment fault depot.0 depot.1
  pub tells : out_tells → LeavesReportIn mode library_tells asked library fault report.0 report.1
  pub fetched : LeavesLibrary asked fault fetches.before fetches.now fetches.was fetches.last
  pub put : LeavesDepot fault puts.before puts.now puts.was puts.last
  pub wrote : LeavesOut fault writes.0 writes.1
  pub usage : fault ≡ run.Usage → asked ≡ None
