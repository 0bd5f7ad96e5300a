-- The failures of a run's steps: which fault of the run each is, what it shows of the outside, and what it leaves.
use Rattle.std.specs.Prelude.{◌≡◌, ◌≢◌, ◌⊎◌, ℕ, ◌≤◌, List, [], length, Option, Some, None, unwrap_or, Ok, Err}
use Rattle.fx_outside.specs.Outside.{Files, HasRisen, SameFiles, SameBut, AddsPrefix}
use Rattle.fx_seq.specs.declared.used.Use.{Use}
use Rattle.fx_seq.specs.declared.fault.SeqFault.{SeqFault}
use Rattle.fx_seq.specs.declared.fault.SeqFault.TheVariants as seq
use Rattle.fx_seq.specs.Filling.{IsQuiet}
use Rattle.fx_graph.specs.Refusal.{refusal}
use Rattle.fx_words.specs.declared.fault.RunFault.{RunFault}
use Rattle.fx_words.specs.declared.fault.RunFault.TheVariants as run
use Rattle.fx_modes.specs.declared.graph.GraphFailure.{GraphFailure}
use Rattle.fx_modes.specs.declared.graph.GraphFailure.TheVariants as graph
use Rattle.fx_modes.specs.declared.frames.PutFailure.{PutFailure}
use Rattle.fx_modes.specs.declared.frames.PutFailure.TheVariants as put
use Rattle.fx_modes.specs.declared.report.ReportFailure.{ReportFailure}
use Rattle.fx_modes.specs.declared.report.ReportFailure.TheVariants as report
use Rattle.fx_modes.specs.Graphs.{FileShown, Graph, graph_of, graph_under}
use Rattle.fx_modes.specs.Reels.{Reel}
use Rattle.fx_modes.specs.Files.{AreUsesOf}
use Rattle.fx_modes.specs.Run.{IsToldAs}
use Rattle.fx_modes.specs.Migrate.{slash_in, IsSlashed}
use Rattle.fx_text.specs.Migrated.{IsMigrated, IsSameGraph}
use Rattle.fx_text.specs.declared.fault.GraphFault.{GraphFault}
use Rattle.fx_text.specs.declared.fault.GraphFault.TheVariants as fault
use Rattle.fx_modes.specs.Bench.{BenchCause}
use Rattle.fx_modes.specs.declared.bench.TheConstants.{MOST_FILE_BYTES}
use Rattle.fx_base.specs.Pattern.{runs}
use Rattle.fx_effect.specs.Shape.{IsProject}
use Rattle.fx_words.specs.Ordered.{Ordered}

-- ---- the fault of the run that each is

abbrev pub graph_fault : GraphFailure → RunFault
graph_fault (graph.Read name) = run.Read name
graph_fault (graph.Refused code path) = run.Graph code path
graph_fault graph.Memory = run.Memory

abbrev pub put_fault : PutFailure → RunFault
put_fault (put.Write name) = run.Write name
put_fault put.Memory = run.Memory

abbrev pub report_fault : ReportFailure → RunFault
report_fault report.Report = run.Report
report_fault report.Memory = run.Memory

-- ---- the graph

-- a graph that was not fetched has the last name that failed
abbrev pub GraphFetch : List ℕ → (before now : ℕ) (was last : List ℕ) → GraphFailure → Type 0
GraphFetch name before now was last (graph.Read other) = HasRisen before now × (last ≡ other) × (name ≡ other)
GraphFetch name before now was last (graph.Refused code path) = IsQuiet before now was last
GraphFetch name before now was last graph.Memory = Unit {0}

abbrev pub GraphCause : Files → List ℕ → GraphFailure → Type 0
GraphCause library name (graph.Refused code path) = graph_under library name ≡ Some (Err (refusal code path))
GraphCause library name (graph.Read other) = Unit {0}
GraphCause library name graph.Memory = Unit {0}

-- ---- the source frames

-- the moments want that many source frames
abbrev pub WantsAsMany : Reel → ℕ → Type 0
WantsAsMany r count = (uses : List Use) × AreUsesOf r uses × (count ≡ length uses)

-- the refusal of a frame by the name of its node, where memory is there for that
abbrev pub IsRefusedAs : Graph → SeqFault → RunFault → Type 0
IsRefusedAs g first (run.Frame node t why) = IsToldAs g first node t why
IsRefusedAs g first run.Memory = Unit {0}
IsRefusedAs g first other = ⊥

-- the fault of a run whose source frames failed so
abbrev pub IsSourceFault : Graph → SeqFault → RunFault → Type 0
IsSourceFault g (seq.Fetch node t name) e = e ≡ run.Read name
IsSourceFault g (seq.Frame node t fault) e = IsRefusedAs g (seq.Frame node t fault) e
IsSourceFault g (seq.TooLarge node t sum) e = IsRefusedAs g (seq.TooLarge node t sum) e
IsSourceFault g seq.Memory e = e ≡ run.Memory

-- ---- the files

-- a file that was not put has the last name that failed
abbrev pub FilePut : List ℕ → (before now : ℕ) (was last : List ℕ) → PutFailure → Type 0
FilePut file before now was last (put.Write name) = HasRisen before now × (last ≡ name) × (file ≡ name)
FilePut file before now was last put.Memory = IsQuiet before now was last

abbrev pub LeavesFile : List ℕ → PutFailure → Files → Files → Type 0
LeavesFile file (put.Write name) old new = SameBut file old new
LeavesFile file put.Memory old new = SameFiles old new

-- ---- the report

-- the count of faults rose, or stayed at want of memory
abbrev pub ReportRose : ℕ → ℕ → ReportFailure → Type 0
ReportRose before now report.Report = HasRisen before now
ReportRose before now report.Memory = now ≡ before

-- a front of the text was written
abbrev pub BeginsReport : List ℕ → ReportFailure → List ℕ → List ℕ → Type 0
BeginsReport text report.Report old new = AddsPrefix text old new
BeginsReport text report.Memory old new = new ≡ old

-- ---- what a bench makes

-- a fault before the report, at some moment
pub record IsMakingFault (asked : Option Ordered) (fault : RunFault) : Type 0 where
  pub moment : ℕ
  pub cause : BenchCause asked moment fault
  pub words : fault ≢ run.Usage
  pub no_report : fault ≢ run.Report

-- the project's sides are in range, and different frames have different files
pub record HasFiles (g : Graph) : Type 0 where
  pub extent : IsProject g.project
  pub one_run : runs g.file ≡ 1

-- the bytes of a name: none where it has no file
abbrev pub bytes_under : Files → List ℕ → List ℕ
bytes_under files name = unwrap_or (files name) []

abbrev pub AreShort : Files → Type 0
AreShort files = (name : List ℕ) → length (bytes_under files name) ≤ MOST_FILE_BYTES

-- ---- a migration

-- the bytes under the name are a graph of so many nodes, no name of format 1 has a slash, and the text is that of their
-- value in format 2, which is the same graph
pub record IsMigrationOf (library : Files) (name : List ℕ) (nodes : ℕ) (text : List ℕ) : Type 0 where
  pub bytes : List ℕ
  pub told : library name ≡ Some bytes
  pub file : FileShown
  pub is : graph_of bytes ≡ Ok file
  pub plain : slash_in bytes ≡ None
  pub many : nodes ≡ length file.graph.nodes
  pub made : IsMigrated bytes text
  pub same : graph_of text ≡ graph_of bytes

abbrev pub MigrationCause : Files → List ℕ → GraphFailure → Type 0
MigrationCause library name (graph.Refused code path) =
    (graph_under library name ≡ Some (Err (refusal code path))) ⊎ IsSlashed library name code path
MigrationCause library name (graph.Read other) = Unit {0}
MigrationCause library name graph.Memory = Unit {0}

-- the same of bytes
pub record IsMigrationIn (bytes : List ℕ) (nodes : ℕ) (text : List ℕ) : Type 0 where
  pub file : FileShown
  pub is : graph_of bytes ≡ Ok file
  pub plain : slash_in bytes ≡ None
  pub many : nodes ≡ length file.graph.nodes
  pub made : IsMigrated bytes text
  pub same : graph_of text ≡ graph_of bytes

-- the bytes' graph; a name of it has no slash, and a text that says the same in format 2 is the same graph
pub record IsPlainGraph (bytes : List ℕ) (file : FileShown) : Type 0 where
  pub is : graph_of bytes ≡ Ok file
  pub plain : slash_in bytes ≡ None
  pub stays : (text : List ℕ) → IsSameGraph bytes text → graph_of text ≡ Ok file

-- the bytes are no graph, or a name of format 1 has a slash
abbrev pub MigrationRefused : List ℕ → GraphFault → Type 0
MigrationRefused bytes fault.Memory = Unit {0}
MigrationRefused bytes (fault.Refused code path) =
    (graph_of bytes ≡ Err (refusal code path))
    ⊎ ((file : FileShown) × (graph_of bytes ≡ Ok file) × (slash_in bytes ≡ Some (refusal code path)))
