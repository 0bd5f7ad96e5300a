-- What a migration puts, reports, and why it ends early. It fetches the graph alone, and puts one file: the same graph
-- in format 2.
use Rattle.std.specs.Prelude.{◌≡◌, ◌⊎◌, ℕ, List, ◌++◌, codes, length, Option, Some, None, Result, Ok, Err}
use Rattle.fx_outside.specs.Outside.{Files, SameFiles, SameBut, AddsPrefix}
use Rattle.fx_text.specs.Fault.{Fault}
use Rattle.fx_text.specs.Migrated.{IsMigrated}
use Rattle.fx_text.specs.Nodes as text
use Rattle.fx_text.specs.declared.fault.GraphCode.{GraphCode}
use Rattle.fx_graph.specs.Refusal.{refusal}
use Rattle.fx_group.specs.Plain.{slash_fault}
use Rattle.fx_words.specs.Ordered.{Ordered}
use Rattle.fx_words.specs.Texts.{migrate_text}
use Rattle.fx_words.specs.declared.fault.RunFault.{RunFault}
use Rattle.fx_words.specs.declared.fault.RunFault.TheVariants as run
use Rattle.fx_modes.specs.Graphs.{FileShown, graph_of, raw_of}
use Rattle.fx_modes.specs.Files.{with_file}
use Rattle.fx_modes.specs.Run.{IsRefused}

-- ---- what is migrated

-- the name of the file that is put
abbrev pub migrated_name : List ℕ → List ℕ
migrated_name name = name ++ codes ".v2"

abbrev pub slash_of : Result text.Graph Fault → Option Fault
slash_of (Ok raw) = slash_fault raw
slash_of (Err fault) = None

-- the first name that has a slash, where the bytes are of format 1
abbrev pub slash_in : List ℕ → Option Fault
slash_in bytes = slash_of (raw_of bytes)

-- an order of a graph that the library tells, and no name of format 1 has a slash
pub record Migration (asked : Option Ordered) (library : Files) : Type 0 where
  pub order : Ordered
  pub ordered : asked ≡ Some order
  pub bytes : List ℕ
  pub told : library order.graph ≡ Some bytes
  pub file : FileShown
  pub is : graph_of bytes ≡ Ok file
  pub plain : slash_in bytes ≡ None

-- a graph under the name, of which a name of format 1 has a slash
pub record IsSlashed (library : Files) (name : List ℕ) (code : GraphCode) (path : List ℕ) : Type 0 where
  pub bytes : List ℕ
  pub told : library name ≡ Some bytes
  pub file : FileShown
  pub is : graph_of bytes ≡ Ok file
  pub slash : slash_in bytes ≡ Some (refusal code path)

-- an order of such a graph
pub record HasSlash (asked : Option Ordered) (library : Files) (code : GraphCode) (path : List ℕ) : Type 0 where
  pub order : Ordered
  pub ordered : asked ≡ Some order
  pub slashed : IsSlashed library order.graph code path

abbrev pub NamesSlash : Option Ordered → Files → Type 0
NamesSlash asked library = (code : GraphCode) × (path : List ℕ) × HasSlash asked library code path

-- ---- what it leaves in the depot

-- The depot has gained the one file, and nothing else: the text of the bytes' value in format 2, which is the same
-- graph.
pub record HasMigrated (asked : Option Ordered) (library old new : Files) : Type 0 where
  pub migration : Migration asked library
  pub text : List ℕ
  pub is : IsMigrated migration.bytes text
  pub same : graph_of text ≡ graph_of migration.bytes
  pub gained : SameFiles (with_file (migrated_name migration.order.graph) text old) new

-- ---- what it reports

-- how many nodes the graph has, with its groups expanded
abbrev pub migrate_report : {asked : Option Ordered} {library : Files} → Migration asked library → List ℕ
migrate_report migration = migrate_text (length migration.file.graph.nodes)

-- the report was written
abbrev pub HasToldNodes : Option Ordered → Files → List ℕ → List ℕ → Type 0
HasToldNodes asked library old new = (migration : Migration asked library) × (new ≡ old ++ migrate_report migration)

-- ---- why it ends early

-- The cause of a fault. No source frame is read; what rests on what the library tells has that as its premise.
abbrev pub MigrateCause : Type 0 → Option Ordered → Files → RunFault → Type 0
MigrateCause tells asked library run.Usage = asked ≡ None
MigrateCause tells asked library (run.Graph code path) =
    tells → IsRefused asked library code path ⊎ HasSlash asked library code path
MigrateCause tells asked library (run.Frame node t why) = ⊥
MigrateCause tells asked library (run.Read name) = (order : Ordered) × (asked ≡ Some order) × (order.graph ≡ name)
MigrateCause tells asked library (run.Write name) =
    (order : Ordered) × (asked ≡ Some order) × (migrated_name order.graph ≡ name) × (tells → Migration asked library)
MigrateCause tells asked library run.Memory = Unit {0}
MigrateCause tells asked library run.Report = tells → Migration asked library

-- what a fault leaves in the depot
abbrev pub LeavesMigrate : Option Ordered → Files → RunFault → Files → Files → Type 0
LeavesMigrate asked library (run.Write name) old new = SameBut name old new
LeavesMigrate asked library run.Memory old new = SameFiles old new ⊎ HasMigrated asked library old new
LeavesMigrate asked library run.Report old new = HasMigrated asked library old new
LeavesMigrate asked library other old new = SameFiles old new

-- a fault of the report leaves a front of it, and each other fault nothing
abbrev pub LeavesMigrateReport : Type 0 → Option Ordered → Files → RunFault → List ℕ → List ℕ → Type 0
LeavesMigrateReport tells asked library run.Report old new =
    (nodes : ℕ) × AddsPrefix (migrate_text nodes) old new
    × (tells → (migration : Migration asked library) × (migrate_text nodes ≡ migrate_report migration))
LeavesMigrateReport tells asked library other old new = new ≡ old
