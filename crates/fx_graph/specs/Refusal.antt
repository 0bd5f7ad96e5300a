-- Why a graph is refused: rows of a table, each of which gives a fault or none, and the first fault in their order.
use Rattle.std.specs.Prelude.{◌≡◌, ℕ, Bool, List, [], ◌∷◌, ◌++◌, codes, Option, Some, None, Result, Ok, Err, if◌then◌else◌}
use Rattle.std.specs.Option.{option_or, option_map}
use Rattle.std.specs.List.{find}
use Rattle.fx_text.specs.Fault.{Fault}
use Rattle.fx_text.specs.declared.fault.GraphCode.{GraphCode}
use Rattle.fx_text.specs.declared.fault.GraphFault.{GraphFault}
use Rattle.fx_text.specs.declared.fault.GraphFault.TheVariants as fault

abbrev pub refusal : GraphCode → List ℕ → Fault
refusal code path = record { code = code; path = path }

-- the path of a member of the node at a path
abbrev pub node_path : List ℕ → List ℕ → List ℕ
node_path path member = path ++ codes "." ++ member

abbrev pub clip_path : List ℕ → List ℕ → List ℕ
clip_path path name = node_path path (codes "clips." ++ name)

abbrev pub param_path : List ℕ → List ℕ → List ℕ
param_path path name = node_path path (codes "params." ++ name)

-- the fault of a code at a path
abbrev pub fault_at : List ℕ → Option GraphCode → Option Fault
fault_at path code = option_map (λ c. refusal c path) code

-- a row of the table: refused exactly where the test holds
abbrev pub where_so : Bool → GraphCode → List ℕ → Option Fault
where_so test code path = if test then Some (refusal code path) else None

-- a row over a list: refused at the first item for which the test holds
abbrev pub at_first : {A : Type 0} → (A → Bool) → List A → GraphCode → (A → List ℕ) → Option Fault
at_first test items code path = option_map (λ a. refusal code (path a)) (find test items)

-- the first of these rows that refuses
abbrev pub first_of : List (Option Fault) → Option Fault
first_of [] = None
first_of (row ∷ rows) = option_or row (first_of rows)

-- the first item whose row refuses
abbrev pub first_in : {A : Type 0} → (A → Option Fault) → List A → Option Fault
first_in row [] = None
first_in row (a ∷ items) = option_or (row a) (first_in row items)

-- refused where the row refuses, and else this
abbrev pub refused_or : {A : Type 0} → Option Fault → Result A Fault → Result A Fault
refused_or None given = given
refused_or (Some r) given = Err r

-- what was found, and refused where nothing was
abbrev pub found_or : {A : Type 0} → GraphCode → List ℕ → Option A → Result A Fault
found_or code path (Some a) = Ok a
found_or code path None = Err (refusal code path)

-- the fault tells this refusal, or want of memory
abbrev pub Tells : Option Fault → GraphFault → Type 0
Tells row fault.Memory = Unit {0}
Tells row (fault.Refused code path) = row ≡ Some (refusal code path)

abbrev pub TellsErr : {A : Type 0} → Result A Fault → GraphFault → Type 0
TellsErr given fault.Memory = Unit {0}
TellsErr given (fault.Refused code path) = given ≡ Err (refusal code path)
