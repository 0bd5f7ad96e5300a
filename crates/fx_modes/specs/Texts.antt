-- What a run writes on `out` and `err`, and its exit status.
use Rattle.std.specs.Prelude.{◌≡◌, ◌⊎◌, ℕ, List, ◌++◌}
use Rattle.fx_outside.specs.Outside.{HasRisen, AddsPrefix}
use Rattle.fx_words.specs.declared.fault.RunFault.{RunFault}
use Rattle.fx_words.specs.declared.fault.RunFault.TheVariants as run

-- the exit status of a fault
abbrev pub status_of : RunFault → ℕ
status_of run.Usage = 1
status_of (run.Graph code path) = 2
status_of (run.Frame node t fault) = 3
status_of (run.Read name) = 4
status_of (run.Write name) = 5
status_of run.Memory = 6
status_of run.Report = 7

-- the line was written, or, where the count of faults rose, a front of it
abbrev pub GainsLine : List ℕ → List ℕ → List ℕ → ℕ → ℕ → Type 0
GainsLine line old new before now = (new ≡ old ++ line) ⊎ (HasRisen before now × AddsPrefix line old new)
