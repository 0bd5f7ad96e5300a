-- What clauses see of an object in memory that never fails.
use Rattle.std.specs.Prelude.{ℕ, List, [], Some, unwrap_or}
use Rattle.fx_outside.specs.declared.sure.SureLibrary.{SureLibrary}
use Rattle.fx_outside.specs.declared.sure.SureDepot.{SureDepot}
use Rattle.fx_outside.specs.declared.sure.SureSink.{SureSink}
use Rattle.fx_outside.specs.Outside.{Files}
use Rattle.fx_outside.specs.Memory.{first_of, kept}

-- these files, and the empty text at every other name
abbrev pub or_empty : Files → Files
or_empty files name = Some (unwrap_or (files name) [])

abbrev pub sure_library_files : SureLibrary → Files
sure_library_files library = or_empty (first_of library.files.items)

abbrev pub sure_depot_files : SureDepot → Files
sure_depot_files depot = kept depot.files

abbrev pub sure_sink_bytes : SureSink → List ℕ
sure_sink_bytes sink = sink.bytes.items
