-- What clauses see of an object in memory.
use Rattle.std.specs.Prelude.{ℕ, List}
use Rattle.fx_outside.specs.declared.memory.MemoryLibrary.{MemoryLibrary}
use Rattle.fx_outside.specs.declared.memory.MemoryDepot.{MemoryDepot}
use Rattle.fx_outside.specs.declared.memory.MemorySink.{MemorySink}
use Rattle.fx_outside.specs.Outside.{Files}
use Rattle.fx_outside.specs.Memory.{first_of, kept}
use Rattle.fx_outside.specs.Calls.{Calls}

abbrev pub library_files : MemoryLibrary → Files
library_files library = first_of library.files.items

abbrev pub library_calls : MemoryLibrary → Calls
library_calls library = library.log

abbrev pub depot_files : MemoryDepot → Files
depot_files depot = kept depot.files

abbrev pub depot_calls : MemoryDepot → Calls
depot_calls depot = depot.log

abbrev pub sink_bytes : MemorySink → List ℕ
sink_bytes sink = sink.bytes.items

abbrev pub sink_calls : MemorySink → Calls
sink_calls sink = sink.log
