-- What clauses see of the files that are read, and of a standard stream.
use Rattle.std.specs.Prelude.{◌≡◌, ℕ, List, Option, IfSome}
use Rattle.fx_outside.specs.declared.real.FileLibrary.{FileLibrary}
use Rattle.fx_outside.specs.declared.real.StdSink.{StdSink}

-- the bytes are all that one of the readers gives, where that is known of it
abbrev pub GivenByOne : {F : Type 0} → (F → Option (List ℕ)) → List ℕ → Type 0
GivenByOne {F} given bytes = (file : F) × IfSome (given file) (λ all. bytes ≡ all)

-- how many bytes of a file are a fault
abbrev pub too_many : {R S T : Type 0} → FileLibrary R S T → ℕ
too_many library = library.too_many

-- what a stream writes to
abbrev pub stream : {W : Type 0} → StdSink W → W
stream sink = sink.writer

-- how often a write failed
abbrev pub stream_faults : {W : Type 0} → StdSink W → ℕ
stream_faults sink = sink.faults
