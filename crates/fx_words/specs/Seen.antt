-- clap's errors: want of memory, and every other kind.
use Rattle.std.specs.Prelude.{◌≡◌, Bool, true, false, Option, Some, None, Result, IfOk, IsErrOf}
use Rattle.clap.specs.Values.{kind_of}
use Rattle.clap.specs.declared.error.Error.{Error}
use Rattle.clap.specs.declared.error.kind.ErrorKind.{ErrorKind}
use Rattle.clap.specs.declared.error.kind.ErrorKind.TheVariants as kind
use Rattle.fx_words.specs.declared.words.WordFault.{WordFault}
use Rattle.fx_words.specs.declared.words.WordFault.TheVariants.{Usage}

abbrev pub is_memory_kind : ErrorKind → Bool
is_memory_kind kind.OutOfMemory = true
is_memory_kind _ = false

abbrev pub is_memory : Error → Bool
is_memory e = is_memory_kind (kind_of e)

-- an answer that is the definition's, unless memory was wanting
abbrev pub Reads : {T : Type 0} → Result T WordFault → Option T → Type 0
Reads result wanted = IfOk result (λ value. wanted ≡ Some value) × (IsErrOf result Usage → wanted ≡ None)
