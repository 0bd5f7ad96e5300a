-- An answer that is the definition's, unless memory was wanting.
use Rattle.std.specs.Prelude.{◌≡◌, ◌≢◌, Result, Ok, Err, IfOk, IfErr}
use Rattle.fx_text.specs.declared.fault.GraphFault.{GraphFault}
use Rattle.fx_text.specs.declared.fault.GraphFault.TheVariants.{Memory}
use Rattle.fx_text.specs.Fault.{Fault, told}

-- a fault that isn't want of memory is the definition's
abbrev pub Refuses : {T A : Type 0} → Result T GraphFault → Result A Fault → Type 0
Refuses result wanted = IfErr result (λ fault. fault ≢ Memory → wanted ≡ Err (told fault))

abbrev pub Answers : {T : Type 0} → Result T GraphFault → Result T Fault → Type 0
Answers result wanted = IfOk result (λ value. wanted ≡ Ok value) × Refuses result wanted
