-- The numbers of lawful values lie in the ranges of their parameters.
use Rattle.std.specs.Prelude.{ℕ, ◌≤◌, ◌<◌, ℤ, pos, negsuc, ◌≤ℤ◌, List, [], ◌∷◌, length, slice_index_or}
use Rattle.std.specs.List.{AllZip}
use Rattle.std.proofs.Common.{zero, suc, arith}
use Rattle.std.proofs.lemmas.Int.{ints}
use Rattle.fx_params.specs.declared.def.ParamDef.{ParamDef}
use Rattle.fx_effect.specs.Shape.{InRange}
use Rattle.fx_effect.specs.Numbers.{number, natural}
use Rattle.fx_effect.specs.declared.values.Values.{Values}

within_at : (defs : List ParamDef) (numbers : List ℤ) (k : ℕ) (d : ParamDef) → AllZip InRange defs numbers
    → k < length defs → InRange (slice_index_or defs k d) (slice_index_or numbers k (pos 0))
within_at [] numbers k d all low = absurd (omega arith)
within_at (x ∷ xs) [] k d all low = elim all [ ]
within_at (x ∷ xs) (n ∷ ns) zero d all low = all.0
within_at (x ∷ xs) (n ∷ ns) (suc k) d all low = within_at xs ns k d all.1 (omega arith)

-- the number of a parameter lies in its range
pub number_within : (defs : List ParamDef) (v : Values) (k : ℕ) (d : ParamDef) → AllZip InRange defs v.numbers
    → k < length defs → InRange (slice_index_or defs k d) (number v k)
number_within defs v k d all low = within_at defs v.numbers k d all low

pub record Between (low high n : ℤ) : Type 0 where
  pub above : low ≤ℤ n
  pub below : n ≤ℤ high

between : (def : ParamDef) (n : ℤ) → InRange def n → Between def.least def.greatest n
between def n within = record { above = grind (arith, ints); below = grind (arith, ints) }

-- the same by the ends of the range
pub number_between : (defs : List ParamDef) (v : Values) (k : ℕ) (d : ParamDef) → AllZip InRange defs v.numbers
    → k < length defs → Between (slice_index_or defs k d).least (slice_index_or defs k d).greatest (number v k)
number_between defs v k d all low = between (slice_index_or defs k d) (number v k) (number_within defs v k d all low)

pub natural_up_to : (n : ℤ) (most : ℕ) → n ≤ℤ pos most → natural n ≤ most
natural_up_to (pos n) most below = omega (arith, ints)
natural_up_to (negsuc n) most below = omega arith
