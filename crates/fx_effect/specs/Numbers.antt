-- The numbers of parameters.
use Rattle.std.specs.Prelude.{ℕ, ℤ, pos, negsuc, slice_index_or}
use Rattle.fx_effect.specs.declared.values.Values.{Values}

-- the number of the parameter at a place
abbrev pub number : Values → ℕ → ℤ
number v place = slice_index_or v.numbers place (pos 0)

-- a number that isn't negative
abbrev pub natural : ℤ → ℕ
natural (pos n) = n
natural (negsuc n) = 0
