-- The order of a node's clips, and of its parameters: their names rise strictly, as bytes.
use Rattle.std.specs.Prelude.{ℕ, List, map}
use Rattle.std.specs.Cmp.Lexicographic.{slice_cmp}
use Rattle.std.specs.List.Sorted.{IsStrictlySortedBy}
use Rattle.std.specs.Ordering.{nat_cmp}
use Rattle.fx_text.specs.declared.value.RawClip.{RawClip}
use Rattle.fx_text.specs.declared.value.RawParam.{RawParam}

-- each of these texts is below all that stand after it, byte by byte
abbrev pub Rise : List (List ℕ) → Type 0
Rise = IsStrictlySortedBy (slice_cmp nat_cmp)

abbrev pub ClipsRise : List RawClip → Type 0
ClipsRise clips = Rise (map (λ c. c.name) clips)

abbrev pub ParamsRise : List RawParam → Type 0
ParamsRise params = Rise (map (λ p. p.name) params)
