-- The names that are known so far, in a map.
use Rattle.std.specs.Prelude.{◌≡◌, ℕ, Bool, List, is_some, String}
use Rattle.std.specs.BTreeMap.{BTreeMap, get_by_text}
use Rattle.std.specs.declared.alloc.Global.{Global}
use Rattle.fx_group.specs.Names.{is_among}

abbrev pub in_map : BTreeMap (String Global) ℕ → List ℕ → Bool
in_map known name = is_some (get_by_text known name)

-- the map has these names, and no others
abbrev pub IsKnown : BTreeMap (String Global) ℕ → List (List ℕ) → Type 0
IsKnown known names = (name : List ℕ) → in_map known name ≡ is_among names name
