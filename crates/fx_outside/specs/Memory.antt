-- What the objects in memory hold.
use Rattle.std.specs.Prelude.{ℕ, String, List, option_map, find, Vec}
use Rattle.std.specs.declared.alloc.Global.{Global}
use Rattle.std.specs.Str.{bytes_eq}
use Rattle.std.specs.BTreeMap.{BTreeMap, get_by_text}
use Rattle.fx_outside.specs.Outside.{Files}

-- the bytes of the first file of that name
abbrev pub first_of : List (List ℕ × Vec ℕ Global) → Files
first_of files name = option_map (λ file. file.1.items) (find (λ file. bytes_eq file.0 name) files)

-- the bytes at that name
abbrev pub kept : BTreeMap (String Global) (Vec ℕ Global) → Files
kept files name = option_map (λ bytes. bytes.items) (get_by_text files name)
