-- Names: what stands under one, whether it is one of these, and whether it has a slash.
use Rattle.std.specs.Prelude.{ℕ, nat_eq, Bool, List, [], ◌∷◌, Option, Some, None, if◌then◌else◌}
use Rattle.std.specs.List.{list_any}
use Rattle.std.specs.Str.{bytes_eq}

-- what stands under a name
abbrev pub look : {A : Type 0} → List (List ℕ × A) → List ℕ → Option A
look [] name = None
look (e ∷ es) name = if bytes_eq e.0 name then Some e.1 else look es name

-- the name is one of these
abbrev pub is_among : List (List ℕ) → List ℕ → Bool
is_among names name = list_any (λ n. bytes_eq n name) names

abbrev pub has_slash : List ℕ → Bool
has_slash text = list_any (λ b. nat_eq b 47) text
