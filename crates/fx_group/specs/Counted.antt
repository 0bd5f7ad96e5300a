-- The sizes of groups, as they are counted: each at the group's place in the file.
use Rattle.std.specs.Prelude.{◌≡◌, ℕ, List, [], ◌∷◌, length, slice_get, Some}
use Rattle.fx_text.specs.Nodes.{Group}
use Rattle.fx_group.specs.Sizes.{nodes_size, group_size, capped}

-- each by the groups before it; the latest group stands first
abbrev pub AreSizes : List Group → List ℕ → Type 0
AreSizes [] sizes = Unit {0}
AreSizes (g ∷ gs) sizes =
    (slice_get sizes (length gs) ≡ Some (capped (nodes_size (group_size gs) g.nodes))) × AreSizes gs sizes
