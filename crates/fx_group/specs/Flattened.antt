-- A list that is expanded, as contracts see it.
use Rattle.std.specs.Prelude.{ℕ, List}
use Rattle.fx_text.specs.Nodes.{Node}
use Rattle.fx_group.specs.declared.flatten.Flattened.{Flattened}
use Rattle.fx_group.specs.declared.flatten.Expanded.{Expanded}
use Rattle.fx_group.specs.Expansion.{Flat}

abbrev pub flat_of : Flattened → Flat
flat_of flat = record { nodes = flat.nodes.items; others = flat.others.items }

abbrev pub made_of : Expanded → List Node × List ℕ
made_of made = (made.nodes.items, made.output)
