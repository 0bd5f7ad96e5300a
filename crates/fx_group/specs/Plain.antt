-- A graph of format 1 in format 2, where no name may have a slash.
use Rattle.std.specs.Prelude.{ℕ, nat_eq, List, Option, None, codes, if◌then◌else◌}
use Rattle.fx_text.specs.Fault.{Fault}
use Rattle.fx_text.specs.Nodes.{Node, Graph}
use Rattle.fx_text.specs.declared.fault.GraphCode.TheVariants.{SlashInName}
use Rattle.fx_graph.specs.Refusal.{at_first, node_path}
use Rattle.fx_group.specs.Names.{has_slash}

abbrev pub name_path : Node → List ℕ
name_path n = node_path n.path (codes "name")

-- the first node of a graph of format 1 whose name has a slash
abbrev pub slash_fault : Graph → Option Fault
slash_fault raw =
    if nat_eq raw.format 1
    then at_first (λ n. has_slash n.name) raw.nodes SlashInName name_path
    else None
