-- The graph with its uses expanded, or the first fault.
use Rattle.std.specs.Prelude.{◌≡◌, nat_eq, nat_lt, false, List, [], ◌∷◌, codes, Option, Result, Ok, reverse, if◌then◌else◌}
use Rattle.fx_text.specs.Fault.{Fault}
use Rattle.fx_text.specs.Nodes.{Node, Group, Graph}
use Rattle.fx_text.specs.declared.fault.GraphCode.TheVariants.{TooManyNodes}
use Rattle.fx_graph.specs.Refusal.{where_so, first_of, refused_or}
use Rattle.fx_group.specs.Expansion.{Flat, most_nodes, meant, nodes_expanded, expander, flat_of}
use Rattle.fx_group.specs.Faults.{groups_fault, nodes_fault, expand_fault}
use Rattle.fx_group.specs.Sizes.{nodes_size, group_size}
use Rattle.fx_group.specs.Theorem.{AreInstances}

-- the main list, by groups of which the latest stands first
abbrev pub list_expanded : List Group → List Node → Flat
list_expanded groups nodes = nodes_expanded (expander groups) [] (record { nodes = []; others = [] }) nodes

-- each use is replaced, and where the output is a use it is the node of its group's output; in format 1 all is as it was
abbrev pub expanded_graph : Graph → Graph
expanded_graph raw =
    if nat_eq raw.format 1 then raw else
    record raw {
      groups = [];
      nodes = (flat_of raw).nodes;
      output = record raw.output { node = meant (flat_of raw).others [] raw.output.node };
    }

abbrev pub expand_of : Graph → Result Graph Fault
expand_of raw = refused_or (expand_fault raw) (Ok (expanded_graph raw))

-- the nodes of a graph of format 2 are the instances of another
abbrev pub AreInstancesOf : Graph → Graph → Type 0
AreInstancesOf raw g = nat_eq raw.format 1 ≡ false → AreInstances raw g.nodes

-- the faults of groups that stand latest first, and of a list that may use them
abbrev pub lists_fault : List Group → List Node → Option Fault
lists_fault groups nodes =
    first_of (groups_fault 0 [] (reverse groups)
    ∷ nodes_fault groups [] nodes
    ∷ where_so (nat_lt most_nodes (nodes_size (group_size groups) nodes)) TooManyNodes (codes "nodes")
    ∷ [])
