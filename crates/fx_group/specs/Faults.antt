-- Why the groups of a graph are refused: the first fault, group by group and then through the main list.
use Rattle.std.specs.Prelude.{ℕ, ◌+◌, nat_eq, nat_lt, not, Bool, List, [], ◌∷◌, ◌++◌, length, map, codes, Option, Some, None, if◌then◌else◌}
use Rattle.std.specs.List.{list_any}
use Rattle.std.specs.Option.{option_or}
use Rattle.std.specs.Str.{bytes_eq}
use Rattle.fx_text.specs.Fault.{Fault}
use Rattle.fx_text.specs.Nodes.{Node, Group, Graph}
use Rattle.fx_text.specs.Paths.{inside}
use Rattle.fx_text.specs.declared.fault.GraphCode.TheVariants.{NameRepeated, UnknownClip, ClipMissing, NoEarlierNode, UnknownOutput}
use Rattle.fx_text.specs.declared.fault.GraphCode.TheVariants.{UnknownGroup, TooManyNodes, SlashInName}
use Rattle.fx_text.specs.declared.raw.RawWork.{RawWork}
use Rattle.fx_text.specs.declared.raw.RawWork.TheVariants as work
use Rattle.fx_text.specs.declared.value.RawClip.{RawClip}
use Rattle.fx_graph.specs.Refusal.{refusal, where_so, at_first, first_of, node_path, clip_path}
use Rattle.fx_graph.specs.Uses.{is_connected}
use Rattle.fx_group.specs.Names.{is_among, has_slash}
use Rattle.fx_group.specs.Expansion.{latest_first, group_named, expanded, most_nodes}

-- a name, where that name may be taken
abbrev pub name_fault : List ℕ → Bool → List ℕ → Option Fault
name_fault path taken name =
    first_of (where_so (has_slash name) SlashInName path ∷ where_so taken NameRepeated path ∷ [])

abbrev pub slashed_clip : List ℕ → List RawClip → Option Fault
slashed_clip path clips = at_first (λ r. has_slash r.node) clips SlashInName (λ r. clip_path path r.name)

-- whether a text names an input or an earlier node of the list
abbrev pub Known : Type 0
Known = List ℕ → Bool

abbrev pub other_clip : List ℕ → List (List ℕ) → List RawClip → Option Fault
other_clip path inputs clips =
    at_first (λ r. not (is_among inputs r.name)) clips UnknownClip (λ r. clip_path path r.name)

abbrev pub missing_clip : List ℕ → List (List ℕ) → List RawClip → Option Fault
missing_clip path inputs clips = at_first (λ i. not (is_connected clips i)) inputs ClipMissing (clip_path path)

abbrev pub lost_clip : Known → List ℕ → List RawClip → Option Fault
lost_clip known path clips = at_first (λ r. not (known r.node)) clips NoEarlierNode (λ r. clip_path path r.name)

-- the clips of a use of a group that has these inputs
abbrev pub clips_fault : Known → List ℕ → List (List ℕ) → List RawClip → Option Fault
clips_fault known path inputs clips =
    first_of (other_clip path inputs clips
    ∷ missing_clip path inputs clips
    ∷ slashed_clip path clips
    ∷ lost_clip known path clips
    ∷ [])

-- a use of a group
abbrev pub use_fault : Known → List ℕ → Option Group → List RawClip → Option Fault
use_fault known path None clips = Some (refusal UnknownGroup (node_path path (codes "group")))
use_fault known path (Some g) clips = clips_fault known path g.inputs clips

abbrev pub work_fault : List Group → Known → List ℕ → RawWork → Option Fault
work_fault groups known path (work.Source pattern first last hold depth components) = None
work_fault groups known path (work.Effect effect context clips params) = slashed_clip path clips
work_fault groups known path (work.GroupUse group clips) = use_fault known path (group_named groups group) clips

-- a node that may use these groups
abbrev pub node_fault : List Group → Known → Node → Option Fault
node_fault groups known n =
    first_of (name_fault (node_path n.path (codes "name")) (known n.name) n.name
    ∷ work_fault groups known n.path n.work
    ∷ [])

-- nodes that may use these groups, behind nodes and inputs of these names
abbrev pub nodes_fault : List Group → List (List ℕ) → List Node → Option Fault
nodes_fault groups names [] = None
nodes_fault groups names (n ∷ ns) =
    option_or (node_fault groups (is_among names) n) (nodes_fault groups (names ++ n.name ∷ []) ns)

abbrev pub input_path : List ℕ → ℕ → List ℕ
input_path path k = node_path path (inside (codes "inputs") k)

-- the inputs of a group from the k-th on, behind these
abbrev pub inputs_fault : List ℕ → ℕ → List (List ℕ) → List (List ℕ) → Option Fault
inputs_fault path k before [] = None
inputs_fault path k before (i ∷ is) =
    option_or (name_fault (input_path path k) (is_among before i) i) (inputs_fault path (k + 1) (before ++ i ∷ []) is)

abbrev pub is_group : List Group → List ℕ → Bool
is_group groups name = list_any (λ g. bytes_eq g.name name) groups

abbrev pub node_names : List Node → List (List ℕ)
node_names nodes = map (λ n. n.name) nodes

-- a group that may use these
abbrev pub group_fault : List ℕ → List Group → Group → Option Fault
group_fault path before g =
    first_of (name_fault (node_path path (codes "name")) (is_group before g.name) g.name
    ∷ inputs_fault path 0 [] g.inputs
    ∷ nodes_fault before g.inputs g.nodes
    ∷ where_so (not (is_among (node_names g.nodes) g.output)) UnknownOutput (node_path path (codes "output"))
    ∷ [])

-- the groups from the k-th on, behind these, of which the latest stands first
abbrev pub groups_fault : ℕ → List Group → List Group → Option Fault
groups_fault k before [] = None
groups_fault k before (g ∷ gs) =
    option_or (group_fault (inside (codes "groups") k) before g) (groups_fault (k + 1) (g ∷ before) gs)

-- groups, then the nodes, then their number when they are expanded; in format 1 there are no groups
abbrev pub expand_fault : Graph → Option Fault
expand_fault raw =
    if nat_eq raw.format 1 then None else
    first_of (groups_fault 0 [] raw.groups
    ∷ nodes_fault (latest_first raw.groups) [] raw.nodes
    ∷ where_so (nat_lt most_nodes (length (expanded raw))) TooManyNodes (codes "nodes")
    ∷ [])
