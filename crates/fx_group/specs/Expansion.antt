-- The nodes of a graph with each use replaced, at its place, by the nodes of its group: each is named by the use's
-- name, a slash and its own name.
use Rattle.std.specs.Prelude.{ℕ, List, [], ◌∷◌, ◌++◌, map, Option, Some, None, if◌then◌else◌, unwrap_or}
use Rattle.std.specs.List.{find}
use Rattle.std.specs.Str.{bytes_eq}
use Rattle.fx_base.specs.declared.limits.TheConstants.{MOST_NODES}
use Rattle.fx_text.specs.Nodes.{Node, Group, Graph}
use Rattle.fx_text.specs.declared.raw.RawWork.{RawWork}
use Rattle.fx_text.specs.declared.raw.RawWork.TheVariants as work
use Rattle.fx_text.specs.declared.value.RawClip.{RawClip}
use Rattle.fx_group.specs.Names.{look}

abbrev pub most_nodes : ℕ
most_nodes = MOST_NODES

-- the groups, of which the latest stands first
abbrev pub behind : List Group → List Group → List Group
behind before [] = before
behind before (g ∷ gs) = behind (g ∷ before) gs

abbrev pub latest_first : List Group → List Group
latest_first groups = behind [] groups

abbrev pub group_named : List Group → List ℕ → Option Group
group_named groups name = find (λ g. bytes_eq g.name name) groups

-- what each of these names stands for
abbrev pub Targets : Type 0
Targets = List (List ℕ × List ℕ)

-- what a text stands for under a prefix: an input or a use for its target, every other name for itself
abbrev pub meant : Targets → List ℕ → List ℕ → List ℕ
meant others prefix text = unwrap_or (look others text) (prefix ++ text)

abbrev pub prefixed : List ℕ → List ℕ → List ℕ
prefixed prefix name = prefix ++ (name ++ 47 ∷ [])

-- a list that is expanded: its nodes so far, and the names that stand for another
pub record Flat : Type 0 where
  pub nodes : List Node
  pub others : Targets

-- how a group expands under a prefix, where its clips are connected to these: its nodes, and its output's name
abbrev pub Expander : Type 0
Expander = List ℕ → List ℕ → Targets → List Node × List ℕ

abbrev pub with_clips : List RawClip → (List ℕ → List ℕ) → List RawClip
with_clips clips f = map (λ c. record { name = c.name; node = f c.node }) clips

abbrev pub connected : List RawClip → (List ℕ → List ℕ) → Targets
connected clips f = map (λ c. (c.name, f c.node)) clips

abbrev pub kept : Flat → List ℕ → List ℕ → List ℕ → RawWork → Flat
kept flat prefix name path w =
    let node : Node = record { name = prefix ++ name; path = path; work = w } in
    record { nodes = flat.nodes ++ node ∷ []; others = flat.others }

abbrev pub replaced : Flat → List ℕ → List Node × List ℕ → Flat
replaced flat name e = record { nodes = flat.nodes ++ e.0; others = flat.others ++ (name, e.1) ∷ [] }

abbrev pub work_expanded : Expander → List ℕ → Flat → List ℕ → List ℕ → RawWork → Flat
work_expanded expand prefix flat name path (work.Source pattern first last hold depth components) =
    kept flat prefix name path (work.Source pattern first last hold depth components)
work_expanded expand prefix flat name path (work.Effect effect context clips params) =
    kept flat prefix name path (work.Effect effect context (with_clips clips (meant flat.others prefix)) params)
work_expanded expand prefix flat name path (work.GroupUse group clips) =
    replaced flat name (expand group (prefixed prefix name) (connected clips (meant flat.others prefix)))

abbrev pub nodes_expanded : Expander → List ℕ → Flat → List Node → Flat
nodes_expanded expand prefix flat [] = flat
nodes_expanded expand prefix flat (n ∷ ns) =
    nodes_expanded expand prefix (work_expanded expand prefix flat n.name n.path n.work) ns

-- each input by the clip that connects it
abbrev pub input_target : List ℕ → Option (List ℕ) → Targets → Targets
input_target input None more = more
input_target input (Some t) more = (input, t) ∷ more

abbrev pub inputs_meant : List (List ℕ) → Targets → Targets
inputs_meant [] clips = []
inputs_meant (i ∷ is) clips = input_target i (look clips i) (inputs_meant is clips)

abbrev pub flat_output : Flat → List ℕ → List ℕ → List Node × List ℕ
flat_output flat prefix output = (flat.nodes, meant flat.others prefix output)

abbrev pub group_expanded : Expander → Group → List ℕ → Targets → List Node × List ℕ
group_expanded expand g prefix clips =
    let start : Flat = record { nodes = []; others = inputs_meant g.inputs clips } in
    flat_output (nodes_expanded expand prefix start g.nodes) prefix g.output

-- each group expands by those before it
abbrev pub expander : List Group → Expander
expander [] group prefix clips = ([], [])
expander (g ∷ gs) group prefix clips =
    if bytes_eq g.name group then group_expanded (expander gs) g prefix clips else expander gs group prefix clips

abbrev pub flat_of : Graph → Flat
flat_of raw = nodes_expanded (expander (latest_first raw.groups)) [] (record { nodes = []; others = [] }) raw.nodes

abbrev pub expanded : Graph → List Node
expanded raw = (flat_of raw).nodes
