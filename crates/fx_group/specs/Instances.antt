-- What a graph with groups means, with no expansion in it: a group is a body that is read anew at each of its uses,
-- where each input has the value of what the use connects there, and a use has the value of its group's output.
use Rattle.std.specs.Prelude.{ℕ, Bool, List, [], ◌∷◌, ◌++◌, map, Option, Some, None, if◌then◌else◌}
use Rattle.std.specs.Option.{option_flatten, option_or}
use Rattle.std.specs.Str.{bytes_eq}
use Rattle.fx_pixel.specs.declared.Depth.{Depth}
use Rattle.fx_pixel.specs.declared.Components.{Components}
use Rattle.fx_text.specs.Nodes.{Node, Group, Graph}
use Rattle.fx_text.specs.declared.raw.RawContext.{RawContext}
use Rattle.fx_text.specs.declared.raw.RawWork.{RawWork}
use Rattle.fx_text.specs.declared.raw.RawWork.TheVariants as work
use Rattle.fx_text.specs.declared.value.RawClip.{RawClip}
use Rattle.fx_text.specs.declared.value.RawParam.{RawParam}
use Rattle.fx_group.specs.Names.{look}
use Rattle.fx_group.specs.Expansion.{latest_first}

-- ---- what has a value

-- what a node does by itself, whatever it is connected to
pub data Kind : Type 0 where
  Source : List ℕ → ℕ → ℕ → Bool → Depth → Components → Kind
  Effect : List ℕ → Option RawContext → List RawParam → Kind

-- what each clip shows
abbrev pub Shown : Type 0 → Type 0
Shown V = List (List ℕ × Option V)

-- a way to give values: that of a node by its name, by what it does, and by what its clips show
abbrev pub Giving : Type 0 → Type 0
Giving V = List ℕ → Kind → Shown V → V

-- the value of each of these names
abbrev pub Values : Type 0 → Type 0
Values V = List (List ℕ × V)

abbrev pub shown : {V : Type 0} → Values V → List RawClip → Shown V
shown values clips = map (λ c. (c.name, look values c.node)) clips

-- ---- a list with no use in it

abbrev pub with_value : {V : Type 0} → Giving V → Values V → List ℕ → RawWork → Values V
with_value give before name (work.Source pattern first last hold depth components) =
    before ++ (name, give name (Source pattern first last hold depth components) []) ∷ []
with_value give before name (work.Effect effect context clips params) =
    before ++ (name, give name (Effect effect context params) (shown before clips)) ∷ []
with_value give before name (work.GroupUse group clips) = before

-- node by node: a clip shows the value of the earlier node that it names
abbrev pub values_of : {V : Type 0} → Giving V → Values V → List Node → Values V
values_of give before [] = before
values_of give before (n ∷ ns) = values_of give (with_value give before n.name n.work) ns

-- ---- a list with uses

-- an instance: the names of the uses from the main list down, and that of a node at their end
pub record Instance : Type 0 where
  pub uses : List (List ℕ)
  pub node : List ℕ

abbrev pub uses_joined : List (List ℕ) → List ℕ
uses_joined [] = []
uses_joined (name ∷ uses) = name ++ 47 ∷ uses_joined uses

-- its names, joined by slashes
abbrev pub name_of : Instance → List ℕ
name_of i = uses_joined i.uses ++ i.node

-- what was read so far: the value of each instance, in order, and that of each name which a clip may have here
pub record Given (V : Type 0) : Type 0 where
  pub all : List (Instance × V)
  pub names : Values V

-- what a group gives at a use, by what the use's clips show: its instances, and the use's value
abbrev pub Meaning : Type 0 → Type 0
Meaning V = List ℕ → List (List ℕ) → Shown V → List (Instance × V) × Option V

abbrev pub with_node : {V : Type 0} → Given V → Instance → V → Given V
with_node given i v = record { all = given.all ++ (i, v) ∷ []; names = given.names ++ (i.node, v) ∷ [] }

abbrev pub also : {V : Type 0} → Values V → List ℕ → Option V → Values V
also values name None = values
also values name (Some v) = values ++ (name, v) ∷ []

abbrev pub with_use : {V : Type 0} → Given V → List ℕ → List (Instance × V) × Option V → Given V
with_use given name made = record { all = given.all ++ made.0; names = also given.names name made.1 }

abbrev pub instance : List (List ℕ) → List ℕ → Instance
instance uses node = record { uses = uses; node = node }

-- a node, within these uses: a source, an effect over what its clips show here, or a use of a group over what its clips
-- show here
abbrev pub work_given : {V : Type 0} → Giving V → Meaning V → List (List ℕ) → Given V → List ℕ → RawWork
    → Given V
work_given give meaning uses given name (work.Source pattern first last hold depth components) =
    let i = instance uses name in
    with_node given i (give (name_of i) (Source pattern first last hold depth components) [])
work_given give meaning uses given name (work.Effect effect context clips params) =
    let i = instance uses name in
    with_node given i (give (name_of i) (Effect effect context params) (shown given.names clips))
work_given give meaning uses given name (work.GroupUse group clips) =
    with_use given name (meaning group (uses ++ name ∷ []) (shown given.names clips))

abbrev pub nodes_given : {V : Type 0} → Giving V → Meaning V → List (List ℕ) → Given V → List Node → Given V
nodes_given give meaning uses given [] = given
nodes_given give meaning uses given (n ∷ ns) =
    nodes_given give meaning uses (work_given give meaning uses given n.name n.work) ns

-- an input has the value of what is connected there
abbrev pub with_input : {V : Type 0} → List ℕ → Option V → Values V → Values V
with_input input None more = more
with_input input (Some v) more = (input, v) ∷ more

abbrev pub inputs_given : {V : Type 0} → List (List ℕ) → Shown V → Values V
inputs_given [] clips = []
inputs_given (i ∷ is) clips = with_input i (option_flatten (look clips i)) (inputs_given is clips)

abbrev pub output_given : {V : Type 0} → Given V → List ℕ → List (Instance × V) × Option V
output_given given output = (given.all, look given.names output)

abbrev pub group_given : {V : Type 0} → Giving V → Meaning V → Group → List (List ℕ) → Shown V
    → List (Instance × V) × Option V
group_given {V} give meaning g uses clips =
    let start : Given V = record { all = []; names = inputs_given g.inputs clips } in
    output_given (nodes_given give meaning uses start g.nodes) g.output

-- each group means what its nodes give by those before it
abbrev pub meaning_of : {V : Type 0} → Giving V → List Group → Meaning V
meaning_of give [] group uses clips = ([], None)
meaning_of give (g ∷ gs) group uses clips =
    if bytes_eq g.name group
    then group_given give (meaning_of give gs) g uses clips
    else meaning_of give gs group uses clips

-- a graph
abbrev pub graph_given : {V : Type 0} → Giving V → Graph → Given V
graph_given give raw =
    nodes_given give (meaning_of give (latest_first raw.groups)) [] (record { all = []; names = [] }) raw.nodes

-- the value of each of its instances
abbrev pub instance_values : {V : Type 0} → Giving V → Graph → List (Instance × V)
instance_values give raw = (graph_given give raw).all

-- each value under the joined name of its instance
abbrev pub named : {V : Type 0} → List (Instance × V) → Values V
named all = map (λ e. (name_of e.0, e.1)) all

-- the value that is rendered: that of a name of the main list, or else of an instance by its joined name
abbrev pub output_value : {V : Type 0} → Giving V → Graph → Option V
output_value give raw =
    let given = graph_given give raw in
    option_or (look given.names raw.output.node) (look (named given.all) raw.output.node)
