-- The JSON value of a raw graph: what a printer of graphs writes. Each member is given, in the byte order of
-- keys, but for a context that the graph leaves open.
use Rattle.std.specs.Prelude.{◌≡◌, ℕ, ◌+◌, ◌≤◌, ◌<◌, ◌^◌, nat_eq, IsTrue, ℤ, pos, negsuc, Bool, true, false, List, [], ◌∷◌, length, codes}
use Rattle.fx_base.specs.declared.limits.TheConstants.{MOST_NODES, MOST_SIDE}
use Rattle.std.specs.Prelude.{Option, Some, None, Ok, All}
use Rattle.serde_json.specs.Data.{Data, unsigned, boolean, number, string, array, object}
use Rattle.serde_json.specs.Data.{Items, no_items, item, Members, no_members, member}
use Rattle.serde_json.specs.Find.{of_integer}
use Rattle.fx_pixel.specs.declared.Depth.{Depth}
use Rattle.fx_pixel.specs.declared.Depth.TheVariants as depth
use Rattle.fx_pixel.specs.declared.Components.{Components}
use Rattle.fx_pixel.specs.declared.Components.TheVariants as components
use Rattle.fx_pixel.specs.declared.Format.{Format}
use Rattle.fx_pixel.specs.declared.Format.TheVariants as format
use Rattle.fx_text.specs.declared.raw.RawContext.{RawContext}
use Rattle.fx_text.specs.declared.raw.RawContext.TheVariants as context
use Rattle.fx_text.specs.declared.raw.RawOutput.{RawOutput}
use Rattle.fx_text.specs.declared.raw.RawWork.{RawWork}
use Rattle.fx_text.specs.declared.raw.RawWork.TheVariants as work
use Rattle.fx_text.specs.declared.value.RawClip.{RawClip}
use Rattle.fx_text.specs.declared.value.RawParam.{RawParam}
use Rattle.fx_text.specs.declared.value.RawScalar.{RawScalar}
use Rattle.fx_text.specs.declared.value.RawScalar.TheVariants as scalar
use Rattle.fx_text.specs.declared.value.RawValue.{RawValue}
use Rattle.fx_text.specs.declared.value.RawValue.TheVariants as value
use Rattle.fx_text.specs.Json.{value_of}
use Rattle.fx_text.specs.Key.{Key, IsFrame, AreFewKeys}
use Rattle.fx_text.specs.Nodes.{Node, Group, Graph, AreFrames, AreFew, IsGroupSize, AreFewGroups}
use Rattle.fx_text.specs.Takes.{Take, AreFewEdits, AreFewTakes}
use Rattle.fx_text.specs.declared.raw.RawEdit.{RawEdit}
use Rattle.fx_text.specs.Paths.{inside, joined}
use Rattle.fx_text.specs.Objects.{read_graph}
use Rattle.fx_text.specs.Raw.{Project, AreSides, IsHead}

abbrev pub whole : ℕ → Data
whole n = number (unsigned n)

abbrev pub depth_text : Depth → List ℕ
depth_text depth.Byte = codes "byte"
depth_text depth.Short = codes "short"

abbrev pub components_text : Components → List ℕ
components_text components.Rgba = codes "RGBA"
components_text components.Alpha = codes "Alpha"

abbrev pub format_text : Format → List ℕ
format_text format.RgbAlpha = codes "RGB_ALPHA"
format_text format.Rgb = codes "RGB"
format_text format.Grayscale = codes "GRAYSCALE"

abbrev pub outside_text : Bool → List ℕ
outside_text false = codes "black"
outside_text true = codes "hold"

abbrev pub context_text : RawContext → List ℕ
context_text context.Generator = codes "generator"
context_text context.Filter = codes "filter"
context_text context.Transition = codes "transition"
context_text context.General = codes "general"

-- ---- clips and values

abbrev pub clips_printed : List RawClip → Members
clips_printed [] = no_members
clips_printed (c ∷ cs) = member c.name (string c.node) (clips_printed cs)

abbrev pub scalar_printed : RawScalar → Data
scalar_printed (scalar.Int z) = number (of_integer z)
scalar_printed (scalar.Text text) = string text
scalar_printed (scalar.Flag b) = boolean b

abbrev pub key_printed : Key → Data
key_printed k = array (item (number (of_integer k.frame)) (item (scalar_printed k.value) no_items))

abbrev pub keys_printed : List Key → Items
keys_printed [] = no_items
keys_printed (k ∷ ks) = item (key_printed k) (keys_printed ks)

abbrev pub value_printed : RawValue → Data
value_printed (value.Plain s) = scalar_printed s
value_printed (value.Keyed keys step) =
    object (member (codes "keys") (array (keys_printed keys)) (member (codes "step") (boolean step) no_members))

abbrev pub params_printed : List RawParam → Members
params_printed [] = no_members
params_printed (p ∷ ps) = member p.name (value_printed p.value) (params_printed ps)

-- ---- objects

abbrev pub context_printed : Option RawContext → Members → Members
context_printed None ms = ms
context_printed (Some c) ms = member (codes "context") (string (context_text c)) ms

abbrev pub work_printed : List ℕ → RawWork → Data
work_printed name (work.Source pattern first last hold depth components) = object (
    member (codes "components") (string (components_text components)) (
    member (codes "depth") (string (depth_text depth)) (
    member (codes "first") (whole first) (
    member (codes "last") (whole last) (
    member (codes "name") (string name) (
    member (codes "outside") (string (outside_text hold)) (
    member (codes "source") (string pattern) no_members)))))))
work_printed name (work.GroupUse group clips) = object (
    member (codes "clips") (object (clips_printed clips)) (
    member (codes "group") (string group) (
    member (codes "name") (string name) no_members)))
work_printed name (work.Effect effect context clips params) = object (
    member (codes "clips") (object (clips_printed clips)) (
    context_printed context (
    member (codes "effect") (string effect) (
    member (codes "name") (string name) (
    member (codes "params") (object (params_printed params)) no_members)))))

abbrev pub nodes_printed : List Node → Items
nodes_printed [] = no_items
nodes_printed (n ∷ ns) = item (work_printed n.name n.work) (nodes_printed ns)

abbrev pub project_printed : Project → Data
project_printed p = object (
    member (codes "components") (string (components_text p.components)) (
    member (codes "depth") (string (depth_text p.depth)) (
    member (codes "height") (whole p.height) (
    member (codes "width") (whole p.width) no_members))))

abbrev pub output_printed : RawOutput → Data
output_printed o = object (
    member (codes "file") (string o.file) (
    member (codes "format") (string (format_text o.format)) (
    member (codes "node") (string o.node) no_members)))

abbrev pub range_printed : ℕ → ℕ → Data
range_printed first last = object (member (codes "first") (whole first) (member (codes "last") (whole last) no_members))

abbrev pub names_printed : List (List ℕ) → Items
names_printed [] = no_items
names_printed (name ∷ names) = item (string name) (names_printed names)

abbrev pub group_printed : Group → Data
group_printed g = object (
    member (codes "inputs") (array (names_printed g.inputs)) (
    member (codes "name") (string g.name) (
    member (codes "nodes") (array (nodes_printed g.nodes)) (
    member (codes "output") (string g.output) no_members))))

abbrev pub groups_printed : List Group → Items
groups_printed [] = no_items
groups_printed (g ∷ gs) = item (group_printed g) (groups_printed gs)

abbrev pub edit_printed : RawEdit → Data
edit_printed e = object (
    member (codes "node") (string e.node) (
    member (codes "param") (string e.param) (
    member (codes "value") (value_printed e.value) no_members)))

abbrev pub edits_printed : List RawEdit → Items
edits_printed [] = no_items
edits_printed (e ∷ es) = item (edit_printed e) (edits_printed es)

abbrev pub take_printed : Take → Data
take_printed t = object (
    member (codes "edits") (array (edits_printed t.edits)) (
    member (codes "file") (string t.file) no_members))

abbrev pub takes_printed : List Take → Items
takes_printed [] = no_items
takes_printed (t ∷ ts) = item (take_printed t) (takes_printed ts)

-- groups are given where there are some, and so are takes
abbrev pub with_groups : List Group → Members → Members
with_groups [] ms = ms
with_groups (g ∷ gs) ms = member (codes "groups") (array (groups_printed (g ∷ gs))) ms

abbrev pub with_takes : List Take → Members
with_takes [] = no_members
with_takes (t ∷ ts) = member (codes "takes") (array (takes_printed (t ∷ ts))) no_members

abbrev pub graph_printed : Graph → Data
graph_printed g = object (
    with_groups g.groups (
    member (codes "nodes") (array (nodes_printed g.nodes)) (
    member (codes "ofxr") (whole g.format) (
    member (codes "output") (output_printed g.output) (
    member (codes "project") (project_printed g.project) (
    member (codes "range") (range_printed g.first g.last) (with_takes g.takes)))))))

-- ---- what a raw graph keeps, and a length of names that the format takes

pub record IsShort (name : List ℕ) : Type 0 where
  pub some : 1 ≤ length name
  pub few : length name ≤ 64

-- a whole number of 64 bits
abbrev pub IsInt : ℤ → Type 0
IsInt (pos n) = n < 2 ^ 63
IsInt (negsuc n) = n < 2 ^ 63

abbrev pub IsScalar : RawScalar → Type 0
IsScalar (scalar.Int z) = IsInt z
IsScalar (scalar.Text text) = Unit {0}
IsScalar (scalar.Flag b) = Unit {0}

pub record IsKey (k : Key) : Type 0 where
  pub frame : IsFrame k.frame
  pub value : IsScalar k.value

abbrev pub IsValue : RawValue → Type 0
IsValue (value.Plain s) = IsScalar s
IsValue (value.Keyed keys step) = AreFewKeys (length keys) × All IsKey keys

abbrev pub IsWork : RawWork → Type 0
IsWork (work.Source pattern first last hold depth components) = AreFrames first last
IsWork (work.Effect effect context clips params) = All (λ p. IsValue p.value) params
IsWork (work.GroupUse group clips) = Unit {0}

-- a use stands only where there may be groups
abbrev pub MayStand : Bool → RawWork → Type 0
MayStand grouped (work.GroupUse group clips) = IsTrue grouped
MayStand grouped w = Unit {0}

pub record IsNode (grouped : Bool) (path : List ℕ) (n : Node) : Type 0 where
  pub name : IsShort n.name
  pub path_is : n.path ≡ path
  pub work : IsWork n.work
  pub stands : MayStand grouped n.work

-- the nodes of the list at a path, from k on
abbrev pub AreNodes : Bool → List ℕ → ℕ → List Node → Type 0
AreNodes grouped path k [] = Unit {0}
AreNodes grouped path k (n ∷ ns) = IsNode grouped (inside path k) n × AreNodes grouped path (k + 1) ns

pub record IsGroup (path : List ℕ) (g : Group) : Type 0 where
  pub name : IsShort g.name
  pub few : IsGroupSize g.inputs g.nodes
  pub some : 1 ≤ length g.nodes
  pub inputs : All IsShort g.inputs
  pub nodes : AreNodes true (joined path (codes "nodes")) 0 g.nodes

abbrev pub AreGroups : ℕ → List Group → Type 0
AreGroups k [] = Unit {0}
AreGroups k (g ∷ gs) = IsGroup (inside (codes "groups") k) g × AreGroups (k + 1) gs

pub record IsTake (t : Take) : Type 0 where
  pub few : AreFewEdits t.edits
  pub values : All (λ e. IsValue e.value) t.edits

-- groups stand only in format 2
abbrev pub HaveFormat : ℕ → List Group → Type 0
HaveFormat format [] = Unit {0}
HaveFormat format (g ∷ gs) = IsTrue (nat_eq format 2)

pub record IsGraph (g : Graph) : Type 0 where
  pub head : IsHead g.format g.first g.last
  pub sides : AreSides g.project.width g.project.height
  pub may_have : HaveFormat g.format g.groups
  pub few_groups : AreFewGroups g.groups
  pub groups : AreGroups 0 g.groups
  pub few : AreFew g.nodes
  pub nodes : AreNodes (nat_eq g.format 2) (codes "nodes") 0 g.nodes
  pub few_takes : AreFewTakes g.takes
  pub takes : All IsTake g.takes

-- bytes that say the JSON value of a raw graph, however they are laid out, read as that graph
abbrev pub PrintedReadsBack : Type 0
PrintedReadsBack =
    (g : Graph) (bytes : List ℕ) → IsGraph g → value_of bytes ≡ Some (graph_printed g)
    → read_graph bytes MOST_NODES MOST_SIDE ≡ Ok g
