-- A printed raw graph reads back, object by object.
use Rattle.std.proofs.Common.{◌≡◌, refl, ap, sym, ◌∙◌, nat_eq, ℕ, suc, ◌+◌, ◌≤◌, ◌^◌, nat_le, nat_lt, ◌&&◌, ℤ, pos, negsuc}
use Rattle.std.proofs.Common.{T, min, arith, Bool, true, false, List, [], ◌∷◌, length, codes, Option, Some, None, Ok, All}
use Rattle.std.proofs.lemmas.Grind.{common_steps}
use Rattle.std.proofs.lemmas.Bool.{false≢true, true≢false}
use Rattle.std.proofs.lemmas.List.Elements.{All-head, All-tail}
use Rattle.std.specs.Int.Signed.{le_z}
use Rattle.serde_json.specs.Data.{number}
use Rattle.serde_json.specs.Find.{of_integer, as_integer}
use Rattle.fx_pixel.specs.declared.Depth.{Depth}
use Rattle.fx_pixel.specs.declared.Depth.TheVariants as depth
use Rattle.fx_pixel.specs.declared.Components.{Components}
use Rattle.fx_pixel.specs.declared.Components.TheVariants as components
use Rattle.fx_pixel.specs.declared.Format.{Format}
use Rattle.fx_pixel.specs.declared.Format.TheVariants as format
use Rattle.fx_text.specs.declared.raw.TheConstants.{MOST_EDITS, MOST_GROUP_NODES, MOST_INPUTS}
use Rattle.fx_text.specs.declared.raw.RawContext.{RawContext}
use Rattle.fx_text.specs.declared.raw.RawContext.TheVariants as context
use Rattle.fx_text.specs.declared.raw.RawOutput.{RawOutput}
use Rattle.fx_text.specs.declared.raw.RawWork.{RawWork}
use Rattle.fx_text.specs.declared.raw.RawWork.TheVariants as work
use Rattle.fx_text.specs.declared.value.RawClip.{RawClip}
use Rattle.fx_text.specs.declared.value.RawParam.{RawParam}
use Rattle.fx_text.specs.declared.value.RawScalar.{RawScalar}
use Rattle.fx_text.specs.declared.value.RawScalar.TheVariants as scalar
use Rattle.fx_text.specs.declared.value.RawValue.{RawValue}
use Rattle.fx_text.specs.declared.value.RawValue.TheVariants as value
use Rattle.fx_text.specs.Json.{depth_of, components_of, format_of, outside_of, count_of, read_items, read_members}
use Rattle.fx_text.specs.Key.{Key, IsFrame}
use Rattle.fx_text.specs.Nodes.{Node, Group, Graph, AreFrames, AreFew, AreFewGroups}
use Rattle.fx_text.specs.Objects.{project_of, output_of, range_of, context_of, source_of, effect_of, node_of, group_of, graph_of, graph_in}
use Rattle.fx_text.specs.Takes.{Take, AreFewTakes, edit_of, take_of}
use Rattle.fx_text.specs.declared.raw.RawEdit.{RawEdit}
use Rattle.fx_text.specs.Json.{short_of}
use Rattle.fx_text.specs.Paths.{inside, joined}
use Rattle.fx_text.specs.Raw.{Project, AreSides, IsHead}
use Rattle.fx_text.specs.Values.{clip_of, int_of, scalar_of, is_scalar, key_of, value_of, param_of}
use Rattle.fx_text.specs.Printed.{PrintedReadsBack, IsShort, IsInt, IsScalar, IsKey, IsValue, IsWork, MayStand, AreNodes, IsGroup, AreGroups, HaveFormat, IsTake, graph_printed}
use Rattle.fx_text.specs.Printed.{names_printed, group_printed, groups_printed, edit_printed, edits_printed, take_printed, takes_printed}
use Rattle.fx_text.specs.Printed.{depth_text, components_text, format_text, outside_text, context_text, project_printed, output_printed, range_printed}
use Rattle.fx_text.specs.Printed.{clips_printed, scalar_printed, key_printed, keys_printed, value_printed, params_printed, work_printed, nodes_printed}

-- ---- words and numbers

depth_back : (d : Depth) → depth_of (depth_text d) ≡ Some d
depth_back depth.Byte = refl
depth_back depth.Short = refl

components_back : (c : Components) → components_of (components_text c) ≡ Some c
components_back components.Rgba = refl
components_back components.Alpha = refl

format_back : (f : Format) → format_of (format_text f) ≡ Some f
format_back format.RgbAlpha = refl
format_back format.Rgb = refl
format_back format.Grayscale = refl

outside_back : (b : Bool) → outside_of (outside_text b) ≡ Some b
outside_back false = refl
outside_back true = refl

context_back : (c : RawContext) → context_of (context_text c) ≡ Some c
context_back context.Generator = refl
context_back context.Filter = refl
context_back context.Transition = refl
context_back context.General = refl

within_test : (a n b : ℕ) → a ≤ n → n ≤ b → (nat_le a n && nat_le n b) ≡ true
within_test a n b low high = grind (arith, common_steps, low, high)

-- ---- values

int_back : (z : ℤ) → IsInt z → int_of (number (of_integer z)) ≡ Ok (scalar.Int z)
int_back (pos n) small = let below : nat_lt n (2 ^ 63) ≡ true = grind (arith, common_steps, small) in rw below refl
int_back (negsuc n) small = refl

scalar_back : (s : RawScalar) → IsScalar s → scalar_of (scalar_printed s) ≡ Ok s
scalar_back (scalar.Int z) is = int_back z is
scalar_back (scalar.Text text) is = refl
scalar_back (scalar.Flag b) is = refl

integer_back : (z : ℤ) → as_integer (of_integer z) ≡ Some z
integer_back (pos n) = refl
integer_back (negsuc n) = refl

form_back : (s : RawScalar) → is_scalar (scalar_printed s) ≡ true
form_back (scalar.Int (pos n)) = refl
form_back (scalar.Int (negsuc n)) = refl
form_back (scalar.Text text) = refl
form_back (scalar.Flag b) = refl

frame_test : (z : ℤ) → IsFrame z → (le_z (negsuc 999998) z && le_z z (pos 999999)) ≡ true
frame_test z is = both (le_z (negsuc 999998) z) (le_z z (pos 999999)) is.low.le is.high.le
  where
    both : (a b : Bool) → T a → T b → (a && b) ≡ true
    both true true low high = refl
    both true false low high = absurd high
    both false b low high = absurd low

key_back : (k : Key) → IsKey k → key_of (key_printed k) ≡ Ok k
key_back k is = rw (integer_back k.frame, form_back k.value, frame_test k.frame is.frame, scalar_back k.value is.value) refl

keys_back : (n : ℕ) (ks : List Key) → All IsKey ks → read_items (λ k d. key_of d) n (keys_printed ks) ≡ Ok ks
keys_back n [] is = refl
keys_back n (k ∷ ks) is = rw (key_back k (All-head IsKey k ks is), keys_back (n + 1) ks (All-tail IsKey k ks is)) refl

count-keys : (ks : List Key) → count_of (keys_printed ks) ≡ length ks
count-keys [] = refl
count-keys (k ∷ ks) = ap suc (count-keys ks)

value_back : (v : RawValue) → IsValue v → value_of (value_printed v) ≡ Ok v
value_back (value.Plain (scalar.Int (pos n))) is = rw (int_back (pos n) is) refl
value_back (value.Plain (scalar.Int (negsuc n))) is = refl
value_back (value.Plain (scalar.Text text)) is = refl
value_back (value.Plain (scalar.Flag b)) is = refl
value_back (value.Keyed keys step) is =
    rw (count-keys keys, within_test 1 (length keys) 1000 is.0.some is.0.few, keys_back 0 keys is.1) refl

clips_back : (path : List ℕ) (cs : List RawClip) → read_members (clip_of path) (clips_printed cs) ≡ Ok cs
clips_back path [] = refl
clips_back path (c ∷ cs) = rw (clips_back path cs) refl

params_back : (path : List ℕ) (ps : List RawParam) → All (λ p. IsValue p.value) ps → read_members (param_of path) (params_printed ps) ≡ Ok ps
params_back path [] is = refl
params_back path (p ∷ ps) is =
    let holds : RawParam → Type 0 = λ p. IsValue p.value in
    rw (value_back p.value (All-head holds p ps is), params_back path ps (All-tail holds p ps is)) refl

-- ---- objects

project_back : (path : List ℕ) (p : Project) → AreSides p.width p.height → project_of path 8192 (project_printed p) ≡ Ok p
project_back path p s =
    rw (within_test 1 p.width 8192 s.some_width s.few_columns, within_test 1 p.height 8192 s.some_height s.few_rows, depth_back p.depth, components_back p.components) refl

output_back : (path : List ℕ) (o : RawOutput) → output_of path (output_printed o) ≡ Ok o
output_back path o = rw (format_back o.format) refl

last_test : (first last : ℕ) → last ≤ first + 99999 → last ≤ 999999 → last ≤ min 999999 (first + 99999)
last_test first last few end = grind (arith, common_steps, few, end)

range_back : (path : List ℕ) (format first last : ℕ) → IsHead format first last → range_of path (range_printed first last) ≡ Ok (record { first = first; last = last })
range_back path format first last is =
    let start : first ≤ 999999 = grind (arith, is.order, is.end) in
    rw (within_test 0 first 999999 (omega arith) start, within_test first last (min 999999 (first + 99999)) is.order (last_test first last is.few is.end)) refl

source_back : (path : List ℕ) (project : Project) (name pattern : List ℕ) (first last : ℕ) (hold : Bool) (depth : Depth) (components : Components) → IsShort name → AreFrames first last
    → source_of path project (work_printed name (work.Source pattern first last hold depth components))
    ≡ Ok (record { name = name; path = path; work = work.Source pattern first last hold depth components })
source_back path project name pattern first last hold depth components short is =
    let start : first ≤ 999999 = grind (arith, is.order, is.end) in
    rw (
      within_test 1 (length name) 64 short.some short.few,
      within_test 0 first 999999 (omega arith) start,
      within_test first last 999999 is.order is.end,
      outside_back hold,
      depth_back depth,
      components_back components,
    ) refl

effect_back : (path name effect : List ℕ) (context : Option RawContext) (clips : List RawClip) (params : List RawParam) → IsShort name → All (λ p. IsValue p.value) params
    → effect_of path (work_printed name (work.Effect effect context clips params))
    ≡ Ok (record { name = name; path = path; work = work.Effect effect context clips params })
effect_back path name effect None clips params short is =
    rw (within_test 1 (length name) 64 short.some short.few, clips_back _ clips, params_back _ params is) refl
effect_back path name effect (Some c) clips params short is =
    rw (within_test 1 (length name) 64 short.some short.few, context_back c, clips_back _ clips, params_back _ params is) refl

work_back : (path : List ℕ) (grouped : Bool) (project : Project) (name : List ℕ) (w : RawWork) → IsShort name → IsWork w → MayStand grouped w
    → node_of path grouped project (work_printed name w) ≡ Ok (record { name = name; path = path; work = w })
work_back path false project name (work.Source pattern first last hold depth components) short is stands = source_back path project name pattern first last hold depth components short is
work_back path true project name (work.Source pattern first last hold depth components) short is stands = source_back path project name pattern first last hold depth components short is
work_back path false project name (work.Effect effect None clips params) short is stands = effect_back path name effect None clips params short is
work_back path false project name (work.Effect effect (Some c) clips params) short is stands = effect_back path name effect (Some c) clips params short is
work_back path true project name (work.Effect effect None clips params) short is stands = effect_back path name effect None clips params short is
work_back path true project name (work.Effect effect (Some c) clips params) short is stands = effect_back path name effect (Some c) clips params short is
work_back path false project name (work.GroupUse group clips) short is stands = absurd (false≢true stands)
work_back path true project name (work.GroupUse group clips) short is stands =
    rw (within_test 1 (length name) 64 short.some short.few, clips_back _ clips) refl

nodes_back : (path : List ℕ) (grouped : Bool) (project : Project) (k : ℕ) (ns : List Node) → AreNodes grouped path k ns
    → read_items (λ k d. node_of (inside path k) grouped project d) k (nodes_printed ns) ≡ Ok ns
nodes_back path grouped project k [] is = refl
nodes_back path grouped project k (n ∷ ns) is =
    rw (
      work_back (inside path k) grouped project n.name n.work is.0.name is.0.work is.0.stands,
      nodes_back path grouped project (k + 1) ns is.1,
      sym is.0.path_is,
    ) refl

count-nodes : (ns : List Node) → count_of (nodes_printed ns) ≡ length ns
count-nodes [] = refl
count-nodes (n ∷ ns) = ap suc (count-nodes ns)

-- ---- groups

inputs_back : (path : List ℕ) (k : ℕ) (names : List (List ℕ)) → All IsShort names
    → read_items (λ k d. short_of (inside path k) d) k (names_printed names) ≡ Ok names
inputs_back path k [] is = refl
inputs_back path k (name ∷ names) is =
    let short : IsShort name = All-head IsShort name names is in
    rw (within_test 1 (length name) 64 short.some short.few, inputs_back path (k + 1) names (All-tail IsShort name names is)) refl

count-names : (names : List (List ℕ)) → count_of (names_printed names) ≡ length names
count-names [] = refl
count-names (name ∷ names) = ap suc (count-names names)

group_back : (path : List ℕ) (project : Project) (g : Group) → IsGroup path g → group_of path project (group_printed g) ≡ Ok g
group_back path project g is =
    rw (
      within_test 1 (length g.name) 64 is.name.some is.name.few,
      count-names g.inputs,
      within_test 0 (length g.inputs) MOST_INPUTS (omega arith) is.few.few_inputs,
      inputs_back (joined path (codes "inputs")) 0 g.inputs is.inputs,
      count-nodes g.nodes,
      within_test 1 (length g.nodes) MOST_GROUP_NODES is.some is.few.few_nodes,
      nodes_back (joined path (codes "nodes")) true project 0 g.nodes is.nodes,
    ) refl

groups_back : (project : Project) (k : ℕ) (gs : List Group) → AreGroups k gs
    → read_items (λ k d. group_of (inside (codes "groups") k) project d) k (groups_printed gs) ≡ Ok gs
groups_back project k [] is = refl
groups_back project k (g ∷ gs) is =
    rw (group_back (inside (codes "groups") k) project g is.0, groups_back project (k + 1) gs is.1) refl

count-groups : (gs : List Group) → count_of (groups_printed gs) ≡ length gs
count-groups [] = refl
count-groups (g ∷ gs) = ap suc (count-groups gs)

-- ---- takes

edit_back : (path : List ℕ) (e : RawEdit) → IsValue e.value → edit_of path (edit_printed e) ≡ Ok e
edit_back path e is = rw (value_back e.value is) refl

edits_back : (path : List ℕ) (k : ℕ) (es : List RawEdit) → All (λ e. IsValue e.value) es
    → read_items (λ k d. edit_of (inside path k) d) k (edits_printed es) ≡ Ok es
edits_back path k [] is = refl
edits_back path k (e ∷ es) is =
    let holds : RawEdit → Type 0 = λ e. IsValue e.value in
    rw (edit_back (inside path k) e (All-head holds e es is), edits_back path (k + 1) es (All-tail holds e es is)) refl

count-edits : (es : List RawEdit) → count_of (edits_printed es) ≡ length es
count-edits [] = refl
count-edits (e ∷ es) = ap suc (count-edits es)

take_back : (path : List ℕ) (t : Take) → IsTake t → take_of path (take_printed t) ≡ Ok t
take_back path t is =
    rw (count-edits t.edits, within_test 1 (length t.edits) MOST_EDITS is.few.some is.few.few, edits_back (joined path (codes "edits")) 0 t.edits is.values) refl

takes_back : (k : ℕ) (ts : List Take) → All IsTake ts → read_items (λ k d. take_of (inside (codes "takes") k) d) k (takes_printed ts) ≡ Ok ts
takes_back k [] is = refl
takes_back k (t ∷ ts) is =
    rw (take_back (inside (codes "takes") k) t (All-head IsTake t ts is), takes_back (k + 1) ts (All-tail IsTake t ts is)) refl

count-takes : (ts : List Take) → count_of (takes_printed ts) ≡ length ts
count-takes [] = refl
count-takes (t ∷ ts) = ap suc (count-takes ts)

-- ---- the whole

graph_back : (b : Bool) (format first last : ℕ) (project : Project) (output : RawOutput) (gs : List Group) (ns : List Node) (ts : List Take)
    → nat_eq format 2 ≡ b → IsHead format first last → AreSides project.width project.height → HaveFormat format gs → AreFewGroups gs → AreGroups 0 gs
    → AreFew ns → AreNodes b (codes "nodes") 0 ns → AreFewTakes ts → All IsTake ts
    → let g : Graph = record { format = format; project = project; output = output; first = first; last = last; groups = gs; nodes = ns; takes = ts } in
    graph_of 1024 8192 (graph_printed g) ≡ Ok g
graph_back false format first last project output [] ns [] e head sides has few_gs groups few nodes few_ts takes =
    rw (
      e,
      project_back (codes "project") project sides,
      output_back (codes "output") output,
      range_back (codes "range") format first last head,
      within_test 1 format 2 head.low head.high,
      count-nodes ns,
      within_test 1 (length ns) 1024 few.some few.few,
      nodes_back (codes "nodes") false project 0 ns nodes,
    ) refl
graph_back false format first last project output [] ns (t ∷ ts) e head sides has few_gs groups few nodes few_ts takes =
    rw (
      e,
      project_back (codes "project") project sides,
      output_back (codes "output") output,
      range_back (codes "range") format first last head,
      within_test 1 format 2 head.low head.high,
      count-nodes ns,
      within_test 1 (length ns) 1024 few.some few.few,
      nodes_back (codes "nodes") false project 0 ns nodes,
      count-takes (t ∷ ts),
      within_test 0 (length (t ∷ ts)) 64 (omega arith) few_ts.few,
      takes_back 0 (t ∷ ts) takes,
    ) refl
graph_back false format first last project output (g ∷ gs) ns ts e head sides has few_gs groups few nodes few_ts takes =
    absurd (true≢false (sym has ∙ e))
graph_back true format first last project output [] ns [] e head sides has few_gs groups few nodes few_ts takes =
    rw (
      e,
      project_back (codes "project") project sides,
      output_back (codes "output") output,
      range_back (codes "range") format first last head,
      within_test 1 format 2 head.low head.high,
      count-nodes ns,
      within_test 1 (length ns) 1024 few.some few.few,
      nodes_back (codes "nodes") true project 0 ns nodes,
    ) refl
graph_back true format first last project output [] ns (t ∷ ts) e head sides has few_gs groups few nodes few_ts takes =
    rw (
      e,
      project_back (codes "project") project sides,
      output_back (codes "output") output,
      range_back (codes "range") format first last head,
      within_test 1 format 2 head.low head.high,
      count-nodes ns,
      within_test 1 (length ns) 1024 few.some few.few,
      nodes_back (codes "nodes") true project 0 ns nodes,
      count-takes (t ∷ ts),
      within_test 0 (length (t ∷ ts)) 64 (omega arith) few_ts.few,
      takes_back 0 (t ∷ ts) takes,
    ) refl
graph_back true format first last project output (g ∷ gs) ns [] e head sides has few_gs groups few nodes few_ts takes =
    rw (
      e,
      project_back (codes "project") project sides,
      output_back (codes "output") output,
      range_back (codes "range") format first last head,
      within_test 1 format 2 head.low head.high,
      count-groups (g ∷ gs),
      within_test 0 (length (g ∷ gs)) 64 (omega arith) few_gs.few,
      groups_back project 0 (g ∷ gs) groups,
      count-nodes ns,
      within_test 1 (length ns) 1024 few.some few.few,
      nodes_back (codes "nodes") true project 0 ns nodes,
    ) refl
graph_back true format first last project output (g ∷ gs) ns (t ∷ ts) e head sides has few_gs groups few nodes few_ts takes =
    rw (
      e,
      project_back (codes "project") project sides,
      output_back (codes "output") output,
      range_back (codes "range") format first last head,
      within_test 1 format 2 head.low head.high,
      count-groups (g ∷ gs),
      within_test 0 (length (g ∷ gs)) 64 (omega arith) few_gs.few,
      groups_back project 0 (g ∷ gs) groups,
      count-nodes ns,
      within_test 1 (length ns) 1024 few.some few.few,
      nodes_back (codes "nodes") true project 0 ns nodes,
      count-takes (t ∷ ts),
      within_test 0 (length (t ∷ ts)) 64 (omega arith) few_ts.few,
      takes_back 0 (t ∷ ts) takes,
    ) refl

pub printed_back : PrintedReadsBack
printed_back g bytes is reads =
    ap (graph_in 1024 8192) reads
    ∙ graph_back (nat_eq g.format 2) g.format g.first g.last g.project g.output g.groups g.nodes g.takes refl is.head is.sides is.may_have is.few_groups is.groups
    is.few is.nodes is.few_takes is.takes
