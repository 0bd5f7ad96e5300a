-- The nodes of a graph, or the first refusal.
use Rattle.std.specs.Prelude.{◌≡◌, ℕ, nat_eq, slice_get, Bool, false, ◌||◌, not, ◌&&◌, List, [], ◌∷◌, ◌++◌, codes, length, map, Option, Some, None, Result, Ok, Err, String, is_some, is_none, if◌then◌else◌}
use Rattle.std.specs.List.{position, list_any}
use Rattle.std.specs.BTreeMap.{BTreeMap, get_by_text}
use Rattle.std.specs.declared.alloc.Global.{Global}
use Rattle.std.specs.Str.{bytes_eq}
use Rattle.fx_base.specs.Pattern.{is_pattern, pattern_of, runs}
use Rattle.fx_pixel.specs.declared.Depth.{Depth}
use Rattle.fx_pixel.specs.declared.Depth.TheVariants as depths
use Rattle.fx_pixel.specs.declared.Components.{Components}
use Rattle.fx_pixel.specs.declared.Components.TheVariants as components
use Rattle.fx_params.specs.declared.def.ParamDef.{ParamDef}
use Rattle.fx_text.specs.Fault.{Fault}
use Rattle.fx_text.specs.Json.{after}
use Rattle.fx_text.specs.Nodes.{Node as RawNode}
use Rattle.fx_text.specs.declared.fault.GraphCode.TheVariants.{NameRepeated, UnknownEffect, PatternWrong, UnknownGroup}
use Rattle.fx_text.specs.declared.raw.RawContext.{RawContext}
use Rattle.fx_text.specs.declared.raw.RawWork.{RawWork}
use Rattle.fx_text.specs.declared.raw.RawWork.TheVariants as raw
use Rattle.fx_text.specs.declared.value.RawClip.{RawClip}
use Rattle.fx_text.specs.declared.value.RawParam.{RawParam}
use Rattle.fx_prefs.specs.Prefs.{Input, negotiated}
use Rattle.fx_effect.specs.declared.action.Context.{Context}
use Rattle.fx_effect.specs.Meaning.{Meaning}
use Rattle.fx_effect.specs.Shape.{Shape, Clip, is_depth, is_components, clip_names, optional_flags, is_mask}
use Rattle.fx_graph.specs.Refusal.{refusal, node_path, where_so, first_of, refused_or}
use Rattle.fx_graph.specs.Shown.{Shown, Source, Effect, names_of}
use Rattle.fx_graph.specs.Uses.{Place, chosen, connection, unsupported, clip_fault}
use Rattle.fx_graph.specs.Params.{param_of, params_fault}

-- the place of the node of a name
abbrev pub place_of : List (List ℕ) → Place
place_of names name = position (λ n. bytes_eq n name) names

-- whether a pattern names a file for each of these frames: it has a run of signs unless there is one frame alone
abbrev pub names_frames : ℕ → ℕ → Option (List ℕ) → Bool
names_frames first last None = false
names_frames first last (Some pattern) = nat_eq first last || nat_eq (runs pattern) 1

abbrev pub is_source : List ℕ → ℕ → ℕ → Bool
is_source text first last = names_frames first last (pattern_of text)

abbrev pub wrong_source : List ℕ → List ℕ → ℕ → ℕ → Option Fault
wrong_source path text first last =
    where_so (not (is_source text first last)) PatternWrong (node_path path (codes "source"))

-- ---- the depth and the components of a node

-- a depth and components
abbrev pub Form : Type 0
Form = Depth × Components

-- the form of a connected input, and whether it is a mask
abbrev pub form_at : {E : Type 0} → Option (Shown E) → Bool → List Input
form_at None mask = []
form_at (Some node) mask = (node.depth, node.components, mask) ∷ []

-- the node that a clip is connected to
abbrev pub node_at : {E : Type 0} → List (Shown E) → Option ℕ → Option (Shown E)
node_at before None = None
node_at before (Some k) = slice_get before k

-- the forms of the connected inputs
abbrev pub inputs_of : {E : Type 0} → List (Shown E) → List (Option ℕ) → List Bool → List Input
inputs_of before (clip ∷ clips) (mask ∷ masks) =
    form_at (node_at before clip) mask ++ inputs_of before clips masks
inputs_of before clips masks = []

abbrev pub has_depth : Shape → Depth → Bool
has_depth s depth = list_any (is_depth depth) s.depths

abbrev pub has_alpha : Shape → Bool
has_alpha s = list_any (is_components components.Alpha) s.components

-- the form of the use of an effect, behind these nodes
abbrev pub form_of : {E : Type 0} → Shape → Form → List (Shown E) → List (Option ℕ) → List Bool → Form
form_of s project before clips masks =
    let inputs = inputs_of before clips masks in
    negotiated inputs (has_depth s depths.Byte) (has_depth s depths.Short) (has_alpha s) project

-- ---- a node

-- the use of an effect in a context, by the nodes of its clips
abbrev pub use_of : {E : Type 0} → E → Shape → Form → List (Shown E) → List ℕ → Context → List (Option ℕ)
    → List RawParam → Shown E
use_of e s project before name c clips params =
    let masks = map is_mask (clip_names s c) in
    let form = form_of s project before clips masks in
    let does = Effect e c clips (clip_names s c) (optional_flags s c) masks (map (param_of params) (s.params c)) in
    record { name = name; depth = form.0; components = form.1; does = does }

-- the first refusal of clips and parameters, where these are described
abbrev pub told_fault : List ℕ → Place → List Clip → List ParamDef → List RawClip → List RawParam → Option Fault
told_fault path place inputs defs clips params =
    first_of (clip_fault path place inputs clips ∷ params_fault path defs params ∷ [])

-- the use of an effect in a context that it supports, behind these nodes
abbrev pub use_in : {E : Type 0} → E → Shape → Form → List (Shown E) → List ℕ → List ℕ → Context → List RawClip
    → List RawParam → Result (Shown E) Fault
use_in e s project before path name c clips params =
    let place = place_of (names_of before) in
    refused_or (told_fault path place (s.clips c) (s.params c) clips params)
    (Ok (use_of e s project before name c (map (connection place clips) (s.clips c)) params))

-- the use of an effect, behind these nodes
abbrev pub effect_of : {E : Type 0} → (E → Meaning) → Form → List (Shown E) → List ℕ → List ℕ → Option E
    → Option RawContext → List RawClip → List RawParam → Result (Shown E) Fault
effect_of meaning project before path name None context clips params =
    Err (refusal UnknownEffect (node_path path (codes "effect")))
effect_of meaning project before path name (Some e) context clips params =
    let s = (meaning e).shape in
    let c = chosen s.contexts context in
    refused_or (unsupported path s.contexts c) (use_in e s project before path name c clips params)

-- what a node does, behind these nodes
abbrev pub work_of : {E : Type 0} → (List ℕ → Option E) → (E → Meaning) → Form → List (Shown E) → List ℕ → List ℕ
    → RawWork → Result (Shown E) Fault
work_of find meaning project before path name (raw.Source pattern first last hold depth components) =
    let does = Source pattern first last hold in
    refused_or (wrong_source path pattern first last)
    (Ok (record { name = name; depth = depth; components = components; does = does }))
work_of find meaning project before path name (raw.Effect effect context clips params) =
    effect_of meaning project before path name (find effect) context clips params
work_of find meaning project before path name (raw.GroupUse group clips) =
    Err (refusal UnknownGroup (node_path path (codes "group")))

-- refused where one of these nodes has the name
abbrev pub repeated : {E : Type 0} → List (Shown E) → List ℕ → List ℕ → Option Fault
repeated before path name =
    let taken = is_some (place_of (names_of before) name) in
    where_so taken NameRepeated (node_path path (codes "name"))

-- the node that stands behind these, or why it is refused
abbrev pub node_of : {E : Type 0} → (List ℕ → Option E) → (E → Meaning) → Form → List (Shown E) → RawNode
    → Result (Shown E) Fault
node_of find meaning project before node =
    refused_or (repeated before node.path node.name) (work_of find meaning project before node.path node.name node.work)

-- these nodes, and then those that stand behind them
abbrev pub nodes_of : {E : Type 0} → (List ℕ → Option E) → (E → Meaning) → Form → List (Shown E) → List RawNode
    → Result (List (Shown E)) Fault
nodes_of find meaning project before [] = Ok before
nodes_of find meaning project before (node ∷ nodes) =
    after (node_of find meaning project before node) (λ made.
    nodes_of find meaning project (before ++ made ∷ []) nodes)

-- the map gives the place of each name
abbrev pub IsIndex : BTreeMap (String Global) ℕ → List (List ℕ) → Type 0
IsIndex places names = (name : List ℕ) → get_by_text places name ≡ place_of names name
