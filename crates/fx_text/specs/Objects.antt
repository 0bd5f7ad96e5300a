-- What a graph's objects say, or the first fault.
use Rattle.std.specs.Prelude.{◌-◌, ℕ, ◌+◌, nat_eq, min, ℤ, pos, Bool, true, false, ◌&&◌, if◌then◌else◌, Option, Some, None, List, [], ◌∷◌, codes, Result, Ok, Err}
use Rattle.fx_base.specs.declared.limits.TheConstants.{LAST_FRAME, MOST_FRAMES}
use Rattle.serde_json.specs.Data.{Data, Items}
use Rattle.serde_json.specs.Find.{get}
use Rattle.std.specs.Str.{bytes_eq}
use Rattle.fx_text.specs.declared.fault.GraphCode.TheVariants.{NotJson}
use Rattle.fx_text.specs.declared.raw.RawContext.{RawContext}
use Rattle.fx_text.specs.declared.raw.RawContext.TheVariants as context
use Rattle.fx_text.specs.declared.raw.RawRange.{RawRange}
use Rattle.fx_text.specs.declared.raw.RawHead.{RawHead}
use Rattle.fx_text.specs.declared.raw.RawOutput.{RawOutput}
use Rattle.fx_text.specs.declared.raw.RawWork.{RawWork}
use Rattle.fx_text.specs.declared.raw.RawWork.TheVariants as work
use Rattle.fx_text.specs.declared.raw.Taking.{Taking}
use Rattle.fx_text.specs.declared.value.RawClip.{RawClip}
use Rattle.fx_text.specs.declared.value.RawParam.{RawParam}
use Rattle.fx_text.specs.Fault.{Fault}
use Rattle.fx_text.specs.Json.{after, word_at, has, value_of, check_object, whole_at, text_at, depth_at, components_at}
use Rattle.fx_text.specs.Json.{format_at, short_at, hold_at, depth_or, components_or, list_at, list_or, member_at, read_items}
use Rattle.fx_text.specs.Json.{integer_at, short_of}
use Rattle.fx_text.specs.Nodes.{Node, Group, Graph}
use Rattle.fx_text.specs.Takes.{takes_at}
use Rattle.fx_text.specs.declared.raw.TheConstants.{MOST_GROUPS, MOST_GROUP_NODES, MOST_INPUTS}
use Rattle.fx_text.specs.Paths.{inside, joined}
use Rattle.fx_text.specs.Raw.{Project}
use Rattle.fx_text.specs.Values.{clips_in, params_in}

abbrev pub project_keys : List (List ℕ)
project_keys = codes "width" ∷ codes "height" ∷ codes "depth" ∷ codes "components" ∷ []

-- the project: width, height, depth and components
abbrev pub project_of : List ℕ → ℕ → Data → Result Project Fault
project_of path side d =
    after (check_object path project_keys d) (λ _.
    after (whole_at path (codes "width") 1 side d) (λ width.
    after (whole_at path (codes "height") 1 side d) (λ height.
    after (depth_at path (codes "depth") d) (λ depth.
    after (components_at path (codes "components") d) (λ components.
    Ok (record { width = width; height = height; depth = depth; components = components }))))))

abbrev pub range_keys : List (List ℕ)
range_keys = codes "first" ∷ codes "last" ∷ []

-- the range: first, and last, which is at least first and at most first + 99,999
abbrev pub range_of : List ℕ → Data → Result RawRange Fault
range_of path d =
    after (check_object path range_keys d) (λ _.
    after (whole_at path (codes "first") 0 LAST_FRAME d) (λ first.
    after (whole_at path (codes "last") first (min LAST_FRAME (first + (MOST_FRAMES - 1))) d) (λ last.
    Ok (record { first = first; last = last }))))

abbrev pub output_keys : List (List ℕ)
output_keys = codes "node" ∷ codes "file" ∷ codes "format" ∷ []

-- the output: node, file and format
abbrev pub output_of : List ℕ → Data → Result RawOutput Fault
output_of path d =
    after (check_object path output_keys d) (λ _.
    after (text_at path (codes "node") d) (λ node.
    after (text_at path (codes "file") d) (λ file.
    after (format_at path (codes "format") d) (λ format.
    Ok (record { node = node; file = file; format = format })))))

abbrev pub source_keys : List (List ℕ)
source_keys =
    codes "name" ∷ codes "source" ∷ codes "first" ∷ codes "last"
    ∷ codes "outside" ∷ codes "depth" ∷ codes "components" ∷ []

-- the first and last frame of a source
abbrev pub source_frames : List ℕ → Data → Result RawRange Fault
source_frames path d =
    after (whole_at path (codes "first") 0 LAST_FRAME d) (λ first.
    after (whole_at path (codes "last") first LAST_FRAME d) (λ last.
    Ok (record { first = first; last = last })))

-- whether it holds, and depth and components, which are the project's where absent
abbrev pub taking_of : List ℕ → Project → Data → Result Taking Fault
taking_of path project d =
    after (hold_at path (codes "outside") d) (λ hold.
    after (depth_or path (codes "depth") project.depth d) (λ depth.
    after (components_or path (codes "components") project.components d) (λ components.
    Ok (record { hold = hold; depth = depth; components = components }))))

abbrev pub source_with : List ℕ → RawRange → Taking → RawWork
source_with pattern frames taking =
    work.Source pattern frames.first frames.last taking.hold taking.depth taking.components

-- what a source does: its pattern, its frames, and how they are taken
abbrev pub source_work : List ℕ → Project → Data → Result RawWork Fault
source_work path project d =
    after (text_at path (codes "source") d) (λ pattern.
    after (source_frames path d) (λ frames.
    after (taking_of path project d) (λ taking.
    Ok (source_with pattern frames taking))))

-- a source: its name, and what it does
abbrev pub source_of : List ℕ → Project → Data → Result Node Fault
source_of path project d =
    after (check_object path source_keys d) (λ _.
    after (short_at path (codes "name") d) (λ name.
    after (source_work path project d) (λ work.
    Ok (record { name = name; path = path; work = work }))))

abbrev pub context_of : List ℕ → Option RawContext
context_of text =
    if bytes_eq text (codes "generator") then Some context.Generator else
    if bytes_eq text (codes "filter") then Some context.Filter else
    if bytes_eq text (codes "transition") then Some context.Transition else
    if bytes_eq text (codes "general") then Some context.General else None

abbrev pub context_at : List ℕ → List ℕ → Data → Result (Option RawContext) Fault
context_at path key d =
    if has key d
    then after (after (text_at path key d) (λ text. word_at path key (context_of text))) (λ c. Ok (Some c))
    else Ok None

-- the clips of a node, of which there are none where the member is absent
abbrev pub clips_at : List ℕ → Data → Result (List RawClip) Fault
clips_at path d = clips_in (joined path (codes "clips")) (get (codes "clips") d)

-- the parameters likewise
abbrev pub params_at : List ℕ → Data → Result (List RawParam) Fault
params_at path d = params_in (joined path (codes "params")) (get (codes "params") d)

abbrev pub effect_keys : List (List ℕ)
effect_keys = codes "name" ∷ codes "effect" ∷ codes "context" ∷ codes "clips" ∷ codes "params" ∷ []

-- what an effect does: the effect's name, its context, clips and parameters
abbrev pub effect_work : List ℕ → Data → Result RawWork Fault
effect_work path d =
    after (text_at path (codes "effect") d) (λ effect.
    after (context_at path (codes "context") d) (λ context.
    after (clips_at path d) (λ clips.
    after (params_at path d) (λ params.
    Ok (work.Effect effect context clips params)))))

-- an effect: its name, and what it does
abbrev pub effect_of : List ℕ → Data → Result Node Fault
effect_of path d =
    after (check_object path effect_keys d) (λ _.
    after (short_at path (codes "name") d) (λ name.
    after (effect_work path d) (λ work.
    Ok (record { name = name; path = path; work = work }))))

abbrev pub use_keys : List (List ℕ)
use_keys = codes "name" ∷ codes "group" ∷ codes "clips" ∷ []

-- a use of a group: its name, the group's name, and clips
abbrev pub use_of : List ℕ → Data → Result Node Fault
use_of path d =
    after (check_object path use_keys d) (λ _.
    after (short_at path (codes "name") d) (λ name.
    after (text_at path (codes "group") d) (λ group.
    after (clips_at path d) (λ clips.
    Ok (record { name = name; path = path; work = work.GroupUse group clips })))))

-- where there may be groups, a use where it has a member `group`; else a source where it has a member `source`, and
-- else an effect
abbrev pub node_of : List ℕ → Bool → Project → Data → Result Node Fault
node_of path grouped project d =
    if grouped && has (codes "group") d then use_of path d else
    if has (codes "source") d then source_of path project d else effect_of path d

-- the nodes of a list
abbrev pub nodes_of : List ℕ → Bool → Project → Items → Result (List Node) Fault
nodes_of path grouped project = read_items (λ k d. node_of (inside path k) grouped project d) 0

-- ---- groups

abbrev pub inputs_of : List ℕ → Items → Result (List (List ℕ)) Fault
inputs_of path = read_items (λ k d. short_of (inside path k) d) 0

abbrev pub inputs_at : List ℕ → Data → Result (List (List ℕ)) Fault
inputs_at path d = after (list_at path (codes "inputs") 0 MOST_INPUTS d) (inputs_of (joined path (codes "inputs")))

abbrev pub group_nodes_at : List ℕ → Project → Data → Result (List Node) Fault
group_nodes_at path project d =
    let nodes_path = joined path (codes "nodes") in
    after (list_at path (codes "nodes") 1 MOST_GROUP_NODES d) (nodes_of nodes_path true project)

abbrev pub group_keys : List (List ℕ)
group_keys = codes "name" ∷ codes "inputs" ∷ codes "nodes" ∷ codes "output" ∷ []

-- a group: name, inputs, nodes and output
abbrev pub group_of : List ℕ → Project → Data → Result Group Fault
group_of path project d =
    after (check_object path group_keys d) (λ _.
    after (short_at path (codes "name") d) (λ name.
    after (inputs_at path d) (λ inputs.
    after (group_nodes_at path project d) (λ nodes.
    after (text_at path (codes "output") d) (λ output.
    Ok (record { name = name; inputs = inputs; nodes = nodes; output = output }))))))

-- the groups of a graph, of which there are none where the member is absent
abbrev pub groups_of : Project → Items → Result (List Group) Fault
groups_of project = read_items (λ k d. group_of (inside (codes "groups") k) project d) 0

abbrev pub groups_at : Project → Data → Result (List Group) Fault
groups_at project d = after (list_or [] (codes "groups") 0 MOST_GROUPS d) (groups_of project)

-- ---- the graph

-- there may be groups where `ofxr` is the whole number 2
abbrev pub is_two : Option ℤ → Bool
is_two (Some (pos n)) = nat_eq n 2
is_two _ = false

abbrev pub is_grouped : Data → Bool
is_grouped d = is_two (integer_at (codes "ofxr") d)

abbrev pub plain_keys : List (List ℕ)
plain_keys =
    codes "ofxr" ∷ codes "project" ∷ codes "output" ∷ codes "range" ∷ codes "nodes" ∷ codes "takes" ∷ []

abbrev pub top_keys : Bool → List (List ℕ)
top_keys false = plain_keys
top_keys true = codes "groups" ∷ plain_keys

abbrev pub project_at : ℕ → Data → Result Project Fault
project_at side d = after (member_at [] (codes "project") d) (project_of (codes "project") side)

abbrev pub output_at : Data → Result RawOutput Fault
output_at d = after (member_at [] (codes "output") d) (output_of (codes "output"))

abbrev pub frames_at : Data → Result RawRange Fault
frames_at d = after (member_at [] (codes "range") d) (range_of (codes "range"))

abbrev pub nodes_at : ℕ → Bool → Project → Data → Result (List Node) Fault
nodes_at most grouped project d =
    after (list_at [] (codes "nodes") 1 most d) (nodes_of (codes "nodes") grouped project)

-- the graph with this head: groups, nodes and takes
abbrev pub graph_from : ℕ → Bool → RawHead → Data → Result Graph Fault
graph_from most grouped head d =
    after (groups_at head.project d) (λ groups.
    after (nodes_at most grouped head.project d) (λ nodes.
    after (takes_at d) (λ takes.
    Ok (record {
      format = head.format;
      project = head.project;
      output = head.output;
      first = head.range.first;
      last = head.range.last;
      groups = groups;
      nodes = nodes;
      takes = takes;
    }))))

-- the graph: ofxr, project, output, range, groups, nodes and takes
abbrev pub graph_of : ℕ → ℕ → Data → Result Graph Fault
graph_of most side d =
    let grouped = is_grouped d in
    after (check_object [] (top_keys grouped) d) (λ _.
    after (whole_at [] (codes "ofxr") 1 2 d) (λ format.
    after (project_at side d) (λ project.
    after (output_at d) (λ output.
    after (frames_at d) (λ range.
    graph_from most grouped (record { format = format; project = project; output = output; range = range }) d)))))

abbrev pub graph_in : ℕ → ℕ → Option Data → Result Graph Fault
graph_in most side (Some d) = graph_of most side d
graph_in most side None = Err (record { code = NotJson; path = [] })

-- the graph of a file's bytes, or the first fault
abbrev pub read_graph : List ℕ → ℕ → ℕ → Result Graph Fault
read_graph bytes most side = graph_in most side (value_of bytes)
