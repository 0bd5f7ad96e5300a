-- Takes: edits of a graph's parameters, done one after another. The graph of a take, and the eras of its nodes.
use Rattle.std.specs.Prelude.{◌≡◌, ◌+◌, ℕ, zero, suc, ℤ, ◌||◌, nat_eq, Bool, false, List, [], ◌∷◌, map, Option, Some, None, slice_get, slice_index_or, if◌then◌else◌}
use Rattle.std.specs.List.{AllByRecursion, list_any}
use Rattle.fx_effect.specs.Meaning.{Meaning}
use Rattle.fx_graph.specs.Shown.{Does, Shown, GraphShown}
use Rattle.fx_graph.specs.Shown as does
use Rattle.fx_graph.specs.Edits.{IsEditOf, with_edit}
use Rattle.fx_graph.specs.Kept as kept
use Rattle.fx_scene.specs.Depends.{AreImages}
use Rattle.fx_scene.specs.Nodes.{components_at, depth_at}
use Rattle.fx_scene.specs.Reach.{IsReached}
use Rattle.fx_scene.specs.Scenes.{Images, graph_nodes, node_values}
use Rattle.fx_scene.specs.Table.{at_place}
use Rattle.fx_scene.specs.Value.{value}
use Rattle.fx_scene.specs.Wants.{IsWanted}
use Rattle.fx_scene.specs.declared.take.Edit.{Edit}
use Rattle.fx_scene.specs.declared.take.Take.{Take}

-- ---- the graph of a take

-- the edits of each take
abbrev pub edits_of : List Take → List (List Edit)
edits_of takes = map (λ t. t.edits.items) takes

-- the nodes after edits that are done in order
abbrev pub edited_all : {E : Type 0} → List Edit → List (Shown E) → List (Shown E)
edited_all [] nodes = nodes
edited_all (e ∷ es) nodes = edited_all es (with_edit e.node e.param e.value nodes)

-- the edits of the take behind take k
abbrev pub edits_after : List (List Edit) → ℕ → List Edit
edits_after takes k = slice_index_or takes k []

-- the nodes at a take: as they are written at take 0, and from then on those of the take before with its edits
abbrev pub nodes_at : {E : Type 0} → List (Shown E) → List (List Edit) → ℕ → List (Shown E)
nodes_at nodes takes zero = nodes
nodes_at nodes takes (suc k) = edited_all (edits_after takes k) (nodes_at nodes takes k)

abbrev pub graph_of_take : {E : Type 0} → GraphShown E → List (List Edit) → ℕ → GraphShown E
graph_of_take g takes k = record g { nodes = nodes_at g.nodes takes k }

-- ---- eras

-- whether one of the edits is of the node
abbrev pub names_node : List Edit → ℕ → Bool
names_node edits n = list_any (λ e. nat_eq e.node n) edits

-- by what is known of the nodes before
abbrev pub clip_touched : (ℕ → Bool) → Option ℕ → Bool
clip_touched before None = false
clip_touched before (Some m) = before m

abbrev pub does_touched : {E : Type 0} → (ℕ → Bool) → Does E → Bool
does_touched before (does.Source pattern first last hold) = false
does_touched before (does.Effect e context clips names optional masks params) = list_any (clip_touched before) clips

abbrev pub node_touched : {E : Type 0} → (ℕ → Bool) → Option (Shown E) → Bool
node_touched before None = false
node_touched before (Some n) = does_touched before n.does

-- whether one of the edits is of the node or of a node that it reaches through clips, by the place in the list
unfoldable pub is_touched : {E : Type 0} → List (Shown E) → List Edit → ℕ → Bool
is_touched nodes edits =
    at_place false (λ before k. names_node edits k || node_touched before (slice_get nodes k))

-- how many of the first k takes touched the node
abbrev pub era : {E : Type 0} → List (Shown E) → List (List Edit) → ℕ → ℕ → ℕ
era nodes takes zero n = 0
era nodes takes (suc k) n =
    era nodes takes k n + (if is_touched (nodes_at nodes takes k) (edits_after takes k) n then 1 else 0)

-- ---- what eras tell

-- at each take the nodes are such as a graph keeps
abbrev pub AreTakes : {E : Type 0} → (E → Meaning) → GraphShown E → List (List Edit) → Type 0
AreTakes meaning g takes = (k : ℕ) → kept.AreNodes meaning (g.depth, g.components) (nodes_at g.nodes takes k)

-- node n is the same in both: its values, its pixels over the same frames, its form, what it reads and what it wants
pub record IsSameAt {E : Type 0} (meaning : E → Meaning) (g h : GraphShown E) (n : ℕ) : Type 0 where
  pub values : (t : ℤ) → node_values g n t ≡ node_values h n t
  pub depth : (images : Images) → depth_at (graph_nodes meaning g images) n ≡ depth_at (graph_nodes meaning h images) n
  pub components :
      (images : Images)
      → components_at (graph_nodes meaning g images) n ≡ components_at (graph_nodes meaning h images) n
  pub pixels :
      (images : Images) → AreImages images → (t x y : ℤ)
      → value (graph_nodes meaning g images) n t x y ≡ value (graph_nodes meaning h images) n t x y
  pub reach :
      (images : Images) → AreImages images → (first last : ℤ) (m : ℕ) (f : ℤ)
      → IsReached (graph_nodes meaning g images) n first last m f
      → IsReached (graph_nodes meaning h images) n first last m f
  pub wants :
      (images : Images) → AreImages images → (first last : ℤ) (m : ℕ) (f : ℤ)
      → IsWanted (graph_nodes meaning g images) n first last m f
      → IsWanted (graph_nodes meaning h images) n first last m f

-- takes with the same era of a node have the same node
abbrev pub ErasTell : {E : Type 0} → (E → Meaning) → GraphShown E → List (List Edit) → Type 0
ErasTell meaning g takes =
    (j k n : ℕ) → era g.nodes takes j n ≡ era g.nodes takes k n
    → IsSameAt meaning (graph_of_take g takes j) (graph_of_take g takes k) n

-- ---- edits that may be done

-- of a parameter of one of the nodes that has the definition of the value
abbrev pub IsEdit : {E : Type 0} → List (Shown E) → Edit → Type 0
IsEdit nodes e = IsEditOf nodes e.node e.param e.value

-- each edit of each take is of a parameter of the graph
abbrev pub AreEdits : {E : Type 0} → List (Shown E) → List (List Edit) → Type 0
AreEdits nodes takes = (k : ℕ) → AllByRecursion (IsEdit nodes) (edits_after takes k)

-- such edits leave a graph's nodes such as a graph keeps
abbrev pub EditsKeep : {E : Type 0} → (E → Meaning) → GraphShown E → List (List Edit) → Type 0
EditsKeep meaning g takes = AreEdits g.nodes takes → AreTakes meaning g takes
