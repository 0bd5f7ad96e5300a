-- The parameters of a graph's nodes apart from the graph: a row for each node, in place of the node's own.
use Rattle.std.specs.Prelude.{◌≡◌, ◌<◌, ℕ, zero, suc, List, [], ◌∷◌, length, map, set, Some, option_map, slice_get}
use Rattle.std.specs.Borrow.{Bor}
use Rattle.std.specs.declared.alloc.Global.{Global}
use Rattle.std.specs.declared.vec.Vec.{Vec}
use Rattle.fx_params.specs.Parameter.{Parameter}
use Rattle.fx_effect.specs.Meaning.{Meaning}
use Rattle.fx_graph.specs.Kept as kept
use Rattle.fx_graph.specs.declared.node.Node.{Node as AnyNode}
use Rattle.fx_graph.specs.Shown.{Does, GraphShown, Shown, does_of}
use Rattle.fx_graph.specs.Shown as does
use Rattle.fx_scene.specs.declared.take.Edit.{Edit}

-- ---- rows that are lent

abbrev pub row_in : List (Bor Parameter) → List Parameter
row_in row = map (λ p. p.now) row

abbrev pub rows_in : List (Vec (Bor Parameter) Global) → List (List Parameter)
rows_in rows = map (λ row. row_in row.items) rows

-- ---- a graph with rows

-- an effect with these parameters in place of its own
abbrev pub with_row : {E : Type 0} → List Parameter → Does E → Does E
with_row row (does.Source pattern first last hold) = does.Source pattern first last hold
with_row row (does.Effect e context clips names optional masks params) =
    does.Effect e context clips names optional masks row

abbrev pub node_with : {E : Type 0} → List Parameter → Shown E → Shown E
node_with row n = record n { does = with_row row n.does }

-- each node with the row at its place
abbrev pub with_rows : {E : Type 0} → List (Shown E) → List (List Parameter) → List (Shown E)
with_rows [] rows = []
with_rows (n ∷ ns) [] = n ∷ ns
with_rows (n ∷ ns) (row ∷ rows) = node_with row n ∷ with_rows ns rows

abbrev pub graph_with : {E : Type 0} → GraphShown E → List (List Parameter) → GraphShown E
graph_with g rows = record g { nodes = with_rows g.nodes rows }

-- a row for each node, with which they are such as a graph keeps
pub record AreRows {E : Type 0} (meaning : E → Meaning) (g : GraphShown E) (rows : List (List Parameter)) : Type 0 where
  pub long : length rows ≡ length g.nodes
  pub kept : kept.AreNodes meaning (g.depth, g.components) (with_rows g.nodes rows)

-- what a graph keeps of an effect behind so many nodes, with these parameters in place of its own
abbrev pub IsRow : {E : Type 0} → (E → Meaning) → ℕ → List Parameter → Does E → Type 0
IsRow meaning before row (does.Source pattern first last hold) = Unit {0}
IsRow meaning before row (does.Effect e context clips names optional masks params) =
    kept.IsUse (meaning e).shape before context clips names optional masks row

abbrev pub IsRowAt : {E : Type 0} → (E → Meaning) → GraphShown E → ℕ → List Parameter → Type 0
IsRowAt {E} meaning g k row = (n : Shown E) → slice_get g.nodes k ≡ Some n → IsRow meaning k row n.does

-- in h the node at the place is that of g with this row
pub record HasRow {E : Type 0} (h g : GraphShown E) (k : ℕ) (row : List Parameter) : Type 0 where
  pub project : h.project ≡ g.project
  pub node : slice_get h.nodes k ≡ option_map (node_with row) (slice_get g.nodes k)

-- ---- the graph's own

abbrev pub own_row : {E : Type 0} → Does E → List Parameter
own_row (does.Source pattern first last hold) = []
own_row (does.Effect e context clips names optional masks params) = params

abbrev pub own_rows : {E : Type 0} → List (AnyNode E) → List (List Parameter)
own_rows nodes = map (λ n. own_row (does_of n.work)) nodes

-- ---- edits of rows

-- with this parameter at its place in the row at a place
abbrev pub with_param_at : ℕ → ℕ → Parameter → List (List Parameter) → List (List Parameter)
with_param_at k i p [] = []
with_param_at zero i p (row ∷ rows) = set row i p ∷ rows
with_param_at (suc k) i p (row ∷ rows) = row ∷ with_param_at k i p rows

-- after edits that are done in order
abbrev pub rows_edited : List Edit → List (List Parameter) → List (List Parameter)
rows_edited [] rows = rows
rows_edited (e ∷ es) rows = rows_edited es (with_param_at e.node e.param e.value rows)

-- there is a parameter at the edit's places
pub record HasPlace (rows : List (List Parameter)) (e : Edit) : Type 0 where
  pub row : List Parameter
  pub there : slice_get rows e.node ≡ Some row
  pub within : e.param < length row
