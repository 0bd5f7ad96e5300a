-- A graph at 1/q of its size, and its takes.
use Rattle.std.specs.Prelude.{◌≡◌, ℕ, ◌+◌, List, [], ◌∷◌, map, Option, Some, None, slice_get}
use Rattle.std.specs.List.{AllByRecursion}
use Rattle.fx_params.specs.Parameter.{Parameter}
use Rattle.fx_graph.specs.Edits.{IsEditOf}
use Rattle.fx_graph.specs.Shown.{Does, Effect, GraphShown, Shown, Source}
use Rattle.fx_takes.specs.Shown.{EditShown, TakeShown}
use Rattle.fx_proxy.specs.Lengths.{HasLength, scaled_param}
use Rattle.fx_proxy.specs.Reduced.{reduced_rect}

-- ---- the graph

-- the parameters of an effect, from a place on
abbrev pub scaled_params : ℕ → ℕ → ℕ → List Parameter → List Parameter
scaled_params effect place q [] = []
scaled_params effect place q (p ∷ ps) = scaled_param effect place q p ∷ scaled_params effect (place + 1) q ps

-- of an effect its lengths alone; a source names the same files
abbrev pub scaled_does : {E : Type 0} → (E → ℕ) → ℕ → Does E → Does E
scaled_does number q (Source pattern first last hold) = Source pattern first last hold
scaled_does number q (Effect e context clips names optional masks params) =
    Effect e context clips names optional masks (scaled_params (number e) 0 q params)

abbrev pub scaled_node : {E : Type 0} → (E → ℕ) → ℕ → Shown E → Shown E
scaled_node number q node = record node { does = scaled_does number q node.does }

-- its extent is rounded up
abbrev pub scaled_graph : {E : Type 0} → (E → ℕ) → ℕ → GraphShown E → GraphShown E
scaled_graph number q g =
    record g { project = reduced_rect q g.project; nodes = map (scaled_node number q) g.nodes }

-- where a length stands, the parameter has its definition
abbrev pub HasLengths : ℕ → ℕ → List Parameter → Type 0
HasLengths effect place [] = Unit {0}
HasLengths effect place (p ∷ ps) = HasLength effect place p × HasLengths effect (place + 1) ps

abbrev pub DoesLengths : {E : Type 0} → (E → ℕ) → Does E → Type 0
DoesLengths number (Source pattern first last hold) = Unit {0}
DoesLengths number (Effect e context clips names optional masks params) = HasLengths (number e) 0 params

-- the same of each effect of a graph
abbrev pub AreLengths : {E : Type 0} → (E → ℕ) → List (Shown E) → Type 0
AreLengths {E} number nodes = (k : ℕ) (node : Shown E) → slice_get nodes k ≡ Some node → DoesLengths number node.does

-- ---- its takes

-- what an edit of a node gives a parameter
abbrev pub scaled_value : {E : Type 0} → (E → ℕ) → ℕ → ℕ → Parameter → Does E → Parameter
scaled_value number q place p (Source pattern first last hold) = p
scaled_value number q place p (Effect e context clips names optional masks params) = scaled_param (number e) place q p

abbrev pub value_for : {E : Type 0} → (E → ℕ) → ℕ → ℕ → Parameter → Option (Shown E) → Parameter
value_for number q place p None = p
value_for number q place p (Some node) = scaled_value number q place p node.does

-- an edit of one of these nodes
abbrev pub scaled_edit : {E : Type 0} → (E → ℕ) → ℕ → List (Shown E) → EditShown → EditShown
scaled_edit number q nodes e = record e { value = value_for number q e.param e.value (slice_get nodes e.node) }

-- its files stay those of the take
abbrev pub scaled_take : {E : Type 0} → (E → ℕ) → ℕ → List (Shown E) → TakeShown → TakeShown
scaled_take number q nodes t = record t { edits = map (scaled_edit number q nodes) t.edits }

-- an edit of a parameter of one of these nodes, and a take of such edits
abbrev pub IsShownEdit : {E : Type 0} → List (Shown E) → EditShown → Type 0
IsShownEdit nodes e = IsEditOf nodes e.node e.param e.value

abbrev pub IsShownTake : {E : Type 0} → List (Shown E) → TakeShown → Type 0
IsShownTake nodes t = AllByRecursion (IsShownEdit nodes) t.edits
