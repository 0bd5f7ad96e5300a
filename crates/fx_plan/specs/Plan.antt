-- Which renders a frame demands: the least set that has those where its window tiles are found, and with each of them
-- those that it needs.
use Rattle.std.specs.Prelude.{◌≡◌, ◌<◌, ◌<ℤ◌, ◌⊎◌, ℕ, ℤ, Bool, true, List, [], ◌∷◌, AllPairs}
use Rattle.std.specs.List.{Contains, flat_map}
use Rattle.fx_base.specs.Bounds.{Bounds}
use Rattle.fx_effect.specs.Meaning.{Meaning}
use Rattle.fx_graph.specs.Shown.{GraphShown}
use Rattle.fx_scene.specs.Nodes.{Nodes}
use Rattle.fx_scene.specs.Scenes.{Images, graph_nodes}
use Rattle.fx_region.specs.Counts.{window_ends}
use Rattle.fx_region.specs.Ends.{EndShown, Frame, Render, Void}
use Rattle.fx_region.specs.Needs.{NeedShown, needs_of}
use Rattle.fx_plan.specs.declared.entry.Entry.{Entry}

-- the entry of a render; every other end has none
abbrev pub entry_at : EndShown → List Entry
entry_at Void = []
entry_at (Frame node frame region through) = []
entry_at (Render node frame region cut through) = record { node = node; frame = frame; region = region } ∷ []

abbrev pub need_entry : NeedShown → List Entry
need_entry need = entry_at need.end

-- those where the window tiles of a frame are found
abbrev pub window_entries : Nodes → ℕ → ℕ → Bounds → ℤ → List Entry
window_entries nodes output side project t = flat_map entry_at (window_ends nodes output side project t)

-- those that an entry needs
abbrev pub needed_entries : Nodes → ℕ → Entry → List Entry
needed_entries nodes side e = flat_map need_entry (needs_of nodes side e.node e.frame e.region)

-- the set has the entries of the window tiles, and with each of its members those that it needs
pub record IsClosed (nodes : Nodes) (output side : ℕ) (project : Bounds) (t : ℤ) (s : Entry → Bool) : Type 0 where
  pub window : (e : Entry) → Contains (window_entries nodes output side project t) e → s e ≡ true
  pub needs : (e d : Entry) → s e ≡ true → Contains (needed_entries nodes side e) d → s d ≡ true

-- the entry is in every such set
abbrev pub IsDemanded : Nodes → ℕ → ℕ → Bounds → ℤ → Entry → Type 0
IsDemanded nodes output side project t e = (s : Entry → Bool) → IsClosed nodes output side project t s → s e ≡ true

-- the first numbers that differ decide
abbrev pub IsLess : ℤ → ℤ → Type 0 → Type 0
IsLess a b rest = (a <ℤ b) ⊎ ((a ≡ b) × rest)

-- by node, by frame, and by the bottom, left, top and right of the region
abbrev pub IsBefore : Entry → Entry → Type 0
IsBefore a b =
    let p = a.region in
    let q = b.region in
    (a.node < b.node) ⊎ ((a.node ≡ b.node)
    × IsLess a.frame b.frame (IsLess p.y1 q.y1 (IsLess p.x1 q.x1 (IsLess p.y2 q.y2 (p.x2 <ℤ q.x2)))))

-- exactly the entries that are demanded, each once and in this order, so that what one needs stands before it
pub record IsPlan (nodes : Nodes) (output side : ℕ) (project : Bounds) (t : ℤ) (entries : List Entry) : Type 0 where
  pub all : (e : Entry) → IsDemanded nodes output side project t e → Contains entries e
  pub only : (e : Entry) → Contains entries e → IsDemanded nodes output side project t e
  pub order : AllPairs IsBefore entries
  pub needs_first : (e d : Entry) → Contains entries e → Contains (needed_entries nodes side e) d → IsBefore d e

-- of a frame of a graph over these images, by a grid of this side
abbrev pub IsPlanOf : {E : Type 0} → (E → Meaning) → GraphShown E → Images → ℕ → ℤ → List Entry → Type 0
IsPlanOf meaning g images side t entries = IsPlan (graph_nodes meaning g images) g.output side g.project t entries
