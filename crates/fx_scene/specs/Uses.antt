-- The moments of a run, which are its frames at take 0 and then at each take after it, and what they want.
use Rattle.std.specs.Prelude.{◌≡◌, ◌<◌, ◌≤◌, ◌↔◌, ◌+◌, ◌/◌, ◌%◌, ℕ, ℤ, pos, Bool, List, [], ◌∷◌, map, AllPairs, Contains, Option, Some, IsSome, if◌then◌else◌}
use Rattle.std.specs.BTreeMap.{BTreeMap, IsOrdered, get, is_at}
use Rattle.std.specs.Option.{option_map_or}
use Rattle.fx_effect.specs.Meaning.{Meaning}
use Rattle.fx_graph.specs.Shown.{GraphShown}
use Rattle.fx_scene.specs.Scenes.{graph_nodes, no_images}
use Rattle.fx_scene.specs.Wants.{IsBefore, IsWanted}
use Rattle.fx_scene.specs.declared.take.Edit.{Edit}
use Rattle.fx_seq.specs.declared.used.Use.{Use}
use Rattle.fx_seq.specs.declared.wanted.Wanted.{Wanted}
use Rattle.fx_scene.specs.declared.reaching.NodeFrame.{NodeFrame}
use Rattle.fx_scene.specs.Reach.{node_frame, node_frame_cmp}
use Rattle.fx_scene.specs.Takes.{graph_of_take}

-- which source's frame each moment wants
abbrev pub Wanting : Type 1
Wanting = ℕ → ℕ → ℤ → Type 0

-- moment j of `count` frames from a first one: they come in order at take 0, then at take 1, and so on
abbrev pub take_at : ℕ → ℕ → ℕ
take_at count j = j / count

abbrev pub frame_at : ℕ → ℕ → ℕ → ℕ
frame_at first count j = first + j % count

abbrev pub wanting : {E : Type 0} → (E → Meaning) → GraphShown E → List (List Edit) → ℕ → ℕ → Wanting
wanting meaning g takes first count j n f =
    let h = graph_of_take g takes (take_at count j) in
    let t = pos (frame_at first count j) in
    IsWanted (graph_nodes meaning h no_images) g.output t t n f

-- wanted at the moment and at none before it
pub record IsDue (W : Wanting) (j n : ℕ) (f : ℤ) : Type 0 where
  pub wanted : W j n f
  pub new : (i : ℕ) → i < j → W i n f → ⊥

-- wanted before the moment, and at it or later
pub record IsHeld (W : Wanting) (moments j n : ℕ) (f : ℤ) : Type 0 where
  pub before : (i : ℕ) × (i < j) × W i n f
  pub later : (i : ℕ) × (j ≤ i) × (i < moments) × W i n f

-- the first and the last moment that want it
pub record IsUse (W : Wanting) (moments : ℕ) (u : Use) : Type 0 where
  pub order : u.from ≤ u.until
  pub end : u.until < moments
  pub first : W u.from u.wanted.node u.wanted.frame
  pub last : W u.until u.wanted.node u.wanted.frame
  pub none_before : (i : ℕ) → i < u.from → W i u.wanted.node u.wanted.frame → ⊥
  pub none_after : (i : ℕ) → u.until < i → i < moments → W i u.wanted.node u.wanted.frame → ⊥

-- the list has a use of the node's frame
pub record ListsUse (uses : List Use) (n : ℕ) (f : ℤ) : Type 0 where
  pub use_ : Use
  pub listed : Contains uses use_
  pub node : use_.wanted.node ≡ n
  pub frame : use_.wanted.frame ≡ f

-- exactly what the moments want, each once, by node and then frame
pub record AreUses (W : Wanting) (moments : ℕ) (uses : List Use) : Type 0 where
  pub each : (u : Use) → Contains uses u → IsUse W moments u
  pub all : (j n : ℕ) (f : ℤ) → j < moments → W j n f → ListsUse uses n f
  pub order : AllPairs IsBefore (map (λ u. u.wanted) uses)

-- so a use tells when it is due and when it is held
abbrev pub UsesTell : Wanting → Type 0
UsesTell W =
    (moments : ℕ) (uses : List Use) → AreUses W moments uses → (u : Use) → Contains uses u → (j : ℕ) → j < moments
    → (IsDue W j u.wanted.node u.wanted.frame ↔ (u.from ≡ j))
    × (IsHeld W moments j u.wanted.node u.wanted.frame ↔ ((u.from < j) × (j ≤ u.until)))

-- ---- in code

-- what a table of uses has of a node's frame
abbrev pub used_in : BTreeMap NodeFrame Use → ℕ → ℤ → Option Use
used_in table n f = get node_frame_cmp table (node_frame n f)

-- the use of a frame that the moment wants, where there was this use of it before, or none
abbrev pub use_with : Wanted → ℕ → Option Use → Use
use_with w moment o =
    record { wanted = w; from = option_map_or (λ u. u.from) o moment; until = moment }

abbrev pub is_here : Wanted → ℕ → ℤ → Bool
is_here w n f = is_at (node_frame_cmp (node_frame w.node w.frame)) (node_frame n f)

-- what the table has of a node's frame once it was noted that the moment wants these
abbrev pub noted : List Wanted → ℕ → ℕ → ℤ → Option Use → Option Use
noted [] moment n f o = o
noted (w ∷ ws) moment n f o = noted ws moment n f (if is_here w n f then Some (use_with w moment o) else o)

abbrev pub Notes : List Wanted → ℕ → BTreeMap NodeFrame Use → BTreeMap NodeFrame Use → Type 0
Notes ws moment old new = (n : ℕ) (f : ℤ) → used_in new n f ≡ noted ws moment n f (used_in old n f)

-- the table has the use of each frame that is wanted at one of the first moments
pub record HasUses (W : Wanting) (P : Wanted → Type 0) (j : ℕ) (table : BTreeMap NodeFrame Use) : Type 0 where
  pub node : (n : ℕ) (f : ℤ) (u : Use) → used_in table n f ≡ Some u → u.wanted.node ≡ n
  pub frame : (n : ℕ) (f : ℤ) (u : Use) → used_in table n f ≡ Some u → u.wanted.frame ≡ f
  pub is : (n : ℕ) (f : ℤ) (u : Use) → used_in table n f ≡ Some u → IsUse W j u
  pub all : (i n : ℕ) (f : ℤ) → i < j → W i n f → IsSome (used_in table n f)
  pub named : (n : ℕ) (f : ℤ) (u : Use) → used_in table n f ≡ Some u → P u.wanted
  pub order : IsOrdered node_frame_cmp table
