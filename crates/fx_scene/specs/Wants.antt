-- The source frames that a run of a graph wants: those that the sources show which are reached.
use Rattle.std.specs.Prelude.{◌≡◌, ◌↔◌, ◌⊎◌, ◌<◌, ◌<ℤ◌, ◌-◌, ◌&&◌, ◌++◌, ℕ, ℤ, pos, Bool, false, nat_eq, List, [], ◌∷◌, length, Option, Some, None, slice_get, Contains, AllPairs, if◌then◌else◌}
use Rattle.std.specs.Option.{option_map}
use Rattle.std.specs.Ordering.{int_eq}
use Rattle.fx_base.specs.Pattern.{name_of}
use Rattle.fx_seq.specs.declared.wanted.Wanted.{Wanted}
use Rattle.fx_graph.specs.Shown.{Does, GraphShown, Shown}
use Rattle.fx_graph.specs.Shown as does
use Rattle.fx_scene.specs.declared.reaching.NodeFrame.{NodeFrame}
use Rattle.fx_scene.specs.Nodes.{Node, Nodes, Source, Effect}
use Rattle.fx_scene.specs.Reach.{IsReached}
use Rattle.fx_scene.specs.Scenes.{shown_frame}

-- the node is a source that shows the frame f at t
abbrev pub Shows : Node → ℤ → ℤ → Type 0
Shows (Source s) t f = s.named t ≡ Some f
Shows (Effect o) t f = ⊥

-- the sources of both show the same frames
abbrev pub ShowSame : Nodes → Nodes → Type 0
ShowSame a b = (n : ℕ) (t f : ℤ) → Shows (a n) t f ↔ Shows (b n) t f

-- a source that is reached shows the frame
pub record IsWanted (nodes : Nodes) (output : ℕ) (first last : ℤ) (n : ℕ) (f : ℤ) : Type 0 where
  pub at : ℤ
  pub reached : IsReached nodes output first last n at
  pub shows : Shows (nodes n) at f

-- the list has an entry of the node's frame
pub record Lists (wanted : List Wanted) (n : ℕ) (f : ℤ) : Type 0 where
  pub entry : Wanted
  pub listed : Contains wanted entry
  pub node : entry.node ≡ n
  pub frame : entry.frame ≡ f

-- by node, and then by frame
abbrev pub IsBefore : Wanted → Wanted → Type 0
IsBefore v w = (v.node < w.node) ⊎ ((v.node ≡ w.node) × (v.frame <ℤ w.frame))

-- exactly the wanted frames, each once, by node and then frame
pub record AreWanted (nodes : Nodes) (output : ℕ) (first last : ℤ) (wanted : List Wanted) : Type 0 where
  pub only : (w : Wanted) → Contains wanted w → IsWanted nodes output first last w.node w.frame
  pub all : (n : ℕ) (f : ℤ) → IsWanted nodes output first last n f → Lists wanted n f
  pub order : AllPairs IsBefore wanted

-- it has the name that the source's pattern gives the frame
abbrev pub IsNamedBy : {E : Type 0} → Does E → Wanted → Type 0
IsNamedBy (does.Source pattern first last hold) w = (k : ℕ) → w.frame ≡ pos k → w.name ≡ name_of pattern k
IsNamedBy (does.Effect e context clips names optional masks params) w = ⊥

-- it has the name of its node's file
abbrev pub IsNamedIn : {E : Type 0} → GraphShown E → Wanted → Type 0
IsNamedIn {E} g w = (n : Shown E) → slice_get g.nodes w.node ≡ Some n → IsNamedBy n.does w

-- ---- one after the other

-- whether it is an entry of the node's frame
abbrev pub is_of : ℕ → ℤ → Option Wanted → Bool
is_of n f None = false
is_of n f (Some w) = nat_eq w.node n && int_eq w.frame f

-- whether the last entry is of the node's frame
abbrev pub is_last : List Wanted → ℕ → ℤ → Bool
is_last wanted n f = is_of n f (slice_get wanted (length wanted - 1))

abbrev pub entry : ℕ → List ℕ → ℕ → Wanted
entry n pattern k = record { node = n; frame = pos k; name = name_of pattern k }

-- with an entry of the node's frame, unless it is the last
abbrev pub with_entry : List Wanted → ℕ → List ℕ → ℕ → List Wanted
with_entry wanted n pattern k =
    if is_last wanted n (pos k) then wanted else wanted ++ entry n pattern k ∷ []

abbrev pub with_shown : List Wanted → ℕ → List ℕ → Option ℕ → List Wanted
with_shown wanted n pattern None = wanted
with_shown wanted n pattern (Some k) = with_entry wanted n pattern k

-- what is wanted with the frame that node n shows at t
abbrev pub WantsShown : {E : Type 0} → Does E → ℕ → ℤ → List Wanted → List Wanted → Type 0
WantsShown (does.Source pattern first last hold) n t old new =
    (k : Option ℕ) → option_map pos k ≡ shown_frame first last hold t → new ≡ with_shown old n pattern k
WantsShown (does.Effect e context clips names optional masks params) n t old new = new ≡ old

-- what is wanted with the frame that a node at a frame shows
abbrev pub WantsIn : {E : Type 0} → GraphShown E → NodeFrame → List Wanted → List Wanted → Type 0
WantsIn {E} g m old new = (n : Shown E) → slice_get g.nodes m.node ≡ Some n → WantsShown n.does m.node m.frame old new
