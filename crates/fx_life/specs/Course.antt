-- The order in which actions may come to a plug-in (OpenFX 1.4, "The Actions").
use Rattle.std.specs.Prelude.{◌≡◌, ℕ, ◌==◌, List, [], ◌∷◌, ◌++◌, if◌then◌else◌}
use Rattle.std.specs.List.{Contains}
use Rattle.fx_effect.specs.declared.action.Context.{Context}
use Rattle.fx_life.specs.Plugin.{Plugin, without}

-- an instance is idle, or in a sequence of renders from a first frame to a last
pub data Phase : Type 0 where
  Idle : Phase
  Sequence : ℕ → ℕ → Phase

-- an action on a plug-in: those on an instance name its node
pub data Action : Type 0 where
  Load : Action
  Describe : Action
  DescribeInContext : Context → Action
  Create : ℕ → Context → Action
  Begin : ℕ → ℕ → ℕ → Action
  Render : ℕ → Action
  End : ℕ → ℕ → ℕ → Action
  Destroy : ℕ → Action
  Unload : Action

-- A described plug-in has the contexts in which it was described, the nodes of its live instances, and the phase of
-- each of these.
pub data State : Type 0 where
  NotLoaded : State
  Loaded : State
  Described : List Context → List ℕ → (ℕ → Phase) → State
  Unloaded : State

-- the state of a described plug-in whose instances are in these phases
abbrev pub state_of : {E : Type 0} → Plugin E → (ℕ → Phase) → State
state_of plugin phases = Described plugin.contexts plugin.live phases

-- this node's instance is in that phase, and every other in its own
abbrev pub with_phase : (ℕ → Phase) → ℕ → Phase → ℕ → Phase
with_phase phases node phase n = if n == node then phase else phases n

-- the node has a live instance in this phase
abbrev pub IsIn : List ℕ → (ℕ → Phase) → ℕ → Phase → Type 0
IsIn live phases node phase = Contains live node × (phases node ≡ phase)

-- the actions that are allowed in a described plug-in, and the state that they leave
abbrev pub AllowsDescribed : List Context → List ℕ → (ℕ → Phase) → Action → State → Type 0
AllowsDescribed contexts live phases (DescribeInContext c) t =
    (Contains contexts c → ⊥) × (t ≡ Described (contexts ++ c ∷ []) live phases)
AllowsDescribed contexts live phases (Create node c) t =
    let created = Described contexts (live ++ node ∷ []) (with_phase phases node Idle) in
    Contains contexts c × (Contains live node → ⊥) × (t ≡ created)
AllowsDescribed contexts live phases (Begin node first last) t =
    let begun = with_phase phases node (Sequence first last) in
    IsIn live phases node Idle × (t ≡ Described contexts live begun)
AllowsDescribed contexts live phases (Render node) t =
    ((first last : ℕ) × IsIn live phases node (Sequence first last)) × (t ≡ Described contexts live phases)
AllowsDescribed contexts live phases (End node first last) t =
    let ended = with_phase phases node Idle in
    IsIn live phases node (Sequence first last) × (t ≡ Described contexts live ended)
AllowsDescribed contexts live phases (Destroy node) t =
    IsIn live phases node Idle × (t ≡ Described contexts (without node live) phases)
AllowsDescribed contexts live phases Unload t = (live ≡ []) × (t ≡ Unloaded)
AllowsDescribed contexts live phases Load t = ⊥
AllowsDescribed contexts live phases Describe t = ⊥

-- the action is allowed in the one state and leaves the other
abbrev pub Allows : State → Action → State → Type 0
Allows NotLoaded Load t = t ≡ Loaded
Allows Loaded Describe (Described contexts live phases) = (contexts ≡ []) × (live ≡ [])
Allows Loaded Unload t = t ≡ Unloaded
Allows (Described contexts live phases) action t = AllowsDescribed contexts live phases action t
Allows s action t = ⊥

-- the actions are allowed one after the other, from the one state to the other
abbrev pub IsCourse : State → List Action → State → Type 0
IsCourse s [] u = s ≡ u
IsCourse s (action ∷ actions) u = (t : State) × Allows s action t × IsCourse t actions u
