-- What a plug-in's whole life looks like, told without its states.
use Rattle.std.specs.Prelude.{◌≡◌, ℕ, ◌==◌, Bool, false, List, [], ◌∷◌, ◌++◌, replicate, filter, All, ◌⊎◌}
use Rattle.std.specs.List.{Contains}
use Rattle.fx_effect.specs.declared.action.Context.{Context}
use Rattle.fx_life.specs.Course.{Action, Load, Describe, DescribeInContext, Create, Begin, Render, End, Destroy, Unload}

-- ---- the actions on one node's instances

abbrev pub is_of : ℕ → Action → Bool
is_of node (Create n c) = n == node
is_of node (Begin n first last) = n == node
is_of node (Render n) = n == node
is_of node (End n first last) = n == node
is_of node (Destroy n) = n == node
is_of node action = false

abbrev pub actions_of : ℕ → List Action → List Action
actions_of node life = filter (is_of node) life

-- the lists one after the other
abbrev pub joined : List (List Action) → List Action
joined [] = []
joined (actions ∷ more) = actions ++ joined more

-- its beginning, any number of renders, and its end
pub record IsSequence (node : ℕ) (actions : List Action) : Type 0 where
  pub first : ℕ
  pub last : ℕ
  pub renders : ℕ
  pub are : actions ≡ Begin node first last ∷ (replicate renders (Render node) ++ End node first last ∷ [])

-- its creation, sequences one after the other, and its destruction
pub record IsInstance (node : ℕ) (actions : List Action) : Type 0 where
  pub context : Context
  pub sequences : List (List Action)
  pub each : All (IsSequence node) sequences
  pub are : actions ≡ Create node context ∷ (joined sequences ++ Destroy node ∷ [])

-- instances one after the other
pub record AreInstances (node : ℕ) (actions : List Action) : Type 0 where
  pub instances : List (List Action)
  pub each : All (IsInstance node) instances
  pub are : actions ≡ joined instances

-- ---- the life

-- what a described plug-in is asked while it isn't unloaded
abbrev pub IsUse : Action → Type 0
IsUse Load = ⊥
IsUse Describe = ⊥
IsUse Unload = ⊥
IsUse action = Unit {0}

-- the plug-in is loaded first and unloaded last, at once or with a description and its use between
abbrev pub IsWhole : List Action → Type 0
IsWhole life = (life ≡ Load ∷ Unload ∷ [])
    ⊎ ((uses : List Action) × All IsUse uses × (life ≡ Load ∷ Describe ∷ (uses ++ Unload ∷ [])))

pub record IsLawfulLife (life : List Action) : Type 0 where
  pub whole : IsWhole life
  -- in each context it is described once at most
  pub once : (before after : List Action) (c : Context) → life ≡ before ++ DescribeInContext c ∷ after
      → Contains before (DescribeInContext c) → ⊥
  -- an instance is created in a context in which it was described before
  pub described : (before after : List Action) (node : ℕ) (c : Context) → life ≡ before ++ Create node c ∷ after
      → Contains before (DescribeInContext c)
  -- each node has one instance at a time, with its sequences between its creation and its destruction, and all
  -- before the plug-in is unloaded
  pub instances : (node : ℕ) → AreInstances node (actions_of node life)
