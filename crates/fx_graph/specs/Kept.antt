-- What a graph keeps by its type, and the values that an effect is asked with.
use Rattle.std.specs.Prelude.{◌≡◌, ◌<◌, ◌≤◌, ◌+◌, ◌-◌, ℕ, ℤ, Bool, List, map, length, All, IsTrue, is_some, IfSome, Option, Some, slice_get, take}
use Rattle.std.specs.List.{AllZip, list_any}
use Rattle.fx_base.specs.declared.limits.TheConstants.{MOST_NODES, MOST_FRAMES, LAST_FRAME}
use Rattle.fx_base.specs.Bounds.{Bounds}
use Rattle.fx_params.specs.declared.def.ParamDef.{ParamDef}
use Rattle.fx_params.specs.Parameter.{Parameter, value_at, IsSound}
use Rattle.fx_text.specs.Nodes.{AreFrames}
use Rattle.fx_effect.specs.declared.action.Context.{Context}
use Rattle.fx_effect.specs.declared.values.Values.{Values}
use Rattle.fx_effect.specs.Shape.{Shape, clip_names, optional_flags, is_mask, supports, MayBe, IsLawfulIn}
use Rattle.fx_effect.specs.ShapeTests.{is_context}
use Rattle.fx_effect.specs.Meaning.{Meaning}
use Rattle.fx_graph.specs.Shown.{Does, Source, Effect, Shown}
use Rattle.fx_graph.specs.Nodes.{Form, is_source, form_of}

-- whether the effect may be used in the context
abbrev pub has_context : Shape → Context → Bool
has_context s c = list_any (is_context c) s.contexts

-- the definition is that which it was made with
abbrev pub IsOf : ParamDef → Parameter → Type 0
IsOf def p = p.def ≡ def

-- a source: frames from 0 to 999,999, and a pattern that names a file for each
pub record IsSource (pattern : List ℕ) (first last : ℕ) : Type 0 where
  pub frames : AreFrames first last
  pub named : IsTrue (is_source pattern first last)

-- an effect with its clips and its parameters, behind so many nodes
pub record IsUse (s : Shape) (before : ℕ) (c : Context) (clips : List (Option ℕ)) (names : List (List ℕ))
    (optional masks : List Bool) (params : List Parameter) : Type 0 where
  pub supported : IsTrue (has_context s c)
  pub names_are : names ≡ clip_names s c
  pub optional_are : optional ≡ optional_flags s c
  pub masks_are : masks ≡ map is_mask (clip_names s c)
  pub earlier : All (λ clip. IfSome clip (λ m. m < before)) clips
  pub connected : AllZip MayBe (s.clips c) (map is_some clips)
  pub defs : AllZip IsOf (s.params c) params
  pub sound : All IsSound params

-- what a node of this form does, behind these nodes; the form of an effect is negotiated
abbrev pub IsDoing : {E : Type 0} → (E → Meaning) → Form → List (Shown E) → Form → Does E → Type 0
IsDoing meaning project before form (Source pattern first last hold) = IsSource pattern first last
IsDoing meaning project before form (Effect e c clips names optional masks params) =
    let s = (meaning e).shape in
    IsUse s (length before) c clips names optional masks params × (form ≡ form_of s project before clips masks)

-- a node that may stand behind these, in a project of this form
abbrev pub IsNode : {E : Type 0} → (E → Meaning) → Form → List (Shown E) → Shown E → Type 0
IsNode meaning project before node = IsDoing meaning project before (node.depth, node.components) node.does

-- each node by its place
abbrev pub AreNodes : {E : Type 0} → (E → Meaning) → Form → List (Shown E) → Type 0
AreNodes {E} meaning project nodes =
    (k : ℕ) (node : Shown E) → slice_get nodes k ≡ Some node → IsNode meaning project (take k nodes) node

-- 1 to 1,024 nodes, of which one is rendered
pub record HasOutput (count output : ℕ) : Type 0 where
  pub few : count ≤ MOST_NODES
  pub there : output < count

-- frames from 0 to 999,999, at most 100,000 of them
pub record IsRange (first last : ℕ) : Type 0 where
  pub order : first ≤ last
  pub few : last ≤ first + (MOST_FRAMES - 1)
  pub end : last ≤ LAST_FRAME

-- the values of parameters and of clips at a frame
abbrev pub use_values : Bounds → ℤ → List (Option ℕ) → List Parameter → Values
use_values project t clips params =
    record { frame = t; numbers = map (λ p. value_at p t) params; connected = map is_some clips; project = project }

-- an effect's values at the frame are lawful in its context
abbrev pub HasLawfulValues : {E : Type 0} → (E → Meaning) → Bounds → ℤ → Does E → Type 0
HasLawfulValues meaning project t (Source pattern first last hold) = Unit {0}
HasLawfulValues meaning project t (Effect e c clips names optional masks params) =
    IsLawfulIn (meaning e).shape c (use_values project t clips params)

-- an effect renders images of the node's form
abbrev pub RendersForm : {E : Type 0} → (E → Meaning) → Form → Does E → Type 0
RendersForm meaning form (Source pattern first last hold) = Unit {0}
RendersForm meaning form (Effect e c clips names optional masks params) =
    IsTrue (supports (meaning e).shape form.0 form.1)
