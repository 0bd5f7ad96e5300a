-- The use of an effect by a node: its context, its clips, and the first of them that is refused.
use Rattle.std.specs.Prelude.{◌≡◌, ℕ, Bool, not, ◌&&◌, List, [], ◌∷◌, codes, map, Option, Some, None, is_none, slice_index_or}
use Rattle.std.specs.Option.{option_and_then}
use Rattle.std.specs.List.{list_any, find}
use Rattle.std.specs.Str.{bytes_eq}
use Rattle.fx_text.specs.Fault.{Fault}
use Rattle.fx_text.specs.declared.fault.GraphCode.TheVariants.{ContextNotSupported, UnknownClip, ClipMissing, NoEarlierNode}
use Rattle.fx_text.specs.declared.raw.RawContext.{RawContext}
use Rattle.fx_text.specs.declared.raw.RawContext.TheVariants as raw
use Rattle.fx_text.specs.declared.value.RawClip.{RawClip}
use Rattle.fx_effect.specs.declared.action.Context.{Context}
use Rattle.fx_effect.specs.declared.action.Context.TheVariants as context
use Rattle.fx_effect.specs.Shape.{Clip}
use Rattle.fx_effect.specs.ShapeTests.{is_context}
use Rattle.fx_graph.specs.Refusal.{refusal, node_path, clip_path, where_so, at_first, first_of}

-- the place of the node of a name
abbrev pub Place : Type 0
Place = List ℕ → Option ℕ

abbrev pub context_of : RawContext → Context
context_of raw.Generator = context.Generator
context_of raw.Filter = context.Filter
context_of raw.Transition = context.Transition
context_of raw.General = context.General

-- the context that is asked for, and else the first one
abbrev pub chosen : List Context → Option RawContext → Context
chosen contexts None = slice_index_or contexts 0 context.General
chosen contexts (Some c) = context_of c

-- whether the name is that of an input clip
abbrev pub is_input : List Clip → List ℕ → Bool
is_input inputs name = list_any (λ i. bytes_eq i.name name) inputs

-- whether the clip is connected
abbrev pub is_connected : List RawClip → List ℕ → Bool
is_connected clips name = list_any (λ r. bytes_eq r.name name) clips

-- the node that a clip is connected to, by the places of the names of earlier nodes
abbrev pub connection : Place → List RawClip → Clip → Option ℕ
connection place clips input = option_and_then (λ r. place r.node) (find (λ r. bytes_eq r.name input.name) clips)

-- ---- the rows

abbrev pub unsupported : List ℕ → List Context → Context → Option Fault
unsupported path contexts c =
    where_so (not (list_any (is_context c) contexts)) ContextNotSupported (node_path path (codes "context"))

abbrev pub unknown_clip : List ℕ → List Clip → List RawClip → Option Fault
unknown_clip path inputs clips =
    at_first (λ r. not (is_input inputs r.name)) clips UnknownClip (λ r. clip_path path r.name)

abbrev pub missing_clip : List ℕ → List Clip → List RawClip → Option Fault
missing_clip path inputs clips =
    let is_missing = λ (i : Clip). not i.optional && not (is_connected clips i.name) in
    at_first is_missing inputs ClipMissing (λ i. clip_path path i.name)

abbrev pub lost_clip : List ℕ → Place → List RawClip → Option Fault
lost_clip path place clips = at_first (λ r. is_none (place r.node)) clips NoEarlierNode (λ r. clip_path path r.name)

abbrev pub clip_fault : List ℕ → Place → List Clip → List RawClip → Option Fault
clip_fault path place inputs clips =
    first_of (unknown_clip path inputs clips ∷ missing_clip path inputs clips ∷ lost_clip path place clips ∷ [])
