-- The takes that a graph's raw takes stand for, or the first refusal: take by take, of each first its file and then its
-- edits in order, and of an edit first the node, then the parameter and then the value.
use Rattle.std.specs.Prelude.{ℕ, ◌+◌, not, List, [], ◌∷◌, codes, Result, Ok}
use Rattle.fx_params.specs.declared.def.ParamDef.{ParamDef}
use Rattle.fx_params.specs.Parameter.{made}
use Rattle.fx_text.specs.Fault.{Fault}
use Rattle.fx_text.specs.Json.{after}
use Rattle.fx_text.specs.Paths.{inside}
use Rattle.fx_text.specs.Takes.{Take as RawTake}
use Rattle.fx_text.specs.declared.raw.RawEdit.{RawEdit}
use Rattle.fx_text.specs.declared.value.RawValue.{RawValue}
use Rattle.fx_text.specs.declared.fault.GraphCode.TheVariants.{EditOfNoEffect, PatternWrong, UnknownParam}
use Rattle.fx_graph.specs.Graphs.{is_output}
use Rattle.fx_graph.specs.Named.{effect_named, params_at, param_named}
use Rattle.fx_graph.specs.Params.{value_fault, valued}
use Rattle.fx_graph.specs.Refusal.{node_path, fault_at, where_so, refused_or, found_or}
use Rattle.fx_graph.specs.Shown.{Shown}
use Rattle.fx_takes.specs.Shown.{EditShown, TakeShown}

-- each item by its number, from k on; the first refusal counts
abbrev pub each_of : {A B : Type 0} → (ℕ → A → Result B Fault) → ℕ → List A → Result (List B) Fault
each_of f k [] = Ok []
each_of f k (a ∷ more) = after (f k a) (λ b. after (each_of f (k + 1) more) (λ bs. Ok (b ∷ bs)))

-- of a node's parameter that has this place and definition
abbrev pub param_edit : List ℕ → ℕ → ℕ → ParamDef → RawValue → Result EditShown Fault
param_edit path k i def value =
    refused_or (fault_at (node_path path (codes "value")) (value_fault def value))
    (Ok (record { node = k; param = i; value = valued (made def) value }))

-- of the effect's node at a place
abbrev pub node_edit : {E : Type 0} → List (Shown E) → List ℕ → ℕ → RawEdit → Result EditShown Fault
node_edit nodes path k raw =
    after (found_or UnknownParam (node_path path (codes "param")) (param_named (params_at nodes k) raw.param)) (λ p.
    param_edit path k p.0 p.1 raw.value)

abbrev pub edit_of : {E : Type 0} → List (Shown E) → List ℕ → RawEdit → Result EditShown Fault
edit_of nodes path raw =
    after (found_or EditOfNoEffect (node_path path (codes "node")) (effect_named nodes raw.node)) (λ k.
    node_edit nodes path k raw)

abbrev pub edits_of : {E : Type 0} → List (Shown E) → List ℕ → List RawEdit → Result (List EditShown) Fault
edits_of nodes path raws = each_of (λ k raw. edit_of nodes (inside path k) raw) 0 raws

-- the file is a pattern with exactly one run of signs
abbrev pub take_of : {E : Type 0} → List (Shown E) → List ℕ → RawTake → Result TakeShown Fault
take_of nodes path raw =
    refused_or (where_so (not (is_output raw.file)) PatternWrong (node_path path (codes "file")))
    (after (edits_of nodes (node_path path (codes "edits")) raw.edits) (λ edits.
    Ok (record { file = raw.file; edits = edits })))

abbrev pub takes_of : {E : Type 0} → List (Shown E) → List RawTake → Result (List TakeShown) Fault
takes_of nodes raws = each_of (λ k raw. take_of nodes (inside (codes "takes") k) raw) 0 raws
