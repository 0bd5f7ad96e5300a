-- The nodes of a graph and their parameters by name.
use Rattle.std.specs.Prelude.{ℕ, ◌&&◌, Bool, true, false, List, [], Option, Some, None, position, slice_get}
use Rattle.std.specs.Option.{option_and_then, option_map}
use Rattle.std.specs.Str.{bytes_eq}
use Rattle.fx_params.specs.declared.def.ParamDef.{ParamDef}
use Rattle.fx_params.specs.Parameter.{Parameter}
use Rattle.fx_graph.specs.Shown.{Does, Source, Effect, Shown}

abbrev pub is_effect : {E : Type 0} → Does E → Bool
is_effect (Source pattern first last hold) = false
is_effect (Effect e context clips names optional masks params) = true

-- the place of the effect's node that has a name
abbrev pub effect_named : {E : Type 0} → List (Shown E) → List ℕ → Option ℕ
effect_named nodes name = position (λ n. bytes_eq n.name name && is_effect n.does) nodes

-- the parameters of a node; a source has none
abbrev pub params_of : {E : Type 0} → Does E → List Parameter
params_of (Source pattern first last hold) = []
params_of (Effect e context clips names optional masks params) = params

abbrev pub params_in : {E : Type 0} → Option (Shown E) → List Parameter
params_in None = []
params_in (Some n) = params_of n.does

-- those of the node at a place
abbrev pub params_at : {E : Type 0} → List (Shown E) → ℕ → List Parameter
params_at nodes k = params_in (slice_get nodes k)

-- the parameter of a name: its place and its definition
abbrev pub param_named : List Parameter → List ℕ → Option (ℕ × ParamDef)
param_named params name =
    option_and_then (λ i. option_map (λ p. (i, p.def)) (slice_get params i))
    (position (λ p. bytes_eq p.def.name name) params)
