-- The parameters of a node: which values they take, the first that is refused, and what is made of them.
use Rattle.std.specs.Prelude.{◌≡◌, ℕ, ℤ, pos, neg_ℤ, ◌*ℤ◌, Bool, true, false, not, ◌&&◌, List, [], ◌∷◌, codes, map, position, Option, Some, None, is_none, nat_lt, if◌then◌else◌}
use Rattle.std.specs.Option.{option_and_then, option_map}
use Rattle.std.specs.List.{list_any, find}
use Rattle.std.specs.Str.{bytes_eq}
use Rattle.std.specs.Int.Signed.{lt_z, le_z}
use Rattle.fx_base.specs.Fix.{raw_of_text}
use Rattle.fx_params.specs.declared.def.ParamKind.{ParamKind}
use Rattle.fx_params.specs.declared.def.ParamKind.TheVariants as kind
use Rattle.fx_params.specs.declared.def.ParamValue.{ParamValue}
use Rattle.fx_params.specs.declared.def.ParamValue.TheVariants as value
use Rattle.fx_params.specs.declared.def.ParamDef.{ParamDef}
use Rattle.fx_params.specs.declared.key.Key.{Key}
use Rattle.fx_params.specs.Value.{number_of, refusal as refused_by}
use Rattle.fx_params.specs.Parameter.{Parameter, made}
use Rattle.fx_params.specs.Keys.{with_key}
use Rattle.fx_text.specs.declared.value.RawScalar.{RawScalar}
use Rattle.fx_text.specs.declared.value.RawScalar.TheVariants as scalar
use Rattle.fx_text.specs.declared.value.RawValue.{RawValue}
use Rattle.fx_text.specs.declared.value.RawValue.TheVariants as raw
use Rattle.fx_text.specs.Key.{Key as RawKey}
use Rattle.fx_text.specs.declared.value.RawParam.{RawParam}
use Rattle.fx_text.specs.declared.fault.GraphCode.{GraphCode}
use Rattle.fx_text.specs.declared.fault.GraphCode.TheVariants.{UnknownParam, ParamRefused, KeysNotRising}
use Rattle.fx_text.specs.Fault.{Fault}
use Rattle.fx_graph.specs.Refusal.{refusal, param_path, fault_at, first_in}

-- a whole number as a fixed-point one, where its units fit
abbrev pub whole : ℤ → Option ParamValue
whole n =
    if le_z (neg_ℤ (pos 140737488355328)) n && lt_z n (pos 140737488355328)
    then Some (value.Fix (record { raw = n *ℤ pos 65536 }))
    else None

-- a choice by its place, where that fits
abbrev pub choice : ℕ → Option ParamValue
choice place = if nat_lt place 4294967296 then Some (value.Choice place) else None

-- the value that is meant: an Int takes a whole number, a Fix a whole number or a text of a number, a Bool `true` or
-- `false`, a Choice a text of its list
abbrev pub meant : ParamKind → List (List ℕ) → RawScalar → Option ParamValue
meant kind.Int choices (scalar.Int n) = Some (value.Int n)
meant kind.Fix choices (scalar.Int n) = whole n
meant kind.Fix choices (scalar.Text t) = option_map (λ raw. value.Fix (record { raw = raw })) (raw_of_text t)
meant kind.Bool choices (scalar.Flag b) = Some (value.Flag b)
meant kind.Choice choices (scalar.Text t) = option_and_then choice (position (λ c. bytes_eq c t) choices)
meant k choices s = None

-- the value that the parameter takes: it is of the kind and in range
abbrev pub value_in : ParamDef → RawScalar → Option ParamValue
value_in def s =
    let taken = λ (v : ParamValue). if is_none (refused_by def v) then Some v else None in
    option_and_then taken (meant def.kind def.choices s)

-- whether the value, or one of the keys' values, isn't taken
abbrev pub is_refused : ParamDef → RawValue → Bool
is_refused def (raw.Plain s) = is_none (value_in def s)
is_refused def (raw.Keyed keys step) = list_any (λ key. is_none (value_in def key.value)) keys

-- whether each frame is greater than the one before
abbrev pub is_after : Option ℤ → ℤ → Bool
is_after None frame = true
is_after (Some last) frame = lt_z last frame

abbrev pub rises_after : Option ℤ → List RawKey → Bool
rises_after last [] = true
rises_after last (key ∷ keys) = is_after last key.frame && rises_after (Some key.frame) keys

abbrev pub is_rising : RawValue → Bool
is_rising (raw.Plain s) = true
is_rising (raw.Keyed keys step) = rises_after None keys

-- ---- the rows

-- why a parameter refuses what it is given
abbrev pub value_fault : ParamDef → RawValue → Option GraphCode
value_fault def v =
    if is_refused def v then Some ParamRefused else
    if is_rising v then None else Some KeysNotRising

abbrev pub param_fault : List ℕ → RawParam → Option ParamDef → Option Fault
param_fault at p None = Some (refusal UnknownParam (param_path at p.name))
param_fault at p (Some def) = fault_at (param_path at p.name) (value_fault def p.value)

abbrev pub def_of : List ParamDef → List ℕ → Option ParamDef
def_of defs name = find (λ d. bytes_eq d.name name) defs

abbrev pub params_fault : List ℕ → List ParamDef → List RawParam → Option Fault
params_fault at defs params = first_in (λ p. param_fault at p (def_of defs p.name)) params

-- ---- what is made

-- the keys with one more, in their order by frame
abbrev pub key_put : List Key → ℤ → Option ParamValue → List Key
key_put keys frame None = keys
key_put keys frame (Some v) = with_key keys (record { frame = frame; value = number_of v })

abbrev pub keys_put : ParamDef → List Key → List RawKey → List Key
keys_put def done [] = done
keys_put def done (key ∷ keys) = keys_put def (key_put done key.frame (value_in def key.value)) keys

abbrev pub plain_put : Parameter → Option ParamValue → Parameter
plain_put p None = p
plain_put p (Some v) = record p { plain = number_of v }

-- the parameter with what the graph gives it
abbrev pub valued : Parameter → RawValue → Parameter
valued p (raw.Plain s) = plain_put p (value_in p.def s)
valued p (raw.Keyed keys step) = record p { step = step; keys = keys_put p.def p.keys keys }

abbrev pub given_put : Parameter → Option RawParam → Parameter
given_put p None = p
given_put p (Some given) = valued p given.value

abbrev pub param_of : List RawParam → ParamDef → Parameter
param_of params def = given_put (made def) (find (λ p. bytes_eq p.name def.name) params)
