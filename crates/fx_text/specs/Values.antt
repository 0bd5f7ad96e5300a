-- Clips, and the values of parameters.
use Rattle.std.specs.Prelude.{ℕ, ◌&&◌, ℤ, pos, negsuc, List, [], ◌∷◌, codes, Bool, true, false, if◌then◌else◌, Option, Some, None, is_some}
use Rattle.std.specs.Prelude.{option_and_then, Result, Ok, Err, ⊤, ◌-◌}
use Rattle.std.specs.Int.Signed.{le_z}
use Rattle.fx_base.specs.declared.limits.TheConstants.{LAST_FRAME}
use Rattle.fx_text.specs.declared.value.TheConstants.{MOST_KEYS}
use Rattle.serde_json.specs.Data.{Data, boolean, string, object, Items, no_items, item, Members}
use Rattle.serde_json.specs.Find.{get, as_str, as_bool, as_number, as_integer, as_i64, as_array, as_object}
use Rattle.fx_text.specs.Fault.{Fault}
use Rattle.fx_text.specs.declared.fault.GraphCode.TheVariants.{WrongForm}
use Rattle.fx_text.specs.declared.value.RawClip.{RawClip}
use Rattle.fx_text.specs.declared.value.RawScalar.{RawScalar}
use Rattle.fx_text.specs.declared.value.RawScalar.TheVariants as scalar
use Rattle.fx_text.specs.declared.value.RawValue.{RawValue}
use Rattle.fx_text.specs.declared.value.RawValue.TheVariants as value
use Rattle.fx_text.specs.declared.value.RawParam.{RawParam}
use Rattle.fx_text.specs.Key.{Key}
use Rattle.fx_text.specs.Paths.{joined}
use Rattle.fx_text.specs.Json.{after, wrong_at, word_at, or_range, has, check_object, list_at, read_items, read_members}

-- ---- clips

abbrev pub clip_of : List ℕ → List ℕ → Data → Result RawClip Fault
clip_of path name d = after (word_at path name (as_str d)) (λ node. Ok (record { name = name; node = node }))

abbrev pub members_in : List ℕ → Option Members → Result Members Fault
members_in path (Some ms) = Ok ms
members_in path None = Err (record { code = WrongForm; path = path })

abbrev pub clips_in : List ℕ → Option Data → Result (List RawClip) Fault
clips_in path None = Ok []
clips_in path (Some d) = after (members_in path (as_object d)) (read_members (clip_of path))

-- ---- the values of parameters: faults stand at the empty path

-- the whole number that a value is, of any size
abbrev pub integer_of : Data → Option ℤ
integer_of d = option_and_then as_integer (as_number d)

-- the whole number, which is out of range where it reads as no i64
abbrev pub int_of : Data → Result RawScalar Fault
int_of d =
    after (word_at [] [] (integer_of d)) (λ _.
    after (or_range [] [] (option_and_then as_i64 (as_number d))) (λ n.
    Ok (scalar.Int n)))

abbrev pub scalar_of : Data → Result RawScalar Fault
scalar_of (boolean b) = Ok (scalar.Flag b)
scalar_of (string text) = Ok (scalar.Text text)
scalar_of d = int_of d

-- a value has the form of a scalar: a whole number of any size, a text, or true or false
abbrev pub is_scalar : Data → Bool
is_scalar (boolean b) = true
is_scalar (string text) = true
is_scalar d = is_some (integer_of d)

abbrev pub of_form : Bool → Result ⊤ Fault
of_form true = Ok tt
of_form false = Err (wrong_at [] [])

abbrev pub frame_within : ℤ → Option ℤ
frame_within z = if le_z (negsuc (LAST_FRAME - 1)) z && le_z z (pos LAST_FRAME) then Some z else None

abbrev pub pair_in : Items → Option (Data × Data)
pair_in (item a (item b no_items)) = Some (a, b)
pair_in _ = None

-- a key is a list of two, a frame and a value: first the form of the item, of its frame and of its value,
-- then the frame's range, then the value's
abbrev pub key_of : Data → Result Key Fault
key_of d =
    after (word_at [] [] (option_and_then pair_in (as_array d))) (λ pair.
    after (word_at [] [] (integer_of pair.0)) (λ number.
    after (of_form (is_scalar pair.1)) (λ _.
    after (or_range [] [] (frame_within number)) (λ frame.
    after (scalar_of pair.1) (λ value.
    Ok (record { frame = frame; value = value }))))))

abbrev pub flag_or : List ℕ → List ℕ → Bool → Data → Result Bool Fault
flag_or path key default d =
    if has key d then word_at path key (option_and_then as_bool (get key d)) else Ok default

abbrev pub keyed_keys : List (List ℕ)
keyed_keys = codes "keys" ∷ codes "step" ∷ []

abbrev pub keys_of : Items → Result (List Key) Fault
keys_of = read_items (λ k d. key_of d) 0

abbrev pub keyed_of : Data → Result RawValue Fault
keyed_of d =
    after (check_object [] keyed_keys d) (λ _.
    after (after (list_at [] (codes "keys") 1 MOST_KEYS d) keys_of) (λ keys.
    after (flag_or [] (codes "step") false d) (λ step.
    Ok (value.Keyed keys step))))

abbrev pub value_of : Data → Result RawValue Fault
value_of (object ms) = keyed_of (object ms)
value_of d = after (scalar_of d) (λ s. Ok (value.Plain s))

-- each fault stands at this path
abbrev pub moved : {A : Type 0} → List ℕ → Result A Fault → Result A Fault
moved path (Ok a) = Ok a
moved path (Err fault) = Err (record { code = fault.code; path = path })

abbrev pub param_of : List ℕ → List ℕ → Data → Result RawParam Fault
param_of path name d =
    after (moved (joined path name) (value_of d)) (λ value. Ok (record { name = name; value = value }))

abbrev pub params_in : List ℕ → Option Data → Result (List RawParam) Fault
params_in path None = Ok []
params_in path (Some d) = after (members_in path (as_object d)) (read_members (param_of path))
