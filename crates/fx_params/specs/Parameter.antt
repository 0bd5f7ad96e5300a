-- A parameter and its value over the frames.
use Rattle.std.specs.Prelude.{◌≡◌, ℕ, ◌+◌, ◌-◌, ◌*◌, ℤ, pos, negsuc, ◌+ℤ◌, ◌-ℤ◌, ◌*ℤ◌, ◌≤ℤ◌, ◌<ℤ◌, Bool, true, false, ◌||◌, List, [], ◌∷◌, map, length, slice_get, slice_index_or, ◌==◌, All, Some, if◌then◌else◌}
use Rattle.std.specs.Int.{int_div_euclid, int_max}
use Rattle.std.specs.Int.Signed.{lt_z}
use Rattle.fx_base.specs.Rect.{IsFrame}
use Rattle.fx_params.specs.declared.def.ParamKind.{ParamKind}
use Rattle.fx_params.specs.declared.def.ParamKind.TheVariants as kind
use Rattle.fx_params.specs.declared.def.ParamDef.{ParamDef}
use Rattle.fx_params.specs.declared.key.Key.{Key}
use Rattle.fx_params.specs.Value.{IsWithin}
use Rattle.fx_params.specs.Keys.{IsRising, no_key}

-- what it was made with, its value without keys, whether it was set to step, and its keys
pub record Parameter : Type 0 where
  pub def : ParamDef
  pub plain : ℤ
  pub step : Bool
  pub keys : List Key

-- no key, the value at the start, linear
abbrev pub made : ParamDef → Parameter
made def = record { def = def; plain = def.start; step = false; keys = [] }

-- flags and choices step whatever is set
abbrev pub kind_steps : ParamKind → Bool
kind_steps kind.Int = false
kind_steps kind.Fix = false
kind_steps kind.Bool = true
kind_steps kind.Choice = true

abbrev pub steps : Parameter → Bool
steps p = p.step || kind_steps p.def.kind

-- from the key `a` to the next one, `b`: v0 + floor((v1 - v0) * (t - t0) / (t1 - t0)).
-- `int_div_euclid` by a positive number is the floor.
abbrev pub between : Key → Key → ℤ → ℤ
between a b t = a.value +ℤ int_div_euclid ((b.value -ℤ a.value) *ℤ (t -ℤ a.frame)) (b.frame -ℤ a.frame)

-- from the key `a` on, where `keys` are those after it: between two keys, and the last key's value from it on
abbrev pub value_from : Bool → Key → List Key → ℤ → ℤ
value_from step a [] t = a.value
value_from step a (b ∷ keys) t =
    if lt_z t b.frame then (if step then a.value else between a b t) else value_from step b keys t

-- the plain value without keys, and the first key's value before it
abbrev pub keyed_value : Bool → ℤ → List Key → ℤ → ℤ
keyed_value step plain [] t = plain
keyed_value step plain (a ∷ keys) t = if lt_z t a.frame then a.value else value_from step a keys t

-- the value at the frame
abbrev pub value_at : Parameter → ℤ → ℤ
value_at p t = keyed_value (steps p) p.plain p.keys t

-- where every key is still to come: the first key's value, or the plain one without keys
abbrev pub value_before : ℤ → List Key → ℤ
value_before plain [] = plain
value_before plain (a ∷ keys) = a.value

-- where the key at place i is the last one passed
abbrev pub value_after : Bool → List Key → ℕ → ℤ → ℤ
value_after step keys i t =
    let a = slice_index_or keys i no_key in
    if step || (i + 1 == length keys) then a.value else between a (slice_index_or keys (i + 1) no_key) t

-- the same key by key
pub record IsValueAt (p : Parameter) (t value : ℤ) : Type 0 where
  pub without_keys : p.keys ≡ [] → value ≡ p.plain
  pub before_first : (a : Key) → slice_get p.keys 0 ≡ Some a → t <ℤ a.frame → value ≡ a.value
  pub from_last : (a : Key) → slice_get p.keys (length p.keys - 1) ≡ Some a → a.frame ≤ℤ t → value ≡ a.value
  pub between_keys : (i : ℕ) (a b : Key) → slice_get p.keys i ≡ Some a → slice_get p.keys (i + 1) ≡ Some b
      → a.frame ≤ℤ t → t <ℤ b.frame → value ≡ (if steps p then a.value else between a b t)

-- what every parameter keeps: rising frames in their range, and values in the definition's range
pub record IsSound (p : Parameter) : Type 0 where
  pub rising : IsRising p.keys
  pub frames : All (λ key. IsFrame key.frame) p.keys
  pub values : All (λ key. IsWithin p.def key.value) p.keys
  pub plain : IsWithin p.def p.plain

-- ---- another scale

-- v / q to the nearest, halves up
abbrev pub divided : ℕ → ℤ → ℤ
divided q v = int_div_euclid ((pos 2 *ℤ v) +ℤ pos q) (pos (2 * q))

-- the same, and the least at least
abbrev pub divided_from : ℤ → ℕ → ℤ → ℤ
divided_from least q v = int_max (divided q v) least

abbrev pub with_value : (ℤ → ℤ) → Key → Key
with_value f key = record key { value = f key.value }

-- each value is made anew; no key comes or goes
abbrev pub with_values : (ℤ → ℤ) → Parameter → Parameter
with_values f p = record p { plain = f p.plain; keys = map (with_value f) p.keys }
