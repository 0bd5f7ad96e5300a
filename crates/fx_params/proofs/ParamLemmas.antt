-- What keeps a parameter sound.
use Rattle.std.proofs.Common.{◌≡◌, ℤ, None, arith}
use Rattle.fx_params.specs.declared.def.ParamDef.{ParamDef}
use Rattle.fx_params.specs.declared.def.ParamValue.{ParamValue}
use Rattle.fx_params.specs.declared.key.Key.{Key}
use Rattle.fx_params.specs.Value.{IsWithin, number_of, refusal}
use Rattle.fx_params.specs.Keys.{with_key, without_key}
use Rattle.fx_base.specs.Rect.{IsFrame}
use Rattle.fx_params.specs.Parameter.{Parameter, IsSound}
use Rattle.fx_params.proofs.KeyLemmas.{All-with_key, All-without_key, IsRising-with_key, IsRising-without_key}

pub accepted_within : (def : ParamDef) (v : ParamValue) → refusal def v ≡ None → IsWithin def (number_of v)
accepted_within def v accepted = grind arith

pub IsSound-with_plain : (p : Parameter) (n : ℤ) → IsSound p → IsWithin p.def n → IsSound (record p { plain = n })
IsSound-with_plain p n sound here = record { rising = sound.rising; frames = sound.frames; values = sound.values; plain = here }

pub IsSound-with_key : (p : Parameter) (key : Key) → IsSound p → IsFrame key.frame → IsWithin p.def key.value → IsSound (record p { keys = with_key p.keys key })
IsSound-with_key p key sound frame value = record {
  rising = IsRising-with_key p.keys key sound.rising;
  frames = All-with_key (λ k. IsFrame k.frame) p.keys key frame sound.frames;
  values = All-with_key (λ k. IsWithin p.def k.value) p.keys key value sound.values;
  plain = sound.plain;
}

pub IsSound-without_key : (p : Parameter) (frame : ℤ) → IsSound p → IsSound (record p { keys = without_key p.keys frame })
IsSound-without_key p frame sound = record {
  rising = IsRising-without_key p.keys frame sound.rising;
  frames = All-without_key (λ k. IsFrame k.frame) p.keys frame sound.frames;
  values = All-without_key (λ k. IsWithin p.def k.value) p.keys frame sound.values;
  plain = sound.plain;
}
