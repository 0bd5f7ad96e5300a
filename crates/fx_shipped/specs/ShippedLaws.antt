-- What every effect of the program keeps, and that no two have one number.
use Rattle.std.specs.Prelude.{◌≡◌, ℕ, ◌<◌, ◌==◌, List, [], ◌∷◌, if◌then◌else◌, refl}
use Rattle.std.proofs.Common.{ap, sym, arith, ◌∙◌}
use Rattle.fx_effect.specs.Laws.{Laws}
use Rattle.fx_gen.specs.SolidLaws.{solid_laws}
use Rattle.fx_gen.specs.CheckerLaws.{checker_laws}
use Rattle.fx_gen.specs.RampLaws.{ramp_laws}
use Rattle.fx_gen.specs.GrainLaws.{grain_laws}
use Rattle.fx_point.specs.InvertLaws.{invert_laws}
use Rattle.fx_point.specs.GainLaws.{gain_laws}
use Rattle.fx_point.specs.PremultLaws.{premult_laws}
use Rattle.fx_point.specs.UnpremultLaws.{unpremult_laws}
use Rattle.fx_point.specs.ShuffleLaws.{shuffle_laws}
use Rattle.fx_point.specs.SaturationLaws.{saturation_laws}
use Rattle.fx_point.specs.PosteriseLaws.{posterise_laws}
use Rattle.fx_area.specs.BoxblurLaws.{boxblur_laws}
use Rattle.fx_area.specs.ErodeLaws.{erode_laws}
use Rattle.fx_area.specs.DilateLaws.{dilate_laws}
use Rattle.fx_area.specs.Convolve3Laws.{convolve3_laws}
use Rattle.fx_move.specs.CropLaws.{crop_laws}
use Rattle.fx_move.specs.TranslateLaws.{translate_laws}
use Rattle.fx_move.specs.MirrorLaws.{mirror_laws}
use Rattle.fx_time.specs.TimeoffsetLaws.{timeoffset_laws}
use Rattle.fx_time.specs.FrameblendLaws.{frameblend_laws}
use Rattle.fx_time.specs.FramediffLaws.{framediff_laws}
use Rattle.fx_time.specs.EchoLaws.{echo_laws}
use Rattle.fx_trans.specs.DissolveLaws.{dissolve_laws}
use Rattle.fx_trans.specs.WipeLaws.{wipe_laws}
use Rattle.fx_merge.specs.MergeLaws.{merge_laws}
use Rattle.fx_merge.specs.KeymixLaws.{keymix_laws}
use Rattle.fx_whole.specs.AutogainLaws.{autogain_laws}
use Rattle.fx_shipped.specs.declared.shipped.Shipped.{Shipped}
use Rattle.fx_shipped.specs.declared.shipped.Shipped.TheVariants as shipped
use Rattle.fx_shipped.specs.Shipped.{meaning_of, name_of, number_of, all}

pub shipped_laws : (e : Shipped) → Laws (meaning_of e)
shipped_laws shipped.Solid = solid_laws
shipped_laws shipped.Checker = checker_laws
shipped_laws shipped.Ramp = ramp_laws
shipped_laws shipped.Grain = grain_laws
shipped_laws shipped.Invert = invert_laws
shipped_laws shipped.Gain = gain_laws
shipped_laws shipped.Premult = premult_laws
shipped_laws shipped.Unpremult = unpremult_laws
shipped_laws shipped.Shuffle = shuffle_laws
shipped_laws shipped.Saturation = saturation_laws
shipped_laws shipped.Posterise = posterise_laws
shipped_laws shipped.Boxblur = boxblur_laws
shipped_laws shipped.Erode = erode_laws
shipped_laws shipped.Dilate = dilate_laws
shipped_laws shipped.Convolve3 = convolve3_laws
shipped_laws shipped.Crop = crop_laws
shipped_laws shipped.Translate = translate_laws
shipped_laws shipped.Mirror = mirror_laws
shipped_laws shipped.Timeoffset = timeoffset_laws
shipped_laws shipped.Frameblend = frameblend_laws
shipped_laws shipped.Framediff = framediff_laws
shipped_laws shipped.Echo = echo_laws
shipped_laws shipped.Dissolve = dissolve_laws
shipped_laws shipped.Wipe = wipe_laws
shipped_laws shipped.Merge = merge_laws
shipped_laws shipped.Keymix = keymix_laws
shipped_laws shipped.Autogain = autogain_laws

-- the first of them that has the number, and any where none has
abbrev first_numbered : List Shipped → ℕ → Shipped
first_numbered [] n = shipped.Solid
first_numbered (e ∷ effects) n = if number_of e == n then e else first_numbered effects n

at_number : (e : Shipped) → first_numbered all (number_of e) ≡ e
at_number shipped.Solid = refl
at_number shipped.Checker = refl
at_number shipped.Ramp = refl
at_number shipped.Grain = refl
at_number shipped.Invert = refl
at_number shipped.Gain = refl
at_number shipped.Premult = refl
at_number shipped.Unpremult = refl
at_number shipped.Shuffle = refl
at_number shipped.Saturation = refl
at_number shipped.Posterise = refl
at_number shipped.Boxblur = refl
at_number shipped.Erode = refl
at_number shipped.Dilate = refl
at_number shipped.Convolve3 = refl
at_number shipped.Crop = refl
at_number shipped.Translate = refl
at_number shipped.Mirror = refl
at_number shipped.Timeoffset = refl
at_number shipped.Frameblend = refl
at_number shipped.Framediff = refl
at_number shipped.Echo = refl
at_number shipped.Dissolve = refl
at_number shipped.Wipe = refl
at_number shipped.Merge = refl
at_number shipped.Keymix = refl
at_number shipped.Autogain = refl

one_each : (a b : Shipped) → number_of a ≡ number_of b → a ≡ b
one_each a b same = sym (at_number a) ∙ ap (first_numbered all) same ∙ at_number b

pub one_name_each : (a b : Shipped) → number_of a ≡ number_of b → name_of a ≡ name_of b
one_name_each a b same = ap name_of (one_each a b same)

pub one_meaning_each : (a b : Shipped) → number_of a ≡ number_of b → meaning_of a ≡ meaning_of b
one_meaning_each a b same = ap meaning_of (one_each a b same)

pub few_numbers : (e : Shipped) → number_of e < 64
few_numbers shipped.Solid = omega arith
few_numbers shipped.Checker = omega arith
few_numbers shipped.Ramp = omega arith
few_numbers shipped.Grain = omega arith
few_numbers shipped.Invert = omega arith
few_numbers shipped.Gain = omega arith
few_numbers shipped.Premult = omega arith
few_numbers shipped.Unpremult = omega arith
few_numbers shipped.Shuffle = omega arith
few_numbers shipped.Saturation = omega arith
few_numbers shipped.Posterise = omega arith
few_numbers shipped.Boxblur = omega arith
few_numbers shipped.Erode = omega arith
few_numbers shipped.Dilate = omega arith
few_numbers shipped.Convolve3 = omega arith
few_numbers shipped.Crop = omega arith
few_numbers shipped.Translate = omega arith
few_numbers shipped.Mirror = omega arith
few_numbers shipped.Timeoffset = omega arith
few_numbers shipped.Frameblend = omega arith
few_numbers shipped.Framediff = omega arith
few_numbers shipped.Echo = omega arith
few_numbers shipped.Dissolve = omega arith
few_numbers shipped.Wipe = omega arith
few_numbers shipped.Merge = omega arith
few_numbers shipped.Keymix = omega arith
few_numbers shipped.Autogain = omega arith
