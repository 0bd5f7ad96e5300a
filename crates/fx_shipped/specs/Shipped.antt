-- The effects of the program: what each means, and its name and number.
use Rattle.std.specs.Prelude.{ℕ, List, [], ◌∷◌, Option, Some, None, codes, if◌then◌else◌}
use Rattle.std.specs.Str.{bytes_eq}
use Rattle.fx_effect.specs.Meaning.{Meaning}
use Rattle.fx_gen.specs.Solid.{solid}
use Rattle.fx_gen.specs.Checker.{checker}
use Rattle.fx_gen.specs.Ramp.{ramp}
use Rattle.fx_gen.specs.Grain.{grain}
use Rattle.fx_point.specs.Invert.{invert}
use Rattle.fx_point.specs.Gain.{gain}
use Rattle.fx_point.specs.Premult.{premult}
use Rattle.fx_point.specs.Unpremult.{unpremult}
use Rattle.fx_point.specs.Shuffle.{shuffle}
use Rattle.fx_point.specs.Saturation.{saturation}
use Rattle.fx_point.specs.Posterise.{posterise}
use Rattle.fx_area.specs.Boxblur.{boxblur}
use Rattle.fx_area.specs.Erode.{erode}
use Rattle.fx_area.specs.Dilate.{dilate}
use Rattle.fx_area.specs.Convolve3.{convolve3}
use Rattle.fx_move.specs.Crop.{crop}
use Rattle.fx_move.specs.Translate.{translate}
use Rattle.fx_move.specs.Mirror.{mirror}
use Rattle.fx_time.specs.Timeoffset.{timeoffset}
use Rattle.fx_time.specs.Frameblend.{frameblend}
use Rattle.fx_time.specs.Framediff.{framediff}
use Rattle.fx_time.specs.Echo.{echo}
use Rattle.fx_trans.specs.Dissolve.{dissolve}
use Rattle.fx_trans.specs.Wipe.{wipe}
use Rattle.fx_merge.specs.Merge.{merge}
use Rattle.fx_merge.specs.Keymix.{keymix}
use Rattle.fx_whole.specs.Autogain.{autogain}
use Rattle.fx_shipped.specs.declared.shipped.Shipped.{Shipped}
use Rattle.fx_shipped.specs.declared.shipped.Shipped.TheVariants as shipped

abbrev pub meaning_of : Shipped → Meaning
meaning_of shipped.Solid = solid
meaning_of shipped.Checker = checker
meaning_of shipped.Ramp = ramp
meaning_of shipped.Grain = grain
meaning_of shipped.Invert = invert
meaning_of shipped.Gain = gain
meaning_of shipped.Premult = premult
meaning_of shipped.Unpremult = unpremult
meaning_of shipped.Shuffle = shuffle
meaning_of shipped.Saturation = saturation
meaning_of shipped.Posterise = posterise
meaning_of shipped.Boxblur = boxblur
meaning_of shipped.Erode = erode
meaning_of shipped.Dilate = dilate
meaning_of shipped.Convolve3 = convolve3
meaning_of shipped.Crop = crop
meaning_of shipped.Translate = translate
meaning_of shipped.Mirror = mirror
meaning_of shipped.Timeoffset = timeoffset
meaning_of shipped.Frameblend = frameblend
meaning_of shipped.Framediff = framediff
meaning_of shipped.Echo = echo
meaning_of shipped.Dissolve = dissolve
meaning_of shipped.Wipe = wipe
meaning_of shipped.Merge = merge
meaning_of shipped.Keymix = keymix
meaning_of shipped.Autogain = autogain

abbrev pub name_of : Shipped → List ℕ
name_of shipped.Solid = codes "solid"
name_of shipped.Checker = codes "checker"
name_of shipped.Ramp = codes "ramp"
name_of shipped.Grain = codes "grain"
name_of shipped.Invert = codes "invert"
name_of shipped.Gain = codes "gain"
name_of shipped.Premult = codes "premult"
name_of shipped.Unpremult = codes "unpremult"
name_of shipped.Shuffle = codes "shuffle"
name_of shipped.Saturation = codes "saturation"
name_of shipped.Posterise = codes "posterise"
name_of shipped.Boxblur = codes "boxblur"
name_of shipped.Erode = codes "erode"
name_of shipped.Dilate = codes "dilate"
name_of shipped.Convolve3 = codes "convolve3"
name_of shipped.Crop = codes "crop"
name_of shipped.Translate = codes "translate"
name_of shipped.Mirror = codes "mirror"
name_of shipped.Timeoffset = codes "timeoffset"
name_of shipped.Frameblend = codes "frameblend"
name_of shipped.Framediff = codes "framediff"
name_of shipped.Echo = codes "echo"
name_of shipped.Dissolve = codes "dissolve"
name_of shipped.Wipe = codes "wipe"
name_of shipped.Merge = codes "merge"
name_of shipped.Keymix = codes "keymix"
name_of shipped.Autogain = codes "autogain"

abbrev pub number_of : Shipped → ℕ
number_of shipped.Solid = 0
number_of shipped.Checker = 1
number_of shipped.Ramp = 2
number_of shipped.Grain = 3
number_of shipped.Invert = 4
number_of shipped.Gain = 5
number_of shipped.Premult = 6
number_of shipped.Unpremult = 7
number_of shipped.Shuffle = 8
number_of shipped.Saturation = 9
number_of shipped.Posterise = 10
number_of shipped.Boxblur = 11
number_of shipped.Erode = 12
number_of shipped.Dilate = 13
number_of shipped.Convolve3 = 14
number_of shipped.Crop = 15
number_of shipped.Translate = 16
number_of shipped.Mirror = 17
number_of shipped.Timeoffset = 18
number_of shipped.Frameblend = 19
number_of shipped.Framediff = 20
number_of shipped.Echo = 21
number_of shipped.Dissolve = 22
number_of shipped.Wipe = 23
number_of shipped.Merge = 24
number_of shipped.Keymix = 25
number_of shipped.Autogain = 26

abbrev pub all : List Shipped
all =
    shipped.Solid
    ∷ shipped.Checker
    ∷ shipped.Ramp
    ∷ shipped.Grain
    ∷ shipped.Invert
    ∷ shipped.Gain
    ∷ shipped.Premult
    ∷ shipped.Unpremult
    ∷ shipped.Shuffle
    ∷ shipped.Saturation
    ∷ shipped.Posterise
    ∷ shipped.Boxblur
    ∷ shipped.Erode
    ∷ shipped.Dilate
    ∷ shipped.Convolve3
    ∷ shipped.Crop
    ∷ shipped.Translate
    ∷ shipped.Mirror
    ∷ shipped.Timeoffset
    ∷ shipped.Frameblend
    ∷ shipped.Framediff
    ∷ shipped.Echo
    ∷ shipped.Dissolve
    ∷ shipped.Wipe
    ∷ shipped.Merge
    ∷ shipped.Keymix
    ∷ shipped.Autogain
    ∷ []

-- the first of them that has the name
abbrev pub first_named : List Shipped → List ℕ → Option Shipped
first_named [] name = None
first_named (e ∷ effects) name = if bytes_eq name (name_of e) then Some e else first_named effects name

-- the effect of a name
abbrev pub effect_of : List ℕ → Option Shipped
effect_of name = first_named all name
