-- An effect may render frames of 1,920 by 1,080 pixels.
use Rattle.std.proofs.Common.{◌≡◌, ◌+◌, ◌<◌, ℕ, ℤ, pos, Bool, List, [], ◌∷◌, ◌++◌, IsTrue, length, refl, arith, take, get_or}
use Rattle.std.specs.List.{AllZip, Contains}
use Rattle.std.proofs.lemmas.Int.{ints}
use Rattle.std.proofs.lemmas.List.{take_more}
use Rattle.std.proofs.lemmas.Slice.Zip.{all_zipped_more}
use Rattle.fx_base.specs.Bounds.{Bounds}
use Rattle.fx_pixel.specs.declared.Depth.{Depth}
use Rattle.fx_pixel.specs.declared.Components.TheVariants.{Rgba}
use Rattle.fx_params.specs.declared.def.ParamDef.{ParamDef}
use Rattle.fx_effect.specs.declared.action.Context.{Context}
use Rattle.fx_effect.specs.declared.values.Values.{Values}
use Rattle.fx_effect.specs.Given.{Given}
use Rattle.fx_effect.specs.Shape.{Shape, InRange, MayBe, IsProject, IsLawful, shown_components, supports}
use Rattle.fx_effect.specs.Asked.{MayRender}

abbrev pub hd : Bounds
hd = record { x1 = pos 0; y1 = pos 0; x2 = pos 1920; y2 = pos 1080 }

hd_is_project : IsProject hd
hd_is_project =
    record {
      left = refl;
      bottom = refl;
      wide = (omega (arith, ints), omega (arith, ints));
      high = (omega (arith, ints), omega (arith, ints));
    }

-- values of a whole HD project are lawful
pub are_lawful : (s : Shape) (context : Context) (t : ℤ) (numbers : List ℤ) (connected : List Bool)
    → Contains s.contexts context → AllZip InRange (s.params context) numbers
    → AllZip MayBe (s.clips context) connected
    → IsLawful s (record { frame = t; numbers = numbers; connected = connected; project = hd })
are_lawful s context t numbers connected there range flags =
    record {
      context = context;
      there = record { supported = there; numbers = range; connected = flags; project = hd_is_project };
    }

-- what each context shows alike may be rendered
pub may_render : (s : Shape) (v : Values) (given : Given) (depth : Depth) → IsLawful s v
    → IsTrue (supports s depth Rgba) → given.depth ≡ depth
    → ((c : Context) → given.components ≡ shown_components s c Rgba) → MayRender s v given depth Rgba
may_render s v given depth lawful supported deep shown =
    record {
      context = lawful.context;
      lawful = lawful.there;
      supported = supported;
      depth_is = deep;
      clips = shown lawful.context;
    }

-- one number more, in the range of the next parameter
pub one_more : (defs : List ParamDef) (k : ℕ) (def : ParamDef) (numbers : List ℤ) (number : ℤ) → k < length defs
    → def ≡ get_or defs k def → AllZip InRange (take k defs) numbers → InRange def number
    → AllZip InRange (take (k + 1) defs) (numbers ++ number ∷ [])
one_more defs k def numbers number within is so_far range =
    let more : take (k + 1) defs ≡ take k defs ++ def ∷ [] = rw (take_more defs k def within) (rw (← is) refl) in
    rw more (all_zipped_more InRange (take k defs) numbers def number so_far range)
