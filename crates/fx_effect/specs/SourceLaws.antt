-- What effects with the one clip Source share: it is connected, and what an answer of the same pixels tells.
use Rattle.std.specs.Prelude.{◌≡◌, ℕ, ◌<◌, ℤ, Bool, true, false, List, [], ◌∷◌, length, codes, map, slice_get, slice_index_or, Some, if◌then◌else◌, refl}
use Rattle.std.specs.List.{AllZip}
use Rattle.std.proofs.Common.{ap, sym, subst, arith, ◌∙◌}
use Rattle.fx_pixel.specs.declared.Depth.{Depth}
use Rattle.fx_pixel.specs.declared.Components.{Components}
use Rattle.fx_pixel.specs.declared.Components.TheVariants as components
use Rattle.fx_effect.specs.Shape.{Shape, MayBe, clip_names, shown_as}
use Rattle.fx_effect.specs.Given.{Given, ShowsClip}
use Rattle.fx_effect.specs.Asked.{MayRender}
use Rattle.fx_effect.specs.Source.{source_clips}
use Rattle.fx_effect.specs.DefaultLaws.{flag_for_each}
use Rattle.fx_effect.specs.declared.action.Context.{Context}
use Rattle.fx_effect.specs.declared.action.Identity.TheVariants.{Same, No}
use Rattle.fx_effect.specs.declared.values.Values.{Values}

-- there is a flag for Source, and it is set
pub source_flag : (connected : List Bool) → AllZip MayBe source_clips connected → 0 < length connected
source_flag connected may = let one = flag_for_each source_clips connected may in omega (arith, one)

pub source_connected : (connected : List Bool) → AllZip MayBe source_clips connected
    → slice_get connected 0 ≡ Some true
source_connected [] may = elim may [ ]
source_connected (b ∷ connected) may = ap Some (may.0 refl)

-- the answer Source at a frame comes only where the test holds
pub same_source : (b : Bool) (t : ℤ) (clip : ℕ) (f : ℤ) → (if b then Same 0 t else No) ≡ Same clip f
    → (b ≡ true) × (clip ≡ 0) × (f ≡ t)
same_source true t clip f e = (refl, cc, cc)
same_source false t clip f e = absurd cc

-- a render sees Source at its own depth and with its own components
pub shows_source : (s : Shape) (v : Values) (given : Given) (depth : Depth) (c : Components)
    → ((context : Context) → clip_names s context ≡ codes "Source" ∷ []) → MayRender s v given depth c
    → ShowsClip given 0 depth c
shows_source s v given depth c one may =
    let is : given.components ≡ c ∷ [] = may.clips ∙ ap (map (shown_as c)) (one may.context) in
    record {
      there = subst (λ cs. 0 < length cs) (sym is) (omega arith);
      depth_is = may.depth_is;
      components_are = ap (λ cs. slice_index_or cs 0 components.Rgba) is;
    }
