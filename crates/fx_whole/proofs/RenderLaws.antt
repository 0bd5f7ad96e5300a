-- A render sees Source at its own depth and in its own components, and its pixels are those of autogain.
use Rattle.std.proofs.Common.{◌≡◌, ◌<◌, ℕ, ℤ, Bool, true, false, [], ◌∷◌, map, length, slice_index_or, codes, refl, sym, ap, subst, arith, ◌∙◌, if◌then◌else◌}
use Rattle.fx_base.specs.Rect.{within}
use Rattle.fx_pixel.specs.declared.Depth.{Depth}
use Rattle.fx_pixel.specs.declared.Components.{Components}
use Rattle.fx_pixel.specs.declared.Components.TheVariants as components
use Rattle.fx_pixel.specs.Pixel.{greatest, zero}
use Rattle.fx_effect.specs.Asked.{MayRender}
use Rattle.fx_effect.specs.Given.{Given, ShowsClip, input_pixel, row_pixel}
use Rattle.fx_effect.specs.Meaning.{rendered}
use Rattle.fx_effect.specs.Shape.{Shape, clip_names, shown_as}
use Rattle.fx_effect.specs.declared.action.Context.{Context}
use Rattle.fx_effect.specs.declared.values.Values.{Values}
use Rattle.fx_whole.specs.Autogain.{autogain, levelled}
use Rattle.fx_whole.specs.AutogainLaws.{autogain_inside, autogain_outside, level_of}

pub shows_source : (s : Shape) (v : Values) (given : Given) (depth : Depth) (c : Components)
    → ((context : Context) → clip_names s context ≡ codes "Source" ∷ []) → MayRender s v given depth c
    → ShowsClip given 0 depth c
shows_source s v given depth c one may =
    let is : given.components ≡ c ∷ [] = may.clips ∙ ap (map (shown_as c)) (one may.context) in
    record {
      there = subst (λ cs. 0 < length cs) (sym is) (omega arith);
      depth_is = may.depth_is;
      components_are = ap (λ cs. slice_index_or cs 0 components.Rgba) is;
    }

-- the pixel of the effect, by the test of its place
pub autogain_is : (v : Values) (given : Given) (depth : Depth) (c : Components) (level : ℕ) (x y : ℤ)
    → level ≡ level_of v (input_pixel given)
    → (if within v.project x y then levelled (greatest depth) level (row_pixel given 0 v.frame x y) else zero c)
    ≡ rendered autogain v given depth c x y
autogain_is v given depth c level x y levels = go (within v.project x y) refl
  where
    go : (b : Bool) → within v.project x y ≡ b
        → (if within v.project x y then levelled (greatest depth) level (row_pixel given 0 v.frame x y) else zero c)
        ≡ rendered autogain v given depth c x y
    go true is =
        rw is (ap (λ n. levelled (greatest depth) n (row_pixel given 0 v.frame x y)) levels)
        ∙ sym (autogain_inside v depth c (input_pixel given) x y is)
    go false is = rw is refl ∙ sym (autogain_outside v depth c (input_pixel given) x y is)
