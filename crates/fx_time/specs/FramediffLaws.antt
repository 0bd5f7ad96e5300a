-- What every effect keeps, of framediff.
use Rattle.std.specs.Prelude.{◌≡◌, pos, List, [], ◌∷◌, length, All, refl}
use Rattle.std.proofs.Common.{arith, ◌∙◌}
use Rattle.std.proofs.lemmas.Int.{ints}
use Rattle.std.proofs.lemmas.List.Elements.{All-from_recursion}
use Rattle.fx_pixel.specs.declared.Depth.{Depth}
use Rattle.fx_pixel.specs.declared.Components.{Components}
use Rattle.fx_pixel.specs.declared.Components.TheVariants as components
use Rattle.fx_pixel.specs.declared.Pixel.{Pixel}
use Rattle.fx_pixel.specs.declared.Pixel.TheVariants.{Rgba, Alpha}
use Rattle.fx_pixel.specs.Pixel.{zero as clear, IsOfDepth, components_of}
use Rattle.fx_params.specs.Def.{int_def}
use Rattle.fx_effect.specs.Shape.{IsLawfulIn}
use Rattle.fx_effect.specs.ShapeTests.{shape_is}
use Rattle.fx_effect.specs.Numbers.{number}
use Rattle.fx_effect.specs.NumberLaws.{Between, number_between}
use Rattle.fx_effect.specs.Laws.{Laws, IsNearSpan}
use Rattle.fx_effect.specs.DefaultLaws.{region_near, region_is_rect}
use Rattle.fx_effect.specs.Local.{Read, IsRead, local_laws}
use Rattle.fx_effect.specs.declared.action.Context.{Context}
use Rattle.fx_effect.specs.declared.values.Values.{Values}
use Rattle.fx_time.specs.Times.{source_at, alone}
use Rattle.fx_effect.specs.SourceLaws.{source_flag}
use Rattle.fx_time.specs.TimesLaws.{source_holds, read_alone, near_alone}
use Rattle.fx_time.specs.Framediff.{framediff_params, framediff_shape, earlier, differed, framediff}

pub gap_between : (context : Context) (v : Values) → IsLawfulIn framediff_shape context v
    → Between (pos 1) (pos 16) (number v 0)
gap_between context v lawful =
    number_between framediff_params v 0 (int_def [] (pos 0) (pos 0) (pos 0)) lawful.numbers (omega arith)

-- ---- pixels

pub differed_of_depth : (depth : Depth) (p q : Pixel) → IsOfDepth depth p → IsOfDepth depth q
    → IsOfDepth depth (differed p q)
differed_of_depth depth (Rgba r g b a) (Rgba r' g' b' a') first second = (
  omega (arith, first.0, second.0),
  omega (arith, first.1, second.1),
  omega (arith, first.2, second.2),
  omega (arith, first.3, second.3),
)
differed_of_depth depth (Alpha a) (Alpha a') first second = omega (arith, first, second)
differed_of_depth depth (Rgba r g b a) (Alpha a') first second = first
differed_of_depth depth (Alpha a) (Rgba r' g' b' a') first second = first

pub differed_components : (p q : Pixel) → components_of (differed p q) ≡ components_of p
differed_components (Rgba r g b a) (Rgba r' g' b' a') = refl
differed_components (Alpha a) (Alpha a') = refl
differed_components (Rgba r g b a) (Alpha a') = refl
differed_components (Alpha a) (Rgba r' g' b' a') = refl

differed_clear : (c : Components) → differed (clear c) (clear c) ≡ clear c
differed_clear components.Rgba = refl
differed_clear components.Alpha = refl

-- ---- its laws

abbrev reads : Values → List Read
reads v = source_at (earlier v) ∷ source_at v.frame ∷ []

reads_there : (context : Context) (v : Values) → IsLawfulIn framediff_shape context v
    → All (IsRead (length v.connected) (framediff.spans v)) (reads v)
reads_there context v lawful =
    let some = source_flag v.connected lawful.connected in
    All-from_recursion (IsRead (length v.connected) (framediff.spans v)) (reads v) (
      read_alone (length v.connected) (framediff.spans v) (earlier v) some (0, omega arith, refl),
      (read_alone (length v.connected) (framediff.spans v) v.frame some (1, omega arith, refl), tt),
    )

frames_near : (context : Context) (v : Values) → IsLawfulIn framediff_shape context v
    → All (IsNearSpan v.frame) (alone (earlier v) ∷ alone v.frame ∷ [])
frames_near context v lawful =
    let between = gap_between context v lawful in
    All-from_recursion (IsNearSpan v.frame) (alone (earlier v) ∷ alone v.frame ∷ []) (
      near_alone v.frame (earlier v) (omega (arith, ints, between.above, between.below))
          (omega (arith, ints, between.above, between.below)),
      (near_alone v.frame v.frame (omega (arith, ints)) (omega (arith, ints)), tt),
    )

pub framediff_laws : Laws framediff
framediff_laws =
    local_laws framediff reads (shape_is framediff_shape refl) (record {
      taps = λ v x y. refl;
      interest = λ v r clip. refl;
      reads_there = reads_there;
      frames_near = λ context v clip lawful. frames_near context v lawful;
      region_near = λ context v regions n lawful are up_to. region_near n 0 v.project regions up_to;
      region_is_rect = λ context v regions lawful are. region_is_rect 0 v regions are;
      whole = λ context v regions whole lawful are. absurd cc;
      region_holds =
          λ context v regions r x y lawful are there held. source_holds (earlier v ∷ v.frame ∷ []) regions r x y there
          held;
      zero_stays = λ context v depth c x y lawful supported. differed_clear c;
      pixel = λ context v depth c value x y lawful supported shown. (
        differed_of_depth depth (value (source_at (earlier v))) (value (source_at v.frame))
            (shown.depth_is (source_at (earlier v))) (shown.depth_is (source_at v.frame)),
        differed_components (value (source_at (earlier v))) (value (source_at v.frame))
            ∙ shown.components_are (source_at (earlier v)),
      );
      same = λ context v window clip frame depth c lawful supported answer. absurd cc;
    })
