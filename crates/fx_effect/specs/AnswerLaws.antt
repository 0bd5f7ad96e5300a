-- What an effect answers, by its laws, can be written: no number of it is too great.
use Rattle.std.specs.Prelude.{◌≡◌, ℕ, ◌+◌, ℤ, Bool, false, List, [], ◌∷◌, All}
use Rattle.std.specs.List.{AllZip}
use Rattle.std.proofs.Common.{arith}
use Rattle.std.proofs.lemmas.Int.{ints}
use Rattle.std.proofs.lemmas.List.Elements.{All-nil, All-cons}
use Rattle.fx_base.specs.Bounds.{Bounds, none}
use Rattle.fx_base.specs.Rect.{IsFrame, IsUpTo}
use Rattle.fx_base.proofs.RectLaws.{IsUpTo-more, IsUpTo-near}
use Rattle.fx_props.specs.Entries.{AreModerate}
use Rattle.fx_effect.specs.Shape.{IsLawfulIn, IsProject}
use Rattle.fx_effect.specs.Meaning.{Meaning}
use Rattle.fx_effect.specs.Asked.{IsWindow, AreRegions}
use Rattle.fx_effect.specs.Laws.{Laws, IsNearSpan}
use Rattle.fx_effect.specs.declared.action.Context.{Context}
use Rattle.fx_effect.specs.declared.values.Values.{Values}

project_near : (r : Bounds) → IsProject r → IsUpTo 1073741824 r
project_near r project =
    let left = project.left in
    let bottom = project.bottom in
    let wide = project.wide in
    let high = project.high in
    record {
      left = (omega (arith, ints), omega (arith, ints));
      bottom = (omega (arith, ints), omega (arith, ints));
      right = (omega (arith, ints), omega (arith, ints));
      top = (omega (arith, ints), omega (arith, ints));
    }

window_near : (r : Bounds) → IsWindow r → IsUpTo 1073741824 r
window_near r window = IsUpTo-near r window.bounds window.near

regions_near : (connected : List Bool) (regions : List Bounds)
    → AllZip (λ connected r. IsWindow r × (connected ≡ false → r ≡ none)) connected regions
    → All (IsUpTo 1073741824) regions
regions_near [] [] are = All-nil (IsUpTo 1073741824)
regions_near [] (r ∷ regions) are = elim are [ ]
regions_near (c ∷ connected) [] are = elim are [ ]
regions_near (c ∷ connected) (r ∷ regions) are =
    All-cons (IsUpTo 1073741824) r regions (window_near r are.0.0) (regions_near connected regions are.1)

-- the region of definition
pub rod_fits : (m : Meaning) (context : Context) (v : Values) (regions : List Bounds) → Laws m
    → IsLawfulIn m.shape context v → AreRegions v regions → IsUpTo 2147483648 (m.rod context v regions)
rod_fits m context v regions laws lawful are =
    IsUpTo-more (1073741824 + 32768) 2147483648 (m.rod context v regions) (omega arith)
    (laws.region_near context v regions 1073741824 lawful are
    (All-cons (IsUpTo 1073741824) v.project regions (project_near v.project lawful.project)
    (regions_near v.connected regions are)))

-- the region of interest of a clip
pub roi_fits : (m : Meaning) (context : Context) (v : Values) (r : Bounds) (clip : ℕ) → Laws m
    → IsLawfulIn m.shape context v → IsWindow r → IsUpTo 2147483648 (m.roi v r clip)
roi_fits m context v r clip laws lawful window =
    IsUpTo-more (1073741824 + 32768) 2147483648 (m.roi v r clip) (omega arith)
    (laws.interest_near context v r clip 1073741824 lawful window.bounds
    (All-cons (IsUpTo 1073741824) v.project (r ∷ []) (project_near v.project lawful.project)
    (All-cons (IsUpTo 1073741824) r [] (window_near r window) (All-nil (IsUpTo 1073741824)))))

moderate : (t : ℤ) (span : ℤ × ℤ) → IsFrame t → IsNearSpan t span → AreModerate span
moderate t span frame near =
    let a = near.first_after in
    let b = near.first_before in
    let c = near.last_after in
    let d = near.last_before in
    let low = frame.0 in
    let high = frame.1 in
    ((omega (arith, ints), omega (arith, ints)), (omega (arith, ints), omega (arith, ints)))

-- the frames that are needed of a clip
pub spans_fit : (m : Meaning) (context : Context) (v : Values) (clip : ℕ) → Laws m → IsLawfulIn m.shape context v
    → IsFrame v.frame → All AreModerate (m.spans v clip)
spans_fit m context v clip laws lawful frame k d low =
    moderate v.frame _ frame (laws.frames_near context v clip lawful k d low)
