-- Regions that an effect computes are those of its meaning, and can be written.
use Rattle.std.proofs.Common.{◌≡◌, ◌∙◌, inl, Bool, false, ℕ, ◌≤◌, ℤ, pos, refl, arith, w64, to_z, List, [], ◌∷◌, All, codes, sym, subst}
use Rattle.std.proofs.lemmas.Int.{ints}
use Rattle.std.proofs.lemmas.List.Elements.{All-nil, All-cons}
use Rattle.std.specs.List.{AllZip}
use Rattle.fx_base.specs.Bounds.{Bounds, none}
use Rattle.fx_base.specs.Rect.{IsUpTo, rect_of, grown}
use Rattle.fx_props.specs.Set.{Set}
use Rattle.fx_props.specs.Entries.{Wrote, region_entry, interest, region_of}
use Rattle.fx_props.specs.declared.names.TheConstants.{REGION}
use Rattle.fx_effect.specs.Meaning.{Meaning}
use Rattle.fx_effect.specs.Laws.{Laws}
use Rattle.fx_effect.specs.Asked.{IsAsked, IsWindow, AreRegions}
use Rattle.fx_effect.specs.AnswerLaws.{rod_fits, roi_fits}
use Rattle.fx_effect.specs.declared.action.Context.{Context}
use Rattle.fx_effect.specs.declared.values.Values.{Values}

pub region_fits : (m : Meaning) (v : Values) (regions : List Bounds) (set : Set) (r : Bounds) → Laws m
    → IsAsked m.shape v set → AreRegions v regions → ((context : Context) → r ≡ m.rod context v regions)
    → IsUpTo 2147483648 r
region_fits m v regions set r laws asked are is =
    let context = asked.lawful.context in
    subst (IsUpTo 2147483648) (sym (is context)) (rod_fits m context v regions laws asked.lawful.there are)

pub interest_fits : (m : Meaning) (v : Values) (window : Bounds) (set : Set) (r : Bounds) → Laws m
    → IsAsked m.shape v set → IsWindow window → r ≡ m.roi v window 0 → All (IsUpTo 2147483648) (r ∷ [])
interest_fits m v window set r laws asked is_window is =
    let context = asked.lawful.context in
    All-cons (IsUpTo 2147483648) r []
    (subst (IsUpTo 2147483648) (sym is) (roi_fits m context v window 0 laws asked.lawful.there is_window))
    (All-nil (IsUpTo 2147483648))

-- a rectangle of four bounds that are these
pub rect_by : (r : Bounds) (x1 y1 x2 y2 a b c d : ℤ) → r ≡ rect_of x1 y1 x2 y2 → x1 ≡ a → y1 ≡ b → x2 ≡ c → y2 ≡ d
    → r ≡ rect_of a b c d
rect_by r x1 y1 x2 y2 a b c d is left bottom right top = is ∙ rw (left, bottom, right, top) refl

-- a region that is grown by the radii as the code has them
pub grown_by : (g r region : Bounds) (a b h v : ℕ) → g ≡ grown r (to_z w64 a) (to_z w64 b) → r ≡ region → a ≡ h → b ≡ v
    → a ≤ 64 → b ≤ 64 → g ≡ grown region (pos h) (pos v)
grown_by g r region a b h v is same wide high few low =
    let p : to_z w64 a ≡ pos h = omega (arith, ints) in
    let q : to_z w64 b ≡ pos v = omega (arith, ints) in
    is ∙ rw (same, p, q) refl

window_none : IsWindow none
window_none =
    record {
      bounds = inl refl;
      near = record { left = omega (arith, ints); right = omega (arith, ints); bottom = omega (arith, ints); top = omega (arith, ints) };
    }

first_window : (connected : List Bool) (regions : List Bounds) → AllZip (λ connected r. IsWindow r × (connected ≡ false → r ≡ none)) connected regions → IsWindow (region_of regions 0)
first_window [] [] are = window_none
first_window [] (r ∷ regions) are = elim are [ ]
first_window (b ∷ connected) [] are = elim are [ ]
first_window (b ∷ connected) (r ∷ regions) are = are.0.0

-- the region of Source is moderate
pub region_window : (v : Values) (regions : List Bounds) → AreRegions v regions → IsWindow (region_of regions 0)
region_window v regions are = first_window v.connected regions are

-- what was written is what the meaning answers
pub wrote_region : (r region : Bounds) (old new : Set) → r ≡ region → Wrote (region_entry REGION.now r ∷ []) old new
    → Wrote (region_entry REGION.now region ∷ []) old new
wrote_region r region old new is wrote = subst (λ (b : Bounds). Wrote (region_entry REGION.now b ∷ []) old new) is wrote

pub wrote_interest : (r region : Bounds) (old new : Set) → r ≡ region
    → Wrote (interest (codes "Source" ∷ []) (region_of (r ∷ []))) old new
    → Wrote (interest (codes "Source" ∷ []) (region_of (region ∷ []))) old new
wrote_interest r region old new is wrote =
    subst (λ (b : Bounds). Wrote (interest (codes "Source" ∷ []) (region_of (b ∷ []))) old new) is wrote
