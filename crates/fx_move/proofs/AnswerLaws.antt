-- Regions that an effect computes are those of its meaning, and can be written.
use Rattle.std.proofs.Common.{◌≡◌, ◌∙◌, ℤ, refl, List, [], ◌∷◌, All, sym, subst}
use Rattle.std.proofs.lemmas.List.Elements.{All-nil, All-cons}
use Rattle.fx_base.specs.Bounds.{Bounds}
use Rattle.fx_base.specs.Rect.{IsUpTo, rect_of}
use Rattle.fx_props.specs.Set.{Set}
use Rattle.fx_effect.specs.Meaning.{Meaning}
use Rattle.fx_effect.specs.Laws.{Laws}
use Rattle.fx_effect.specs.Asked.{IsAsked, IsWindow, AreRegions}
use Rattle.fx_effect.specs.AnswerLaws.{rod_fits, roi_fits}
use Rattle.fx_effect.specs.declared.action.Context.{Context}
use Rattle.fx_effect.specs.declared.values.Values.{Values}

pub region_fits : (m : Meaning) (v : Values) (regions : List Bounds) (set : Set) (r : Bounds) → Laws m
    → IsAsked m.shape v set → AreRegions v regions → ((context : Context) → r ≡ m.rod context v regions)
    → IsUpTo 2147483648 r
region_fits m v regions set r laws asked are is =
    let context = asked.lawful.context in
    subst (IsUpTo 2147483648) (sym (is context)) (rod_fits m context v regions laws asked.lawful.there are)

pub interest_fits : (m : Meaning) (v : Values) (window : Bounds) (set : Set) (r : Bounds) → Laws m
    → IsAsked m.shape v set → IsWindow window → r ≡ m.roi v window 0 → All (IsUpTo 2147483648) (r ∷ [])
interest_fits m v window set r laws asked is_window is =
    let context = asked.lawful.context in
    All-cons (IsUpTo 2147483648) r []
    (subst (IsUpTo 2147483648) (sym is) (roi_fits m context v window 0 laws asked.lawful.there is_window))
    (All-nil (IsUpTo 2147483648))

-- a rectangle of four bounds that are these
pub rect_by : (r : Bounds) (x1 y1 x2 y2 a b c d : ℤ) → r ≡ rect_of x1 y1 x2 y2 → x1 ≡ a → y1 ≡ b → x2 ≡ c → y2 ≡ d
    → r ≡ rect_of a b c d
rect_by r x1 y1 x2 y2 a b c d is left bottom right top = is ∙ rw (left, bottom, right, top) refl
