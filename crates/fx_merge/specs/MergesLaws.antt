-- What holds of the clips A and B, and that the default region is the hull of theirs.
use Rattle.std.specs.Prelude.{◌≡◌, ℕ, Bool, true, false, List, [], ◌∷◌, Some, slice_get, if◌then◌else◌, refl}
use Rattle.std.specs.List.{AllZip, Contains}
use Rattle.std.proofs.Common.{zero, suc, ap, sym, arith}
use Rattle.fx_base.specs.Bounds.{Bounds, none}
use Rattle.fx_base.specs.Rect.{hull}
use Rattle.fx_effect.specs.Shape.{Clip, MayBe}
use Rattle.fx_effect.specs.Asked.{IsWindow, AreRegions}
use Rattle.fx_effect.specs.Default.{default_rod, hull_from, has_required}
use Rattle.fx_effect.specs.declared.action.Context.{Context}
use Rattle.fx_effect.specs.declared.action.Context.TheVariants as context
use Rattle.fx_effect.specs.declared.values.Values.{Values}
use Rattle.fx_effect.specs.Pairs.{both_regions}
use Rattle.fx_merge.specs.Merges.{required}

-- no other context than the general one
pub general_alone : (c : Context) → Contains (context.General ∷ []) c → c ≡ context.General
general_alone c (zero, low, is) = sym is
general_alone c (suc k, low, is) = absurd (omega arith)

-- A and B are connected
pub first_connected : (a b : List ℕ) (others : List Clip) (connected : List Bool)
    → AllZip MayBe (required a ∷ required b ∷ others) connected → slice_get connected 0 ≡ Some true
first_connected a b others [] may = elim may [ ]
first_connected a b others (c ∷ connected) may = ap Some (may.0 refl)

-- ---- the default region

-- of two clips that have to be connected
pub default_of_two : (a b : List ℕ) (v : Values) (regions : List Bounds)
    → AllZip MayBe (required a ∷ required b ∷ []) v.connected → AreRegions v regions
    → default_rod context.General (false ∷ false ∷ []) v regions ≡ both_regions regions
default_of_two a b v regions may are = go v.connected regions may are
  where
    go : (connected : List Bool) (regions : List Bounds) → AllZip MayBe (required a ∷ required b ∷ []) connected
        → AllZip (λ connected r. IsWindow r × (connected ≡ false → r ≡ none)) connected regions
        → (if has_required (false ∷ false ∷ []) connected then hull_from none (false ∷ false ∷ []) connected regions
        else v.project) ≡ both_regions regions
    go [] regions may are = elim may [ ]
    go (c ∷ []) regions may are = elim may.1 [ ]
    go (c ∷ (d ∷ (e ∷ es))) regions may are = elim may.1.1 [ ]
    go (c ∷ (d ∷ [])) [] may are = elim are [ ]
    go (c ∷ (d ∷ [])) (r ∷ []) may are = elim are.1 [ ]
    go (c ∷ (d ∷ [])) (r ∷ (s ∷ (t ∷ ts))) may are = elim are.1.1 [ ]
    go (c ∷ (d ∷ [])) (r ∷ (s ∷ [])) may are = rw (may.0 refl, may.1.0 refl) refl

-- of these and one that may be left unconnected
pub default_of_three : (a b : List ℕ) (third : Clip) (v : Values) (regions : List Bounds)
    → AllZip MayBe (required a ∷ required b ∷ third ∷ []) v.connected → AreRegions v regions
    → default_rod context.General (false ∷ false ∷ true ∷ []) v regions ≡ both_regions regions
default_of_three a b third v regions may are = go v.connected regions may are
  where
    last : (e : Bool) (r s t : Bounds) → hull_from (hull r s) (true ∷ []) (e ∷ []) (t ∷ []) ≡ hull r s
    last true r s t = refl
    last false r s t = refl

    go : (connected : List Bool) (regions : List Bounds) → AllZip MayBe (required a ∷ required b ∷ third ∷ []) connected
        → AllZip (λ connected r. IsWindow r × (connected ≡ false → r ≡ none)) connected regions
        → (if has_required (false ∷ false ∷ true ∷ []) connected then hull_from none (false ∷ false ∷ true ∷ [])
        connected regions else v.project) ≡ both_regions regions
    go [] regions may are = elim may [ ]
    go (c ∷ []) regions may are = elim may.1 [ ]
    go (c ∷ (d ∷ [])) regions may are = elim may.1.1 [ ]
    go (c ∷ (d ∷ (e ∷ (f ∷ fs)))) regions may are = elim may.1.1.1 [ ]
    go (c ∷ (d ∷ (e ∷ []))) [] may are = elim are [ ]
    go (c ∷ (d ∷ (e ∷ []))) (r ∷ []) may are = elim are.1 [ ]
    go (c ∷ (d ∷ (e ∷ []))) (r ∷ (s ∷ [])) may are = elim are.1.1 [ ]
    go (c ∷ (d ∷ (e ∷ []))) (r ∷ (s ∷ (t ∷ (u ∷ us)))) may are = elim are.1.1.1 [ ]
    go (c ∷ (d ∷ (e ∷ []))) (r ∷ (s ∷ (t ∷ []))) may are = rw (may.0 refl, may.1.0 refl) (last e r s t)
