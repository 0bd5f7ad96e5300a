-- How far the rectangles of the tests' effects reach.
use Rattle.std.proofs.Common.{◌≡◌, ℕ, ◌≤◌, zero, suc, pos, Bool, false, List, [], ◌∷◌, All, inl, refl, arith}
use Rattle.std.specs.List.{AllZip}
use Rattle.std.proofs.lemmas.Int.{ints}
use Rattle.std.proofs.lemmas.List.Elements.{All-nil, All-cons}
use Rattle.fx_base.specs.Bounds.{Bounds, none}
use Rattle.fx_base.specs.Rect.{hull, grown, IsUpTo}
use Rattle.fx_base.proofs.RectLaws.{IsRect-hull, IsNear-hull, IsUpTo-near}
use Rattle.fx_effect.specs.declared.values.Values.{Values}
use Rattle.fx_props.specs.Entries.{region_of}
use Rattle.fx_effect.specs.Asked.{IsWindow, AreRegions}
use Rattle.fx_units.specs.ActionsToys.{IsUpTo-grown_few}

-- hulls of windows are windows
pub IsWindow-hull : (r s : Bounds) → IsWindow r → IsWindow s → IsWindow (hull r s)
IsWindow-hull r s first second = record { bounds = IsRect-hull r s first.bounds second.bounds; near = IsNear-hull r s first.bounds second.bounds first.near second.near }

IsWindow-none : IsWindow none
IsWindow-none = record { bounds = inl refl; near = record { left = omega (arith, ints); right = omega (arith, ints); bottom = omega (arith, ints); top = omega (arith, ints) } }

window_at : (clip : ℕ) (connected : List Bool) (regions : List Bounds) → AllZip (λ connected r. IsWindow r × (connected ≡ false → r ≡ none)) connected regions → IsWindow (region_of regions clip)
window_at clip [] [] are = IsWindow-none
window_at clip [] (r ∷ regions) are = elim are [ ]
window_at clip (c ∷ connected) [] are = elim are [ ]
window_at zero (c ∷ connected) (r ∷ regions) are = are.0.0
window_at (suc clip) (c ∷ connected) (r ∷ regions) are = window_at clip connected regions are.1

pub IsWindow-region : (clip : ℕ) (v : Values) (regions : List Bounds) → AreRegions v regions → IsWindow (region_of regions clip)
IsWindow-region clip v regions are = window_at clip v.connected regions are

-- a window that grows a little can be written
pub grown_up_to : (r : Bounds) (k : ℕ) → k ≤ 2 → IsWindow r → IsUpTo 2147483648 (grown r (pos k) (pos k))
grown_up_to r k small window = IsUpTo-grown_few 1073741824 2147483648 k r (omega arith) (IsUpTo-near r window.bounds window.near)

pub both_up_to : (r : Bounds) → IsUpTo 2147483648 r → All (IsUpTo 2147483648) (r ∷ r ∷ [])
both_up_to r up_to = All-cons (IsUpTo 2147483648) r (r ∷ []) up_to (All-cons (IsUpTo 2147483648) r [] up_to (All-nil (IsUpTo 2147483648)))
