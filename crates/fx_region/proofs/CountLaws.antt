-- Each window tile is found nowhere, in a source's frame, or in a render.
use Rattle.std.proofs.lemmas.List.Sums.{sum_by-cons}
use Rattle.std.proofs.Common.{cond, ◌≡◌, ◌+◌, List, [], ◌∷◌, length, refl, arith, count_by}
use Rattle.fx_region.specs.Counts.{IsSumOfKinds, count_ends, is_asked, is_passed, is_void}
use Rattle.fx_region.specs.Ends.{EndShown, Frame, Render, Void}

one_kind : (e : EndShown) → cond (is_void e) 1 0 + cond (is_passed e) 1 0 + cond (is_asked e) 1 0 ≡ 1
one_kind Void = refl
one_kind (Frame node frame region through) = refl
one_kind (Render node frame region cut through) = refl

sum_of : (ends : List EndShown)
    → length ends ≡ count_by is_void ends + count_by is_passed ends + count_by is_asked ends
sum_of [] = refl
sum_of (e ∷ ends) =
    let h = sum_of ends in
    let void = sum_by-cons (λ d. cond (is_void d) 1 0) e ends in
    let passed = sum_by-cons (λ d. cond (is_passed d) 1 0) e ends in
    let asked = sum_by-cons (λ d. cond (is_asked d) 1 0) e ends in
    let one = one_kind e in
    omega (arith, h, void, passed, asked, one)

pub sum_of_kinds : (ends : List EndShown) → IsSumOfKinds (count_ends ends)
sum_of_kinds ends = sum_of ends
