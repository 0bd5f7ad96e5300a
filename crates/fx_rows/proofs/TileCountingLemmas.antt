-- The numbers of the effects that count their calls.
use Rattle.std.proofs.Common.{◌≡◌, ◌≢◌, ℕ, zero, suc, List, [], ◌∷◌, map, refl, sym, subst, ◌∙◌, arith, AllPairs}
use Rattle.std.specs.List.{Contains}
use Rattle.std.proofs.lemmas.List.{get_or-map, length-map}
use Rattle.fx_effect.specs.declared.action.Safety.{Safety}
use Rattle.fx_effect.specs.declared.action.Safety.TheVariants.{Unsafe, InstanceSafe, FullySafe}
use Rattle.fx_rows.specs.TileCounting.{counted_number}

abbrev pub three : List ℕ
three = 0 ∷ 1 ∷ 2 ∷ []

pub among_three : (safety : Safety) → Contains three (counted_number safety)
among_three Unsafe = (0, omega arith, refl)
among_three InstanceSafe = (1, omega arith, refl)
among_three FullySafe = (2, omega arith, refl)

three_apart : AllPairs (λ a b. a ≢ b) three
three_apart zero zero d before inside = absurd (omega (arith, before))
three_apart zero (suc zero) d before inside = λ same. omega (arith, same)
three_apart zero (suc (suc zero)) d before inside = λ same. omega (arith, same)
three_apart zero (suc (suc (suc j))) d before inside = absurd (omega (arith, inside))
three_apart (suc zero) (suc (suc zero)) d before inside = λ same. omega (arith, same)
three_apart (suc i) zero d before inside = absurd (omega (arith, before))
three_apart (suc zero) (suc zero) d before inside = absurd (omega (arith, before))
three_apart (suc i) (suc (suc (suc j))) d before inside = absurd (omega (arith, inside))
three_apart (suc (suc i)) (suc zero) d before inside = absurd (omega (arith, before))
three_apart (suc (suc i)) (suc (suc zero)) d before inside = absurd (omega (arith, before))

-- things whose numbers are these differ in them
pub apart_by : {A : Type 0} (f : A → ℕ) (xs : List A) → map f xs ≡ three → AllPairs (λ a b. f a ≢ f b) xs
apart_by f xs is i j d before inside same =
    let apart = subst (AllPairs (λ a b. a ≢ b)) (sym is) three_apart in
    let long = length-map xs f in
    apart i j (f d) before (omega (arith, inside, long))
    (get_or-map f xs i d (f d) (omega (arith, before, inside)) ∙ same ∙ sym (get_or-map f xs j d (f d) inside))
