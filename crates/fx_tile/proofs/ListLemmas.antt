-- What a list numbers, by its number.
use Rattle.std.proofs.Common.{◌≡◌, ℕ, List, [], ◌∷◌, map, length, get_or, refl, sym, ap, ◌∙◌, All}
use Rattle.std.specs.List.{range_with_len}
use Rattle.std.proofs.lemmas.Simd.{map-map}
use Rattle.std.proofs.lemmas.List.Elements.{All-head, All-tail}
use Rattle.std.proofs.lemmas.List.FromFn.{fill_by_all}

map_same : {A B : Type 0} (f g : A → B) (xs : List A) → All (λ x. f x ≡ g x) xs → map f xs ≡ map g xs
map_same f g [] each = refl
map_same f g (x ∷ xs) each =
    let first = All-head (λ z. f z ≡ g z) x xs each in
    let rest = map_same f g xs (All-tail (λ z. f z ≡ g z) x xs each) in
    cc

-- what each element of a list numbers, by its number
pub map-numbered : {A T : Type 0} (f : ℕ × T → A) (outs : List (ℕ × T)) (xs : List A) (d : A)
    → map (λ o. o.0) outs ≡ range_with_len 0 (length xs) → All (λ o. f o ≡ get_or xs o.0 d) outs → map f outs ≡ xs
map-numbered f outs xs d numbers each =
    map_same f (λ o. get_or xs o.0 d) outs each
    ∙ sym (map-map (λ k. get_or xs k d) (λ o. o.0) outs)
    ∙ ap (map (λ k. get_or xs k d)) numbers
    ∙ sym (fill_by_all (λ k. get_or xs k d) xs (length xs) d refl (λ k low. refl))
