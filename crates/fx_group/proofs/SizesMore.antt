-- The sizes of groups with one more, of which the latest stands first.
use Rattle.std.proofs.Common.{◌≡◌, refl, ap, sym, ◌∙◌, subst, ℕ, zero, suc, ◌+◌, ◌-◌, ◌<◌, arith, List, [], ◌∷◌, ◌++◌, length, drop, get_or, length-drop, slice_get, Some}
use Rattle.std.proofs.lemmas.List.{at_drop_more}
use Rattle.std.proofs.lemmas.Option.{none-some}
use Rattle.fx_text.specs.Nodes.{Group}
use Rattle.fx_group.specs.Sizes.{nodes_size, group_size, capped}
use Rattle.fx_group.specs.Counted.{AreSizes}

there_more : (xs ys : List ℕ) (i x : ℕ) → slice_get xs i ≡ Some x → slice_get (xs ++ ys) i ≡ Some x
there_more [] ys i x h = absurd (none-some x h)
there_more (z ∷ xs) ys zero x h = h
there_more (z ∷ xs) ys (suc i) x h = there_more xs ys i x h

at_end : (xs : List ℕ) (x : ℕ) → slice_get (xs ++ x ∷ []) (length xs) ≡ Some x
at_end [] x = refl
at_end (z ∷ xs) x = at_end xs x

sizes_stay : (gs : List Group) (sizes more : List ℕ) → AreSizes gs sizes → AreSizes gs (sizes ++ more)
sizes_stay [] sizes more h = tt
sizes_stay (g ∷ gs) sizes more h = (there_more sizes more (length gs) _ h.0, sizes_stay gs sizes more h.1)

pub sizes_more : (groups : List Group) (k at : ℕ) (sizes : List ℕ) (g : Group) (size : ℕ) → k < length groups → at ≡ length groups - 1 - k
    → g ≡ get_or groups at g → length sizes ≡ k → AreSizes (drop (at + 1) groups) sizes
    → size ≡ capped (nodes_size (group_size (drop (at + 1) groups)) g.nodes)
    → AreSizes (drop (length groups - (k + 1)) groups) (sizes ++ size ∷ [])
sizes_more groups k at sizes g size low at_is is long are size_is =
    let within : at < length groups = omega arith in
    let count : length groups - (k + 1) ≡ at = omega arith in
    let far : length (drop (at + 1) groups) ≡ length sizes = omega (arith, length-drop (at + 1) groups) in
    let here : slice_get (sizes ++ size ∷ []) (length (drop (at + 1) groups)) ≡ Some (capped (nodes_size (group_size (drop (at + 1) groups)) g.nodes)) =
    ap (slice_get (sizes ++ size ∷ [])) far ∙ at_end sizes size ∙ ap Some size_is in
    let next : drop at groups ≡ g ∷ drop (at + 1) groups =
    at_drop_more (λ gs. gs) groups at g within ∙ ap (λ h. h ∷ drop (at + 1) groups) (sym is) in
    subst (λ n. AreSizes (drop n groups) (sizes ++ size ∷ [])) (sym count)
    (subst (λ gs. AreSizes gs (sizes ++ size ∷ [])) (sym next) (here, sizes_stay (drop (at + 1) groups) sizes (size ∷ []) are))
