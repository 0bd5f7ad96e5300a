-- What a reader gives within a limit.
use Rattle.std.proofs.Common.{◌≡◌, ◌≤◌, ◌<◌, ℕ, List, [], ◌++◌, length, take, Option, None, Some, IfSome, option_map, ap, subst, ◌∙◌, arith}
use Rattle.std.proofs.lemmas.List.{length-take, take_all}

all_given_within : (given : Option (List ℕ)) (got : List ℕ) (limit : ℕ) → length got < limit → IfSome (option_map (take limit) given) (λ xs. got ≡ xs) → IfSome given (λ xs. got ≡ xs)
all_given_within None got limit short h = h
all_given_within (Some xs) got limit short h =
    let e : got ≡ take limit xs = h in
    let fits : length xs ≤ limit = omega (arith, short, ap length e, length-take limit xs) in
    e ∙ take_all limit xs fits

-- What doesn't reach the limit, read into an empty list, is all that the reader gives.
pub all_given : (given : Option (List ℕ)) (before got : List ℕ) (limit too_many : ℕ) → before ≡ [] → limit ≡ too_many → length got < too_many → IfSome (option_map (take limit) given) (λ xs. got ≡ before ++ xs) → IfSome given (λ xs. got ≡ xs)
all_given given before got limit too_many empty same short h =
    let at_limit = subst (λ n. IfSome (option_map (take n) given) (λ xs. got ≡ before ++ xs)) same h in
    all_given_within given got too_many short (subst (λ ys. IfSome (option_map (take too_many) given) (λ xs. got ≡ ys ++ xs)) empty at_limit)
