-- What a turn leaves to a seat, on small cases.
use Rattle.std.proofs.Common.{◌≡◌, ℕ, [], ◌∷◌, refl}
use Rattle.fx_turn.specs.Tallies.{tally_after, tally_of_all}
use Rattle.fx_turn.specs.Claims.{claims_after}

-- claim 1 left, claim 3 came, and claim 2 is another seat's
one_left_one_came : claims_after {M = ℕ} ((1, 10) ∷ (2, 20) ∷ []) ((2, 20) ∷ (3, 30) ∷ []) ((1, 10) ∷ []) ≡ (3, 30) ∷ []
one_left_one_came = refl

-- nothing left and nothing came
as_before : claims_after {M = ℕ} ((1, 10) ∷ (2, 20) ∷ []) ((1, 10) ∷ (2, 20) ∷ []) ((2, 20) ∷ []) ≡ (2, 20) ∷ []
as_before = refl

-- a claim with another mark is another claim
marked_anew : claims_after {M = ℕ} ((1, 10) ∷ []) ((1, 11) ∷ []) ((1, 10) ∷ []) ≡ (1, 11) ∷ []
marked_anew = refl

-- the value went from 7 and 1 to 9 and 1: the seat, which had 3 and 0, has 5 and 0
two_more : tally_after (7 ∷ 1 ∷ 0 ∷ 0 ∷ 0 ∷ 0 ∷ []) (9 ∷ 1 ∷ 0 ∷ 0 ∷ 0 ∷ 0 ∷ []) (3 ∷ 0 ∷ 0 ∷ 0 ∷ 0 ∷ 0 ∷ []) ≡ 5 ∷ 0 ∷ 0 ∷ 0 ∷ 0 ∷ 0 ∷ []
two_more = refl

-- of two values
added_up : tally_of_all (λ n. n ∷ 1 ∷ 0 ∷ 0 ∷ 0 ∷ 0 ∷ []) (4 ∷ 5 ∷ []) ≡ 9 ∷ 2 ∷ 0 ∷ 0 ∷ 0 ∷ 0 ∷ []
added_up = refl
