-- Lanes that a comparison of two vectors chooses.
use Rattle.std.proofs.Common.{◌≡◌, ◌<◌, ℕ, ◌-◌, ◌^◌, Bool, false, cond, List, length, get_or, map, ap, arith, ◌∙◌}
use Rattle.std.specs.Int.{Width}
use Rattle.std.proofs.lemmas.Simd.{length-zip2, get_or-zip2, tops_compared, length-sel_l, get_or-sel_l}
use Rattle.std.specs.Simd.Lanes.{zip2, sel_l, top}
use mir.Val.{bits, hbits}

-- the comparison of two vectors, as `simd_lt` and the others give it
abbrev compared : Width → (ℕ → ℕ → Bool) → List ℕ → List ℕ → List ℕ
compared w test xs ys = zip2 (λ a b. cond (test a b) (2 ^ bits w - 1) 0) xs ys

-- the lanes of one vector or another, as the comparison says
abbrev pub chosen : Width → (ℕ → ℕ → Bool) → List ℕ → List ℕ → List ℕ → List ℕ → List ℕ
chosen w test xs ys us vs = sel_l (map (top (hbits w)) (compared w test xs ys)) us vs

pub length_chosen : (w : Width) (test : ℕ → ℕ → Bool) (n : ℕ) (xs ys us vs : List ℕ) → length xs ≡ n → length ys ≡ n
    → length us ≡ n → length vs ≡ n → length (chosen w test xs ys us vs) ≡ n
length_chosen w test n xs ys us vs lx ly lu lv =
    let tests : length (zip2 test xs ys) ≡ n = length-zip2 test xs ys (cc) ∙ lx in
    ap (λ m. length (sel_l m us vs)) (tops_compared w test xs ys)
    ∙ length-sel_l (zip2 test xs ys) us vs (cc) (cc) ∙ tests

pub chosen_lane : (w : Width) (test : ℕ → ℕ → Bool) (n : ℕ) (xs ys us vs : List ℕ) (j : ℕ) → length xs ≡ n
    → length ys ≡ n → length us ≡ n → length vs ≡ n → j < n
    → get_or (chosen w test xs ys us vs) j 0
    ≡ cond (test (get_or xs j 0) (get_or ys j 0)) (get_or us j 0) (get_or vs j 0)
chosen_lane w test n xs ys us vs j lx ly lu lv low =
    let tests : length (zip2 test xs ys) ≡ n = length-zip2 test xs ys (cc) ∙ lx in
    ap (λ m. get_or (sel_l m us vs) j 0) (tops_compared w test xs ys)
    ∙ get_or-sel_l (zip2 test xs ys) us vs j 0 (omega (arith, tests)) (omega (arith, lu)) (omega (arith, lv))
    ∙ ap (λ m. cond m (get_or us j 0) (get_or vs j 0))
    (get_or-zip2 test xs ys j 0 0 false (omega (arith, lx)) (omega (arith, ly)))
