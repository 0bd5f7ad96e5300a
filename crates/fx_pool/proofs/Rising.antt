-- A rising list that has each number below a count once is the list of these numbers.
use Rattle.std.proofs.Common.{◌≡◌, ℕ, zero, suc, ◌+◌, ◌<◌, ◌≤◌, ◌==◌, ◌≢◌, cond, List, [], ◌∷◌, ◌++◌, length, get_or, take, sym, refl, ◌∙◌, arith, lt_of_not-le, IsPermutation}
use Rattle.std.proofs.lemmas.Bool.Decides.{nat_tests}
use Rattle.std.proofs.lemmas.List.{take-append-le, take_all}
use Rattle.std.proofs.lemmas.List.Sums.{sum_by-cons}
use Rattle.std.proofs.lemmas.List.Sorted.{sum_by-IsPermutation, IsPermutation-map}
use Rattle.std.specs.List.{range_with_len}
use Rattle.std.specs.List.Sorted.{IsNonDecreasingBy}
use mathlib.Core.Logic.{dite}
use native.Mathlib.Decide.{dec_le, ℕ_discrete}
use Rattle.fx_pool.specs.Draws.{times, once_below, AllDrawn}
use Rattle.fx_pool.specs.Working.{numbers_of, numbers_below}

times-cons : (x y : ℕ) (ns : List ℕ) → times x (y ∷ ns) ≡ cond (y == x) 1 0 + times x ns
times-cons x y ns = sum_by-cons (λ (n : ℕ). cond {A = ℕ} (n == x) 1 0) y ns

times-here : (x y : ℕ) (ns : List ℕ) → y ≡ x → times x (y ∷ ns) ≡ 1 + times x ns
times-here x y ns e = let t = times-cons x y ns in grind (arith, nat_tests)

times-else : (x y : ℕ) (ns : List ℕ) → y ≢ x → times x (y ∷ ns) ≡ times x ns
times-else x y ns e = let t = times-cons x y ns in grind (arith, nat_tests)

-- each number from a on, m of them, once, and no others
record Each (a m : ℕ) (ns : List ℕ) : Type 0 where
  within : (x : ℕ) → a ≤ x → x < a + m → times x ns ≡ 1
  below : (x : ℕ) → x < a → times x ns ≡ 0
  above : (x : ℕ) → a + m ≤ x → times x ns ≡ 0

in_reach : (x count : ℕ) → x < count → once_below x count ≡ 1
in_reach x count h = grind (arith, nat_tests)

past_reach : (x count : ℕ) → count ≤ x → once_below x count ≡ 0
past_reach x count h = grind (arith, nat_tests)

module _ {T : Type 0} where
  -- a number below all others isn't there
  absent : (x : ℕ) (os : List (ℕ × T)) → ((k : ℕ) (d : ℕ × T) → k < length os → x < (get_or os k d).0) → times x (numbers_of os) ≡ 0
  absent x [] all = refl
  absent x (o ∷ os) all = let here = all zero o (omega arith) in let later = absent x os (λ k d h. all (suc k) d (omega arith)) in times-else x o.0 (numbers_of os) (λ e. omega arith) ∙ later

  ranges : (a m : ℕ) (os : List (ℕ × T)) → IsNonDecreasingBy (λ o. o.0) os → Each a m (numbers_of os) → numbers_of os ≡ range_with_len a m
  ranges a zero [] rises each = refl
  ranges a zero (o ∷ os) rises each = let t = times-here o.0 o.0 (numbers_of os) refl in dite (dec_le a o.0)
      (λ le. let z = each.above o.0 (omega arith) in absurd (omega arith))
      (λ not_le. let lt = lt_of_not-le not_le in let z = each.below o.0 lt in absurd (omega arith))
  ranges a (suc m) [] rises each = let one = each.within a (omega arith) (omega arith) in let none : times a [] ≡ 0 = refl in absurd (omega arith)
  ranges a (suc m) (o ∷ os) rises each = let t = times-here o.0 o.0 (numbers_of os) refl in
      let at_least : a ≤ o.0 = dite (dec_le a o.0) (λ le. le) (λ not_le. let lt = lt_of_not-le not_le in let z = each.below o.0 lt in absurd (omega arith)) in
      let at_most : o.0 ≤ a = dite (dec_le o.0 a) (λ le. le) (λ not_le. let lt = lt_of_not-le not_le in
      let one = each.within a (omega arith) (omega arith) in
      let none = absent a (o ∷ os) (λ k d h. let first : o.0 ≤ (get_or (o ∷ os) k d).0 = rises zero k d (omega arith) h in omega arith) in absurd (omega arith)) in
      let is : o.0 ≡ a = omega arith in
      let rest = ranges (a + 1) m os (λ i j d le lt. rises (suc i) (suc j) d (omega arith) (omega arith)) record {
        within = λ x low high. sym (times-else x o.0 (numbers_of os) (λ e. omega arith)) ∙ each.within x (omega arith) (omega arith);
        below = λ x low. dite (ℕ_discrete o.0 x)
            (λ same. let u = times-here x o.0 (numbers_of os) same in let one = each.within x (omega arith) (omega arith) in omega arith)
            (λ other. sym (times-else x o.0 (numbers_of os) other) ∙ each.below x (omega arith));
        above = λ x high. sym (times-else x o.0 (numbers_of os) (λ e. omega arith)) ∙ each.above x (omega arith);
      } in λ k. is k ∷ rest k

  -- what a sort makes of the numbers below a count
  pub rising : (old new : List (ℕ × T)) (count : ℕ) → IsPermutation old new → IsNonDecreasingBy (λ o. o.0) new → AllDrawn count (numbers_of old) → numbers_of new ≡ numbers_below count
  rising old new count same rises all =
      let counts : (x : ℕ) → times x (numbers_of new) ≡ once_below x count = λ x. sum_by-IsPermutation (λ (n : ℕ). cond {A = ℕ} (n == x) 1 0) (numbers_of old) (numbers_of new) (IsPermutation-map (λ (o : ℕ × T). o.0) old new same) ∙ all x in
      ranges 0 count new rises record {
        within = λ x low high. counts x ∙ in_reach x count (omega arith);
        below = λ x low. absurd (omega arith);
        above = λ x high. counts x ∙ past_reach x count (omega arith);
      }

-- a list that a slice was written back to
pub written_back : {A : Type 0} (xs ys : List A) (n : ℕ) → length xs ≡ n → take n (xs ++ ys) ≡ xs
written_back xs ys n e = take-append-le n xs ys (omega arith) ∙ take_all n xs (omega arith)
