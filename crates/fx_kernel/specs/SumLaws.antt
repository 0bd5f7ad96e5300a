-- Sums that grow and that slide.
use Rattle.std.proofs.Common.{◌≡◌, ◌≤◌, ◌<◌, ℕ, zero, suc, ◌+◌, ◌*◌, ◌⊎◌, inl, inr, ℤ, pos, ◌+ℤ◌, ◌≤ℤ◌, ◌<ℤ◌, List, length, slice_index, refl, ap, sym, arith, subst, add-one, ◌∙◌}
use Rattle.std.specs.List.{sum_by}
use Rattle.std.proofs.lemmas.Int.{ints, by_lt_z}
use Rattle.std.proofs.lemmas.List.Sums.{sum_by-le}
use Rattle.std.proofs.Math.Nat.{mul-le-mul_left}
use Rattle.fx_base.specs.Run.{int_run}
use Rattle.fx_kernel.specs.AroundLaws.{length-int_run, sum_push, slide}
use Rattle.fx_base.proofs.RunLaws.{All-run}
use Rattle.fx_kernel.specs.Sums.{AreSums}
use Rattle.fx_kernel.specs.Window.{AreSmall, window}

pub no_sums : (cells : List ℕ) (term : ℕ → ℤ → ℕ) (a : ℤ) (m : ℕ) → ((s : ℕ) → slice_index cells s ≡ 0)
    → AreSums cells term a 0 m
no_sums cells term a m none =
    record { sums = λ s low. none s; bound = λ s j low above below. absurd (omega (arith, ints)) }

last_or_before : (a j : ℤ) (n : ℕ) → j <ℤ (a +ℤ pos (n + 1)) → (j <ℤ (a +ℤ pos n)) ⊎ (j ≡ (a +ℤ pos n))
last_or_before a j n h = by_lt_z j (a +ℤ pos n) (λ k. inl k) (λ k. inr (omega (arith, ints)))

-- one more term
pub more_sums : (cells new : List ℕ) (term : ℕ → ℤ → ℕ) (a z : ℤ) (n m : ℕ) → z ≡ a +ℤ pos n
    → length new ≡ length cells → AreSums cells term a n m
    → ((s : ℕ) → s < length cells → slice_index new s ≡ slice_index cells s + term s z)
    → ((s : ℕ) → s < length cells → term s z ≤ m) → AreSums new term a (n + 1) m
more_sums cells new term a z n m is long sums added few =
    record {
      sums = λ s low.
          let old = sums.sums s (rw (← long) low) in
          let new_is = added s (rw (← long) low) in
          new_is ∙ ap (λ x. x + term s z) old ∙ ap (λ w. sum_by (term s) (int_run a n) + term s w) is
          ∙ sym (sum_push (term s) a n);
      bound = λ s j low above below. bound_by s j (rw (← long) low) above (last_or_before a j n below);
    }
  where
    bound_by : (s : ℕ) (j : ℤ) → s < length cells → a ≤ℤ j → (j <ℤ (a +ℤ pos n)) ⊎ (j ≡ (a +ℤ pos n)) → term s j ≤ m
    bound_by s j low above (inl before) = sums.bound s j low above before
    bound_by s j low above (inr last) = subst (λ w. term s w ≤ m) (is ∙ sym last) (few s low)

-- the next window of terms
pub slid_sums : (cells new : List ℕ) (term : ℕ → ℤ → ℕ) (a : ℤ) (n m : ℕ) → length new ≡ length cells
    → AreSums cells term a (n + 1) m
    → ((s : ℕ) → s < length cells → slice_index new s + term s a ≡ slice_index cells s)
    → AreSums new term (a +ℤ pos 1) n m
slid_sums cells new term a n m long sums taken =
    record {
      sums = λ s low.
          let old = sums.sums s (rw (← long) low) in
          let less = taken s (rw (← long) low) in
          omega (arith, old, less, slide (term s) a n, sum_push (term s) a n);
      bound = λ s j low above below. sums.bound s j (rw (← long) low) (omega (arith, ints)) (omega (arith, ints));
    }

-- the first term is in the sum
pub first_in_sum : (term : ℤ → ℕ) (a : ℤ) (n x : ℕ) → x ≡ sum_by term (int_run a (n + 1)) → term a ≤ x
first_in_sum term a n x is = omega (arith, is, slide term a n, sum_push term a n)

pub sums_bound : (cells : List ℕ) (term : ℕ → ℤ → ℕ) (a : ℤ) (n m : ℕ) → AreSums cells term a n m → (s : ℕ)
    → s < length cells → slice_index cells s ≤ n * m
sums_bound cells term a n m sums s low =
    let each = All-run (λ j. term s j ≤ m) a n (λ j above below. sums.bound s j low above below) in
    let few = sum_by-le (term s) m (int_run a n) each in
    rw (sums.sums s low) (rw length-int_run at few)

pub sums_small : (cells : List ℕ) (term : ℕ → ℤ → ℕ) (a : ℤ) (n m : ℕ) → AreSums cells term a n m → n ≤ 1000
    → m ≤ 65535 → AreSmall cells
sums_small cells term a n m sums few low =
    record {
      small = λ s there.
          let h = sums_bound cells term a n m sums s there in
          let k = mul-le-mul_left n low in
          omega (arith, h, k);
    }

-- a window of cells as a sum
pub window_is : (f : ℕ → ℕ) (h : ℤ → ℕ) (a : ℤ) (n : ℕ) → ((t : ℕ) → t < n → f t ≡ h (a +ℤ pos t))
    → window f n ≡ sum_by h (int_run a n)
window_is f h a zero same = refl
window_is f h a (suc n) same =
    let before = window_is f h a n (λ t low. same t (omega arith)) in
    let here = same n (omega arith) in
    let pushed : sum_by h (int_run a (suc n)) ≡ sum_by h (int_run a n) + h (a +ℤ pos n) =
    ap (λ m. sum_by h (int_run a m)) (sym (add-one n)) ∙ sum_push h a n in
    omega (arith, before, here, pushed)

pub window_bound : (f : ℕ → ℕ) (n b : ℕ) → ((t : ℕ) → t < n → f t ≤ b) → window f n ≤ n * b
window_bound f zero b few = omega arith
window_bound f (suc n) b few =
    let before = window_bound f n b (λ t low. few t (omega arith)) in
    let here = few n (omega arith) in
    omega (arith, before, here)
