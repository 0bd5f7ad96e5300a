-- A pattern with a run of signs gives different frames different names.
use Rattle.std.specs.Prelude.{◌≡◌, ℕ, ◌+◌, ◌-◌, ◌<◌, ◌^◌, List, [], ◌∷◌, ◌++◌, length, replicate, Bool, true, false, not, ◌&&◌, decimal, nat_lt}
use Rattle.std.specs.List.{before_first, after_first, position_or_len}
use Rattle.std.specs.Str.Parse.{digits_value}
use Rattle.std.proofs.Common.{zero, suc, cond, refl, sym, ap, ◌∙◌, arith, ⊎_elim}
use Rattle.std.proofs.lemmas.Bool.{cases_Bool, cond-true}
use Rattle.std.proofs.lemmas.Fmt.{decimal_is_IsNumeral}
use Rattle.std.proofs.lemmas.List.{append_cancel_left, append_cancel_right}
use Rattle.fx_base.specs.Pattern.{is_sign, runs, runs_after, without_signs, signs_in_front, padded_decimal, name_of}

-- leading zeros don't change a number
zeros_in_front : (n : ℕ) (text : List ℕ) → digits_value 10 (replicate n 48 ++ text) ≡ digits_value 10 text
zeros_in_front zero text = refl
zeros_in_front (suc n) text = zeros_in_front n text

padded_decimal-value : (width n : ℕ) → n < 2 ^ 64 → digits_value 10 (padded_decimal width n) ≡ n
padded_decimal-value width n small = zeros_in_front (width - length (decimal n)) (decimal n) ∙ (decimal_is_IsNumeral n small).1

padded_decimal-apart : (width m n : ℕ) → m < 2 ^ 64 → n < 2 ^ 64 → padded_decimal width m ≡ padded_decimal width n → m ≡ n
padded_decimal-apart width m n small_m small_n same =
    sym (padded_decimal-value width m small_m) ∙ ap (digits_value 10) same ∙ padded_decimal-value width n small_n

-- a text with no sign has no run of signs
no_run_step : (sign was : Bool) (place long rest : ℕ) → nat_lt (cond (not sign) (1 + place) 0) (suc long) ≡ false → (nat_lt place long ≡ false → rest ≡ 0) → cond (sign && not was) 1 0 + rest ≡ 0
no_run_step true was place long rest none others = absurd (grind arith)
no_run_step false was place long rest none others = let e = others (grind arith) in omega arith

no_run : (was : Bool) (text : List ℕ) → nat_lt (position_or_len is_sign text) (length text) ≡ false → runs_after was text ≡ 0
no_run was [] none = refl
no_run was (b ∷ text) none =
    no_run_step (is_sign b) was (position_or_len is_sign text) (length text) (runs_after (is_sign b) text) none (no_run (is_sign b) text)

pub name_of-apart : (text : List ℕ) (m n : ℕ) → runs text ≡ 1 → m < 2 ^ 64 → n < 2 ^ 64 → name_of text m ≡ name_of text n → m ≡ n
name_of-apart text m n one small_m small_n same =
    ⊎_elim
    (λ some.
    let behind = after_first is_sign text in
    let width = 1 + signs_in_front behind in
    let before = before_first is_sign text in
    let rest = without_signs behind in
    let there = cond-true (nat_lt (position_or_len is_sign text) (length text)) (before ++ padded_decimal width m ++ rest) text some in
    let here = cond-true (nat_lt (position_or_len is_sign text) (length text)) (before ++ padded_decimal width n ++ rest) text some in
    padded_decimal-apart width m n small_m small_n
    (append_cancel_left before _ _ (append_cancel_right (before ++ padded_decimal width m) (before ++ padded_decimal width n) rest (sym there ∙ same ∙ here))))
    (λ none. let zero_runs = no_run false text none in absurd (omega arith))
    (cases_Bool (nat_lt (position_or_len is_sign text) (length text)))
