-- Plain decimal numbers that are written and then read.
use Rattle.std.proofs.Common.{◌≡◌, ◌<◌, ◌≤◌, ℕ, ◌+◌, ◌%◌, ◌^◌, List, [], ◌∷◌, ◌++◌, length, min, true, false, refl, ap, ◌∙◌, arith, Some}
use Rattle.std.specs.Prelude.{◌==◌, decimal}
use Rattle.std.specs.Char.{is_ascii_digit}
use Rattle.std.specs.List.{list_any}
use Rattle.std.specs.Str.{all_ascii_digits}
use Rattle.std.specs.Str.Parse.{digits_value}
use Rattle.std.proofs.lemmas.Bool.{and_parts, or_from}
use Rattle.std.proofs.lemmas.Bool.Decides.{nat_tests}
use Rattle.std.proofs.lemmas.Str.Parse.{numerals_by_value, tells_all_ascii_digits}
use Rattle.std.proofs.lemmas.Fmt.{decimal_by_steps, decimal_nonempty, digits_decimal, digits_value-decimal}
use Rattle.fx_pam.specs.declared.fault.PamField.{PamField}
use Rattle.fx_pam.specs.Header.{Number, is_blank, is_space, without_spaces, number_in, number_said, number_behind}
use Rattle.fx_pam.proofs.WrittenLines.{IsLine}

digit-feed : (b : ℕ) → is_ascii_digit b ≡ true → (b == 10) ≡ false
digit-feed b is = grind (arith, nat_tests)

digit-space : (b : ℕ) → is_ascii_digit b ≡ true → is_space b ≡ false
digit-space b is = grind (arith, nat_tests)

glyph-blank : (k : ℕ) → is_blank (48 + k) ≡ false
glyph-blank k = grind (arith, nat_tests)

pub digits-line : (ds : List ℕ) → all_ascii_digits ds ≡ true → IsLine ds
digits-line [] is = refl
digits-line (b ∷ ds) is = let parts = and_parts (is_ascii_digit b) (all_ascii_digits ds) is in or_from (b == 10) (list_any (λ x. x == 10) ds) (digit-feed b parts.0) (digits-line ds parts.1)

digits-space : (ds : List ℕ) → all_ascii_digits ds ≡ true → without_spaces ds ≡ ds
digits-space [] is = refl
digits-space (b ∷ ds) is = let parts = and_parts (is_ascii_digit b) (all_ascii_digits ds) is in rw (digit-space b parts.0) refl

-- the digits end with one that is no blank
pub record EndsWell (ds : List ℕ) : Type 0 where
  pub front : List ℕ
  pub last : ℕ
  pub split : ds ≡ front ++ last ∷ []
  pub kept : is_blank last ≡ false

pub decimal-ends : (n : ℕ) → n < 2 ^ 64 → EndsWell (decimal n)
decimal-ends n small = decimal_by_steps (λ k ds. EndsWell ds)
    (λ k low. record { front = []; last = 48 + k; split = refl; kept = glyph-blank k })
    (λ k ds high is. record { front = ds; last = 48 + k % 10; split = refl; kept = glyph-blank (k % 10) })
    n small

pub decimal-digits : (n : ℕ) → n ≤ 999999999 → all_ascii_digits (decimal n) ≡ true
decimal-digits n small = digits_decimal (numerals_by_value (λ ds. all_ascii_digits ds ≡ true) tells_all_ascii_digits) n (omega arith)

number_in-decimal : (n : ℕ) → n ≤ 999999999 → number_in (decimal n) ≡ Some n
number_in-decimal n small =
    let some : 0 < length (decimal n) = decimal_nonempty n (omega arith) in
    let value : digits_value 10 (decimal n) ≡ n = digits_value-decimal (numerals_by_value (λ ds. all_ascii_digits ds ≡ true) tells_all_ascii_digits) n (omega arith) in
    let low : min n 999999999 ≡ n = omega arith in
    rw (decimal-digits n small, value, low) (grind (arith, nat_tests))

pub number_behind-decimal : (field : PamField) (n : ℕ) → n ≤ 999999999 → number_behind field (32 ∷ decimal n) ≡ Number field n
number_behind-decimal field n small = ap (λ ds. number_said field (number_in ds)) (digits-space (decimal n) (decimal-digits n small)) ∙ ap (number_said field) (number_in-decimal n small)
