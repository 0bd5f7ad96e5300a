-- The files that are made of a number, and the number that digits write.
use Rattle.std.proofs.Common.{◌≡◌, ◌≤◌, ◌<◌, ◌+◌, ◌-◌, ◌^◌, ℕ, zero, suc, Bool, true, false, ◌&&◌, List, [], ◌∷◌, ◌++◌, length, map, Some, refl, sym, ap, subst, ◌∙◌, arith}
use Rattle.std.specs.Prelude.{nat_le, Result, Ok, Err, unwrap_or}
use Rattle.std.specs.Result.{result_unwrap_or}
use Rattle.std.specs.List.{list_all, range_with_len}
use Rattle.std.specs.Char.{is_ascii_digit, digit_value}
use Rattle.std.specs.Str.{bytes_eq}
use Rattle.std.specs.Str.Parse.{AllDigits, IsNumeral, ParsesUnsigned, digits_value, without_leading_plus}
use Rattle.std.specs.declared.alloc.Global.{Global}
use Rattle.std.specs.declared.vec.Vec.{Vec}
use Rattle.std.proofs.lemmas.Bool.{and_parts}
use Rattle.std.proofs.lemmas.Bool.Decides.{nat_tests}
use Rattle.std.proofs.lemmas.Int.Digits.{digits_value-lt}
use Rattle.std.proofs.lemmas.List.FromFn.{map-range_with_len_more}
use Rattle.fx_outside.specs.Memory.{first_of}
use Rattle.fx_outside.specs.Sure.{or_empty}
use Rattle.fx_bench.specs.Frames.{file_of}
use Rattle.fx_modes.specs.Bench.{files_in, number_of, made_files, made_of}
use Rattle.fx_words.specs.Order.{is_bench_number}

-- ---- files

-- what a list of files has under a name
pub first_is : (files : List (List ℕ × Vec ℕ Global)) (name : List ℕ) → first_of files name ≡ files_in (map file_of files) name
first_is [] name = refl
first_is (file ∷ files) name = by (bytes_eq file.0 name) refl (first_is files name)
  where
    by : (b : Bool) → bytes_eq file.0 name ≡ b → first_of files name ≡ files_in (map file_of files) name
        → first_of (file ∷ files) name ≡ files_in (map file_of (file ∷ files)) name
    by true e rest = rw e refl
    by false e rest = rw e rest

-- the files that are made are found under their names
pub made_found : (files : List (List ℕ × Vec ℕ Global)) (word : List ℕ) → map file_of files ≡ made_files word
    → (name : List ℕ) → or_empty (first_of files) name ≡ made_of word name
made_found files word are name =
    ap (λ o. Some (unwrap_or o [])) (first_is files name ∙ ap (λ fs. files_in fs name) are)

-- ---- digits

digit : (c : ℕ) → is_ascii_digit c ≡ true → (48 ≤ c) × (c ≤ 57)
digit c is = grind (arith, nat_tests)

digit_small : (c : ℕ) → 48 ≤ c → c ≤ 57 → digit_value c < 10
digit_small c low high = grind (arith, nat_tests)

all_digits : (word : List ℕ) → list_all is_ascii_digit word ≡ true → AllDigits 10 word
all_digits [] is = tt
all_digits (c ∷ word) is =
    let parts = and_parts (is_ascii_digit c) (list_all is_ascii_digit word) is in
    let d = digit c parts.0 in
    (digit_small c d.0 d.1, all_digits word parts.1)

-- a word that begins with a digit has no plus in front
no_plus : (word : List ℕ) → list_all is_ascii_digit word ≡ true → without_leading_plus word ≡ word
no_plus [] is = refl
no_plus (c ∷ word) is =
    let d = digit c (and_parts (is_ascii_digit c) (list_all is_ascii_digit word) is).0 in
    grind (arith, nat_tests)

short_power : (n m : ℕ) → n ≤ 6 → m < 10 ^ n → m ≤ 999999
short_power zero m few low = omega (arith, low)
short_power (suc zero) m few low = omega (arith, low)
short_power (suc (suc zero)) m few low = omega (arith, low)
short_power (suc (suc (suc zero))) m few low = omega (arith, low)
short_power (suc (suc (suc (suc zero)))) m few low = omega (arith, low)
short_power (suc (suc (suc (suc (suc zero))))) m few low = omega (arith, low)
short_power (suc (suc (suc (suc (suc (suc zero)))))) m few low = omega (arith, low)
short_power (suc (suc (suc (suc (suc (suc (suc n))))))) m few low = absurd (omega (arith, few))

digits_of : (word : List ℕ) → is_bench_number word ≡ true → list_all is_ascii_digit word ≡ true
digits_of word is = (and_parts (nat_le 1 (length word) && nat_le (length word) 6) (list_all is_ascii_digit word) is).1

-- one to six digits are a numeral, and its number is small
pub is_numeral : (word : List ℕ) → is_bench_number word ≡ true → (0 < length word) × AllDigits 10 word × (number_of word ≤ 999999)
is_numeral word is =
    let parts = and_parts (nat_le 1 (length word) && nat_le (length word) 6) (list_all is_ascii_digit word) is in
    let sides = and_parts (nat_le 1 (length word)) (nat_le (length word) 6) parts.0 in
    let some : 0 < length word = let t = sides.0 in grind (arith, nat_tests) in
    let few : length word ≤ 6 = let t = sides.1 in grind (arith, nat_tests) in
    let digits = all_digits word parts.1 in
    (some, digits, short_power (length word) (number_of word) few (digits_value-lt 10 word digits))

module _ {E : Type 0} where
  -- what is read of one to six digits is their number
  pub number_read : (word : List ℕ) (d : ℕ) (r : Result ℕ E) → is_bench_number word ≡ true → ParsesUnsigned 32 10 word r
      → result_unwrap_or r d ≡ number_of word
  number_read word d (Ok n) is p = p.1 ∙ ap (digits_value 10) (no_plus word (digits_of word is))
  number_read word d (Err e) is p =
      let n = is_numeral word is in
      let same = no_plus word (digits_of word is) in
      absurd (p (subst (λ w. IsNumeral 10 w × (digits_value 10 w < 2 ^ 32)) (sym same) ((n.0, n.1), let low = n.2 in omega (arith, low))))

-- ---- names

-- one name more
pub name_added : (name : ℕ → List ℕ) (a t : ℕ) (old new : List (List ℕ)) → a ≤ t → old ≡ map name (range_with_len a (t - a))
    → new ≡ old ++ name t ∷ [] → new ≡ map name (range_with_len a (t + 1 - a))
name_added name a t old new from are added =
    let more : t - a + 1 ≡ t + 1 - a = omega (arith, from) in
    added ∙ ap (λ ns. ns ++ name t ∷ []) are ∙ sym (map-range_with_len_more name a (t - a) t (omega (arith, from)))
    ∙ ap (λ n. map name (range_with_len a n)) more
