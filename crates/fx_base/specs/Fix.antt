-- The text of a fixed-point number: perhaps a minus, 1 to 9 digits, and then perhaps a point and 1 to 6 digits.
use Rattle.std.specs.Prelude.{ℕ, ◌+◌, ◌-◌, ◌*◌, ◌^◌, ◌==◌, ◌&&◌, ℤ, pos, ◌+ℤ◌, ◌*ℤ◌, neg_ℤ, List, length, take, drop, slice_index, position, nat_lt, nat_le, if◌then◌else◌, Option, Some, None, option_map, option_and_then}
use Rattle.std.specs.Int.{int_div_euclid}
use Rattle.std.specs.Str.{all_ascii_digits}
use Rattle.std.specs.Str.Parse.{digits_value}

-- 1 to `most` digits: the number that they write
abbrev pub digits_up_to : ℕ → List ℕ → Option ℕ
digits_up_to most text =
    if nat_lt 0 (length text) && nat_le (length text) most && all_ascii_digits text
    then Some (digits_value 10 text)
    else None

-- the number without its sign, in millionths, where the first point stands there or nowhere
abbrev pub millionths_at : Option ℕ → List ℕ → Option ℕ
millionths_at None text = option_map (λ whole. whole * 1000000) (digits_up_to 9 text)
millionths_at (Some point) text =
    let decimals = drop (point + 1) text in
    let with_part = λ (whole part : ℕ). whole * 1000000 + part * 10 ^ (6 - length decimals) in
    option_and_then (λ whole. option_map (with_part whole) (digits_up_to 6 decimals)) (digits_up_to 9 (take point text))

abbrev pub millionths : List ℕ → Option ℕ
millionths text = millionths_at (position (λ b. b == 46) text) text

-- the floor of v * 65536 + 1/2, for v in millionths (`int_div_euclid` by a positive number is the floor)
abbrev pub rounded : ℤ → ℤ
rounded v = int_div_euclid ((pos 131072 *ℤ v) +ℤ pos 1000000) (pos 2000000)

-- the raw number that the text stands for
unfoldable pub raw_of_text : List ℕ → Option ℤ
raw_of_text text =
    if slice_index text 0 == 45
    then option_map (λ m. rounded (neg_ℤ (pos m))) (millionths (drop 1 text))
    else option_map (λ m. rounded (pos m)) (millionths text)
