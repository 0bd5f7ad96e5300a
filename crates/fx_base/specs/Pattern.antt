-- Patterns of file names: texts with at most one run of `#`, where a frame's number goes.
use Rattle.std.specs.Prelude.{ℕ, ◌+◌, ◌-◌, ◌==◌, ◌&&◌, List, [], ◌∷◌, ◌++◌, length, replicate, Bool, false, not, Option, Some, None, if◌then◌else◌, decimal, nat_lt, nat_le}
use Rattle.fx_base.specs.declared.limits.TheConstants.{MOST_PATTERN_BYTES}
use Rattle.std.specs.List.{list_any, before_first, after_first, position_or_len}

-- a `#`
abbrev pub is_sign : ℕ → Bool
is_sign b = b == 35

-- how many runs of signs there are, where a sign stood before or not
abbrev pub runs_after : Bool → List ℕ → ℕ
runs_after was [] = 0
runs_after was (b ∷ text) = (if is_sign b && not was then 1 else 0) + runs_after (is_sign b) text

abbrev pub runs : List ℕ → ℕ
runs text = runs_after false text

-- not empty, at most 1,024 bytes, no byte 0, at most one run of signs
abbrev pub is_pattern : List ℕ → Bool
is_pattern text =
    nat_lt 0 (length text) && nat_le (length text) MOST_PATTERN_BYTES && not (list_any (λ b. b == 0) text)
    && nat_le (runs text) 1

-- the pattern of a text
abbrev pub pattern_of : List ℕ → Option (List ℕ)
pattern_of text = if is_pattern text then Some text else None

-- what stands behind the signs in front
abbrev pub without_signs : List ℕ → List ℕ
without_signs [] = []
without_signs (b ∷ text) = if is_sign b then without_signs text else b ∷ text

-- how many signs stand in front
abbrev pub signs_in_front : List ℕ → ℕ
signs_in_front text = length text - length (without_signs text)

-- a number in decimal, with leading zeros to this many digits at least
abbrev pub padded_decimal : ℕ → ℕ → List ℕ
padded_decimal width n = replicate (width - length (decimal n)) 48 ++ decimal n

-- where the text has a sign, its run of signs is replaced by the frame's number, of as many digits as there are
-- signs at least
abbrev pub name_of : List ℕ → ℕ → List ℕ
name_of text frame =
    if nat_lt (position_or_len is_sign text) (length text)
    then (let behind = after_first is_sign text in
    before_first is_sign text ++ padded_decimal (1 + signs_in_front behind) frame ++ without_signs behind)
    else text
