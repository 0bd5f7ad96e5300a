-- The header of a PAM file (Netpbm, the manual page "pam"), by its lines. Which spaces, empty lines, comments and repeated lines it may have is this host's own choice.
use Rattle.std.specs.Prelude.{ℕ, ◌+◌, ◌==◌, ◌&&◌, ◌||◌, min, nat_lt, nat_eq, List, [], ◌∷◌, reverse, length, drop, codes, Bool, true, if◌then◌else◌, Option, Some, None, is_some}
use Rattle.std.specs.List.{starts_with}
use Rattle.std.specs.Str.{bytes_eq, all_ascii_digits}
use Rattle.std.specs.Str.Parse.{digits_value}
use Rattle.fx_pam.specs.declared.fault.PamField.{PamField}
use Rattle.fx_pam.specs.declared.numbers.HeaderSoFar.{HeaderSoFar}
use Rattle.fx_pam.specs.declared.numbers.HeaderNumbers.{HeaderNumbers}
use Rattle.fx_pam.specs.declared.fault.PamField.TheVariants.{Width, Height, Depth, Maxval}

-- a line without its line feed, and the bytes behind it
pub record HeaderLine : Type 0 where
  pub line : List ℕ
  pub behind : List ℕ

-- the first byte of a line goes before its others
abbrev pub with_first : ℕ → List HeaderLine → List HeaderLine
with_first b [] = []
with_first b (p ∷ lines) = record { line = b ∷ p.line; behind = p.behind } ∷ lines

-- the lines that a line feed ends; what stands behind the last one is no line
abbrev pub lines_of : List ℕ → List HeaderLine
lines_of [] = []
lines_of (b ∷ bytes) =
    if b == 10 then record { line = []; behind = bytes } ∷ lines_of bytes else with_first b (lines_of bytes)

-- a space, a tab or a carriage return
abbrev pub is_blank : ℕ → Bool
is_blank b = (b == 32) || (b == 9) || (b == 13)

abbrev pub without_blanks : List ℕ → List ℕ
without_blanks [] = []
without_blanks (b ∷ line) = if is_blank b then without_blanks line else b ∷ line

-- a line without the blanks at both ends
abbrev pub trimmed : List ℕ → List ℕ
trimmed line = reverse (without_blanks (reverse (without_blanks line)))

-- What a line says: nothing (it is empty, a comment, or about the tuple type), the end of the header, a number under one of the four words, or nothing that a header may say.
pub data Saying : Type 0 where
  Nothing : Saying
  End : Saying
  Number : PamField → ℕ → Saying
  Wrong : Saying

-- a space or a tab
abbrev pub is_space : ℕ → Bool
is_space b = (b == 32) || (b == 9)

abbrev pub without_spaces : List ℕ → List ℕ
without_spaces [] = []
without_spaces (b ∷ rest) = if is_space b then without_spaces rest else b ∷ rest

-- one or more decimal digits: their number, where one above 999,999,999 counts as that
abbrev pub number_in : List ℕ → Option ℕ
number_in digits =
    if nat_lt 0 (length digits) && all_ascii_digits digits
    then Some (min (digits_value 10 digits) 999999999)
    else None

abbrev pub number_said : PamField → Option ℕ → Saying
number_said field (Some n) = Number field n
number_said field None = Wrong

-- behind the word stand spaces or tabs, and then a number
abbrev pub number_behind : PamField → List ℕ → Saying
number_behind field [] = Wrong
number_behind field (b ∷ rest) = if is_space b then number_said field (number_in (without_spaces rest)) else Wrong

abbrev pub tuple_type_behind : List ℕ → Saying
tuple_type_behind [] = Nothing
tuple_type_behind (b ∷ rest) = if is_space b then Nothing else Wrong

abbrev pub starts_comment : List ℕ → Bool
starts_comment [] = true
starts_comment (b ∷ rest) = b == 35

-- what a trimmed line says
abbrev pub saying_of : List ℕ → Saying
saying_of line =
    if starts_comment line then Nothing
    else if bytes_eq line (codes "ENDHDR") then End
    else if starts_with nat_eq line (codes "WIDTH") then number_behind Width (drop 5 line)
    else if starts_with nat_eq line (codes "HEIGHT") then number_behind Height (drop 6 line)
    else if starts_with nat_eq line (codes "DEPTH") then number_behind Depth (drop 5 line)
    else if starts_with nat_eq line (codes "MAXVAL") then number_behind Maxval (drop 6 line)
    else if starts_with nat_eq line (codes "TUPLTYPE") then tuple_type_behind (drop 8 line)
    else Wrong

-- No numbers yet. `HeaderSoFar` are those that the lines so far gave.
abbrev pub no_numbers : HeaderSoFar
no_numbers = record { width = None; height = None; depth = None; maxval = None }

abbrev pub number_of : HeaderSoFar → PamField → Option ℕ
number_of n Width = n.width
number_of n Height = n.height
number_of n Depth = n.depth
number_of n Maxval = n.maxval

abbrev pub with_number : HeaderSoFar → PamField → ℕ → HeaderSoFar
with_number n Width v = record n { width = Some v }
with_number n Height v = record n { height = Some v }
with_number n Depth v = record n { depth = Some v }
with_number n Maxval v = record n { maxval = Some v }

abbrev pub complete_from : Option ℕ → Option ℕ → Option ℕ → Option ℕ → Option HeaderNumbers
complete_from (Some w) (Some h) (Some d) (Some m) = Some (record { width = w; height = h; depth = d; maxval = m })
complete_from _ _ _ _ = None

-- all four numbers, where none is missing
abbrev pub complete : HeaderSoFar → Option HeaderNumbers
complete n = complete_from n.width n.height n.depth n.maxval

-- a header's numbers with the bytes behind it, or the number of its first wrong line
pub data HeaderReading : Type 0 where
  Reads : HeaderNumbers → List ℕ → HeaderReading
  IsWrongAt : ℕ → HeaderReading

-- the end of the header is wrong while a number is missing
abbrev pub header_from : ℕ → Option HeaderNumbers → List ℕ → HeaderReading
header_from line (Some numbers) behind = Reads numbers behind
header_from line None behind = IsWrongAt line

-- what a line leads to, where `next` reads the lines behind it: a word's second line is wrong
abbrev pub header_by : ℕ → HeaderSoFar → Saying → List ℕ → (ℕ → HeaderSoFar → HeaderReading) → HeaderReading
header_by line n Nothing behind next = next (line + 1) n
header_by line n End behind next = header_from line (complete n) behind
header_by line n (Number field v) behind next =
    if is_some (number_of n field) then IsWrongAt line else next (line + 1) (with_number n field v)
header_by line n Wrong behind next = IsWrongAt line

-- The lines from line number `line` on, where these numbers were given before. What stands behind the last line feed is wrong.
abbrev pub header_of : ℕ → HeaderSoFar → List HeaderLine → HeaderReading
header_of line n [] = IsWrongAt line
header_of line n (p ∷ lines) = header_by line n (saying_of (trimmed p.line)) p.behind (λ l m. header_of l m lines)
