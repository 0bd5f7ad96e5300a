-- What the members of an object are, or the first fault.
use Rattle.std.specs.Prelude.{ℕ, suc, ◌+◌, nat_le, ℤ, pos, negsuc, Bool, true, false, ◌&&◌, if◌then◌else◌}
use Rattle.std.specs.Prelude.{List, [], ◌∷◌, codes, length, Option, Some, None, is_some, option_and_then, Result, Ok, Err, ⊤}
use Rattle.std.specs.List.{list_any}
use Rattle.std.specs.Str.{bytes_eq, is_utf8}
use Rattle.serde_json.specs.Read.{read}
use Rattle.fx_pixel.specs.declared.Depth.{Depth}
use Rattle.fx_pixel.specs.declared.Depth.TheVariants as depth
use Rattle.fx_pixel.specs.declared.Components.{Components}
use Rattle.fx_pixel.specs.declared.Components.TheVariants as components
use Rattle.fx_pixel.specs.declared.Format.{Format}
use Rattle.fx_pixel.specs.declared.Format.TheVariants as format
use Rattle.serde_json.specs.Data.{Data, Items, no_items, item, Members, no_members, member}
use Rattle.serde_json.specs.Find.{get, as_str, as_number, as_integer, as_array, as_object}
use Rattle.fx_text.specs.Fault.{Fault}
use Rattle.fx_text.specs.declared.fault.GraphCode.TheVariants.{WrongForm, NumberOutOfRange}
use Rattle.fx_text.specs.Paths.{joined}

-- one reading after another: the first fault counts
abbrev pub after : {A B : Type 0} → Result A Fault → (A → Result B Fault) → Result B Fault
after (Ok a) next = next a
after (Err fault) next = Err fault

abbrev pub wrong_at : List ℕ → List ℕ → Fault
wrong_at path key = record { code = WrongForm; path = (joined path key) }

abbrev pub range_at : List ℕ → List ℕ → Fault
range_at path key = record { code = NumberOutOfRange; path = (joined path key) }

-- ---- objects

-- the key is one of these
abbrev pub is_among : List (List ℕ) → List ℕ → Bool
is_among keys key = list_any (λ k. bytes_eq k key) keys

-- the first member that is none of these; members stand in byte order
abbrev pub unknown : List (List ℕ) → Members → Option (List ℕ)
unknown keys no_members = None
unknown keys (member k d ms) = if is_among keys k then unknown keys ms else Some k

abbrev pub none_unknown : List ℕ → Option (List ℕ) → Result ⊤ Fault
none_unknown path None = Ok tt
none_unknown path (Some key) = Err (wrong_at path key)

abbrev pub check_members : List ℕ → List (List ℕ) → Option Members → Result ⊤ Fault
check_members path keys None = Err (record { code = WrongForm; path = path })
check_members path keys (Some ms) = none_unknown path (unknown keys ms)

-- an object that has no other members than these
abbrev pub check_object : List ℕ → List (List ℕ) → Data → Result ⊤ Fault
check_object path keys d = check_members path keys (as_object d)

-- ---- whole numbers

-- the whole number at a key, of any size
abbrev pub integer_at : List ℕ → Data → Option ℤ
integer_at key d = option_and_then as_integer (option_and_then as_number (get key d))

abbrev pub whole_within : ℕ → ℕ → ℤ → Option ℕ
whole_within least most (pos n) = if nat_le least n && nat_le n most then Some n else None
whole_within least most (negsuc n) = None

abbrev pub or_range : {A : Type 0} → List ℕ → List ℕ → Option A → Result A Fault
or_range path key (Some a) = Ok a
or_range path key None = Err (range_at path key)

-- what is read at a key, where it is of the form
abbrev pub word_at : {A : Type 0} → List ℕ → List ℕ → Option A → Result A Fault
word_at path key (Some a) = Ok a
word_at path key None = Err (wrong_at path key)

-- a whole number from the least to the most
abbrev pub whole_at : List ℕ → List ℕ → ℕ → ℕ → Data → Result ℕ Fault
whole_at path key least most d =
    after (word_at path key (integer_at key d)) (λ z. or_range path key (whole_within least most z))

-- ---- texts and words

abbrev pub text_at : List ℕ → List ℕ → Data → Result (List ℕ) Fault
text_at path key d = word_at path key (option_and_then as_str (get key d))

abbrev pub depth_of : List ℕ → Option Depth
depth_of text =
    if bytes_eq text (codes "byte") then Some depth.Byte else
    if bytes_eq text (codes "short") then Some depth.Short else None

abbrev pub components_of : List ℕ → Option Components
components_of text =
    if bytes_eq text (codes "RGBA") then Some components.Rgba else
    if bytes_eq text (codes "Alpha") then Some components.Alpha else None

abbrev pub depth_at : List ℕ → List ℕ → Data → Result Depth Fault
depth_at path key d = after (text_at path key d) (λ text. word_at path key (depth_of text))

abbrev pub components_at : List ℕ → List ℕ → Data → Result Components Fault
components_at path key d = after (text_at path key d) (λ text. word_at path key (components_of text))

abbrev pub format_of : List ℕ → Option Format
format_of text =
    if bytes_eq text (codes "RGB_ALPHA") then Some format.RgbAlpha else
    if bytes_eq text (codes "RGB") then Some format.Rgb else
    if bytes_eq text (codes "GRAYSCALE") then Some format.Grayscale else None

abbrev pub format_at : List ℕ → List ℕ → Data → Result Format Fault
format_at path key d = after (text_at path key d) (λ text. word_at path key (format_of text))

-- a text of 1 to 64 bytes
abbrev pub short : List ℕ → Option (List ℕ)
short text = if nat_le 1 (length text) && nat_le (length text) 64 then Some text else None

-- a value that is a text of 1 to 64 bytes
abbrev pub short_of : List ℕ → Data → Result (List ℕ) Fault
short_of path d = after (word_at [] path (as_str d)) (λ text. or_range [] path (short text))

abbrev pub short_at : List ℕ → List ℕ → Data → Result (List ℕ) Fault
short_at path key d = after (text_at path key d) (λ text. or_range path key (short text))

abbrev pub outside_of : List ℕ → Option Bool
outside_of text =
    if bytes_eq text (codes "black") then Some false else
    if bytes_eq text (codes "hold") then Some true else None

-- ---- members that may be absent

abbrev pub has : List ℕ → Data → Bool
has key d = is_some (get key d)

abbrev pub depth_or : List ℕ → List ℕ → Depth → Data → Result Depth Fault
depth_or path key default d = if has key d then depth_at path key d else Ok default

abbrev pub components_or : List ℕ → List ℕ → Components → Data → Result Components Fault
components_or path key default d = if has key d then components_at path key d else Ok default

abbrev pub hold_at : List ℕ → List ℕ → Data → Result Bool Fault
hold_at path key d =
    if has key d then after (text_at path key d) (λ text. word_at path key (outside_of text)) else Ok false

-- ---- lists

abbrev pub count_of : Items → ℕ
count_of no_items = 0
count_of (item d ds) = suc (count_of ds)

abbrev pub few : ℕ → ℕ → Items → Option Items
few least most items = if nat_le least (count_of items) && nat_le (count_of items) most then Some items else None

-- a list of so many items at least and at most
abbrev pub list_at : List ℕ → List ℕ → ℕ → ℕ → Data → Result Items Fault
list_at path key least most d =
    after (word_at path key (option_and_then as_array (get key d))) (λ items.
    or_range path key (few least most items))

-- the same, of which there are none where the member is absent
abbrev pub list_or : List ℕ → List ℕ → ℕ → ℕ → Data → Result Items Fault
list_or path key least most d = if has key d then list_at path key least most d else Ok no_items

abbrev pub member_at : List ℕ → List ℕ → Data → Result Data Fault
member_at path key d = word_at path key (get key d)

-- each item by its number, from k on
abbrev pub read_items : {A : Type 0} → (ℕ → Data → Result A Fault) → ℕ → Items → Result (List A) Fault
read_items read k no_items = Ok []
read_items read k (item d ds) =
    after (read k d) (λ a. after (read_items read (k + 1) ds) (λ more. Ok (a ∷ more)))

-- each member by its name, in byte order
abbrev pub read_members : {A : Type 0} → (List ℕ → Data → Result A Fault) → Members → Result (List A) Fault
read_members read no_members = Ok []
read_members read (member k d ms) =
    after (read k d) (λ a. after (read_members read ms) (λ more. Ok (a ∷ more)))

-- the value of bytes, or None where they are no JSON text
abbrev pub value_of : List ℕ → Option Data
value_of bytes = if is_utf8 bytes then read bytes else None
