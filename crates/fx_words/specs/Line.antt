-- A command line as people write it: words, and options each with its value behind it.
use Rattle.std.specs.Prelude.{◌≡◌, ◌==◌, Bool, true, not, if◌then◌else◌, List, [], ◌∷◌, length, All}
use Rattle.std.specs.Prelude.{Option, Some, None, codes}
use Rattle.std.specs.Str.{bytes_eq}
use Rattle.clap.specs.Walk.{Text}
use Rattle.fx_words.specs.Order.{order_of}

pub data Setting : Type 0 where
  first : Setting
  last : Setting
  tile : Setting
  cache : Setting
  workers : Setting
  ahead : Setting
  scale : Setting

abbrev pub id_of : Setting → Text
id_of first = codes "first"
id_of last = codes "last"
id_of tile = codes "tile"
id_of cache = codes "cache"
id_of workers = codes "workers"
id_of ahead = codes "ahead"
id_of scale = codes "scale"

pub data Argument : Type 0 where
  word : Text → Argument
  option : Setting → Text → Argument

-- the words of a line: `--name` and a value for each option
abbrev pub words_of : List Argument → List Text
words_of [] = []
words_of (word text ∷ arguments) = text ∷ words_of arguments
words_of (option setting value ∷ arguments) = (45 ∷ 45 ∷ id_of setting) ∷ value ∷ words_of arguments

-- the words that stand alone
abbrev pub words_in : List Argument → List Text
words_in [] = []
words_in (word text ∷ arguments) = text ∷ words_in arguments
words_in (option setting value ∷ arguments) = words_in arguments

-- the value that a setting is given, or none
abbrev pub value_in : Setting → List Argument → Option Text
value_in wanted [] = None
value_in wanted (word text ∷ arguments) = value_in wanted arguments
value_in wanted (option setting value ∷ arguments) =
    if bytes_eq (id_of setting) (id_of wanted) then Some value else value_in wanted arguments

-- no setting stands twice
abbrev pub AreOnce : List Argument → Type 0
AreOnce [] = Unit {0}
AreOnce (word text ∷ arguments) = AreOnce arguments
AreOnce (option setting value ∷ arguments) = (value_in setting arguments ≡ None) × AreOnce arguments

-- a word or a value doesn't begin with a hyphen
abbrev pub is_plain : Text → Bool
is_plain [] = true
is_plain (byte ∷ bytes) = not (byte == 45)

abbrev pub IsPlain : Argument → Type 0
IsPlain (word text) = is_plain text ≡ true
IsPlain (option setting value) = is_plain value ≡ true

-- the mode and the graph, and each setting at most once
pub record IsLine (arguments : List Argument) : Type 0 where
  pub two : length (words_in arguments) ≡ 2
  pub once : AreOnce arguments
  pub plain : All IsPlain arguments

-- lines of the same words in the same order that give each setting the same value, wherever they give it, order
-- the same
abbrev pub OptionsInAnyOrder : Type 0
OptionsInAnyOrder =
    (one other : List Argument) → IsLine one → IsLine other → words_in one ≡ words_in other
    → ((s : Setting) → value_in s one ≡ value_in s other) → order_of (words_of one) ≡ order_of (words_of other)
