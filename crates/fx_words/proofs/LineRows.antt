-- The rows that clap keeps of a line: one for each argument, with no name twice.
use Rattle.std.proofs.Common.{◌≡◌, ◌∙◌, refl, sym, ap, ℕ, zero, suc, ◌+◌, arith, Bool, true, false, ◌||◌}
use Rattle.std.proofs.Common.{List, [], ◌∷◌, ◌++◌, length, Some, None, option_map, slice_get, codes, find}
use Rattle.std.specs.Str.{bytes_eq}
use Rattle.std.proofs.lemmas.Slice.Eq.{bytes_eq-Decides}
use Rattle.clap.specs.Walk.{Row, Text, has_row, without, with_values}
use Rattle.clap.specs.declared.builder.value_parser.Reading.{Reading}
use Rattle.clap.specs.declared.builder.value_parser.Reading.TheVariants as reading
use Rattle.clap.specs.declared.parser.matches.ValueSource.TheVariants.{CommandLine}
use Rattle.fx_words.specs.Line.{Setting, first, last, tile, cache, workers, ahead, scale, id_of, Argument, word, option, words_in, value_in, AreOnce}

-- a row of one value from the words
abbrev pub row : Reading → Text → Text → Row
row how id value = record { id = id; values = value ∷ []; count = None; source = Some CommandLine; reading = how }

-- the positional that takes the word after so many
abbrev pub place_of : ℕ → Text
place_of zero = codes "mode"
place_of (suc k) = codes "graph"

abbrev pub word_row : ℕ → Text → Row
word_row k = row reading.AsWritten (place_of k)

abbrev pub option_row : Setting → Text → Row
option_row s = row reading.WithoutMinus (id_of s)

-- the rows of the arguments after k words
abbrev pub rows_from : ℕ → List Argument → List Row
rows_from k [] = []
rows_from k (word text ∷ ps) = word_row k text ∷ rows_from (suc k) ps
rows_from k (option s value ∷ ps) = option_row s value ∷ rows_from k ps

-- ---- a new row goes to the end

pub or_false : (a b : Bool) → (a || b) ≡ false → (a ≡ false) × (b ≡ false)
or_false true b is = cc
or_false false b is = (refl, is)

without_none : (id : Text) (rows : List Row) → has_row id rows ≡ false → without id rows ≡ rows
without_none id [] none = refl
without_none id (r ∷ rs) none =
    let both = or_false (bytes_eq r.id id) (has_row id rs) none in
    rw (both.0, without_none id rs both.1) refl

with_none : (how : Reading) (id value : Text) (rows : List Row) → has_row id rows ≡ false
    → with_values id how CommandLine (value ∷ []) rows ≡ rows ++ row how id value ∷ []
with_none how id value [] none = refl
with_none how id value (r ∷ rs) none =
    let both = or_false (bytes_eq r.id id) (has_row id rs) none in
    rw (both.0, with_none how id value rs both.1) refl

pub added : (how : Reading) (id value : Text) (rows : List Row) → has_row id rows ≡ false
    → with_values id how CommandLine (value ∷ []) (without id rows) ≡ rows ++ row how id value ∷ []
added how id value rows none =
    ap (with_values id how CommandLine (value ∷ [])) (without_none id rows none) ∙ with_none how id value rows none

-- ---- rows with no name twice

abbrev pub AreDistinct : List Row → Type 0
AreDistinct [] = Unit {0}
AreDistinct (r ∷ rs) = (has_row r.id rs ≡ false) × AreDistinct rs

apart : (a b : Text) → bytes_eq a b ≡ false → bytes_eq b a ≡ false
apart a b is = go (bytes_eq b a) refl
  where
    go : (t : Bool) → bytes_eq b a ≡ t → bytes_eq b a ≡ false
    go false e = e
    go true e =
        let same : bytes_eq a b ≡ true = (bytes_eq-Decides a b).1 (sym ((bytes_eq-Decides b a).0 e)) in
        cc

has_not : (id : Text) (before : List Row) (r : Row) (rest : List Row) → has_row id (before ++ r ∷ rest) ≡ false → bytes_eq r.id id ≡ false
has_not id [] r rest none = (or_false (bytes_eq r.id id) (has_row id rest) none).0
has_not id (s ∷ before) r rest none =
    has_not id before r rest (or_false (bytes_eq s.id id) (has_row id (before ++ r ∷ rest)) none).1

pub is_new : (before : List Row) (r : Row) (rest : List Row) → AreDistinct (before ++ r ∷ rest) → has_row r.id before ≡ false
is_new [] r rest distinct = refl
is_new (s ∷ before) r rest distinct =
    rw (apart r.id s.id (has_not s.id before r rest distinct.0), is_new before r rest distinct.1) refl

-- ---- the rows of a line

other_place : (k : ℕ) (s : Setting) → bytes_eq (place_of k) (id_of s) ≡ false
other_place zero first = refl
other_place zero last = refl
other_place zero tile = refl
other_place zero cache = refl
other_place zero workers = refl
other_place zero ahead = refl
other_place zero scale = refl
other_place (suc k) first = refl
other_place (suc k) last = refl
other_place (suc k) tile = refl
other_place (suc k) cache = refl
other_place (suc k) workers = refl
other_place (suc k) ahead = refl
other_place (suc k) scale = refl

other_setting : (k : ℕ) (s : Setting) → bytes_eq (id_of s) (place_of k) ≡ false
other_setting k s = apart (place_of k) (id_of s) (other_place k s)

-- the row of a setting has its value
pub setting_found : (s : Setting) (k : ℕ) (ps : List Argument)
    → find (λ r. bytes_eq r.id (id_of s)) (rows_from k ps) ≡ option_map (option_row s) (value_in s ps)
setting_found s k [] = refl
setting_found s k (word text ∷ ps) = rw (other_place k s) (setting_found s (suc k) ps)
setting_found s k (option t value ∷ ps) = go (bytes_eq (id_of t) (id_of s)) refl (setting_found s k ps)
  where
    go : (b : Bool) → bytes_eq (id_of t) (id_of s) ≡ b
        → find (λ r. bytes_eq r.id (id_of s)) (rows_from k ps) ≡ option_map (option_row s) (value_in s ps)
        → find (λ r. bytes_eq r.id (id_of s)) (rows_from k (option t value ∷ ps)) ≡ option_map (option_row s) (value_in s (option t value ∷ ps))
    go false e rest = rw e rest
    go true e rest =
        let same : id_of t ≡ id_of s = (bytes_eq-Decides (id_of t) (id_of s)).0 e in
        rw e (ap (λ (id : Text). Some (row reading.WithoutMinus id value)) same)

none_found : (id : Text) (rows : List Row) → find (λ r. bytes_eq r.id id) rows ≡ None → has_row id rows ≡ false
none_found id [] none = refl
none_found id (r ∷ rs) none = go (bytes_eq r.id id) refl (none_found id rs)
  where
    go : (b : Bool) → bytes_eq r.id id ≡ b → (find (λ x. bytes_eq x.id id) rs ≡ None → has_row id rs ≡ false)
        → has_row id (r ∷ rs) ≡ false
    go false e rest = rw e (rest (rw e at none))
    go true e rest = let bad = rw e at none in cc

no_setting : (s : Setting) (k : ℕ) (ps : List Argument) → value_in s ps ≡ None → has_row (id_of s) (rows_from k ps) ≡ false
no_setting s k ps none = none_found (id_of s) (rows_from k ps) (setting_found s k ps ∙ ap (option_map (option_row s)) none)

no_mode : (k : ℕ) (ps : List Argument) → has_row (codes "mode") (rows_from (suc k) ps) ≡ false
no_mode k [] = refl
no_mode k (word text ∷ ps) = no_mode (suc k) ps
no_mode k (option s value ∷ ps) = rw (other_setting zero s) (no_mode k ps)

no_graph : (k : ℕ) (ps : List Argument) → length (words_in ps) ≡ 0 → has_row (codes "graph") (rows_from k ps) ≡ false
no_graph k [] none = refl
no_graph k (word text ∷ ps) none = absurd (omega arith)
no_graph k (option s value ∷ ps) none = rw (other_setting (suc zero) s) (no_graph k ps none)

pub distinct : (k : ℕ) (ps : List Argument) → AreOnce ps → k + length (words_in ps) ≡ 2 → AreDistinct (rows_from k ps)
distinct k [] once two = tt
distinct k (option s value ∷ ps) once two = (no_setting s k ps once.0, distinct k ps once.1 two)
distinct zero (word text ∷ ps) once two = (no_mode zero ps, distinct (suc zero) ps once (omega arith))
distinct (suc zero) (word text ∷ ps) once two = (no_graph 2 ps (omega arith), distinct 2 ps once (omega arith))
distinct (suc (suc k)) (word text ∷ ps) once two = absurd (omega arith)

-- the row of the next positional has the first word
first_found : (k : ℕ) (ps : List Argument)
    → find (λ r. bytes_eq r.id (place_of k)) (rows_from k ps) ≡ option_map (word_row k) (slice_get (words_in ps) 0)
first_found zero [] = refl
first_found (suc k) [] = refl
first_found zero (word text ∷ ps) = refl
first_found (suc k) (word text ∷ ps) = refl
first_found k (option s value ∷ ps) = rw (other_setting k s) (first_found k ps)

pub mode_found : (ps : List Argument)
    → find (λ r. bytes_eq r.id (codes "mode")) (rows_from 0 ps) ≡ option_map (word_row 0) (slice_get (words_in ps) 0)
mode_found = first_found zero

pub graph_found : (ps : List Argument)
    → find (λ r. bytes_eq r.id (codes "graph")) (rows_from 0 ps) ≡ option_map (word_row 1) (slice_get (words_in ps) 1)
graph_found [] = refl
graph_found (word text ∷ ps) = first_found (suc zero) ps
graph_found (option s value ∷ ps) = rw (other_setting (suc zero) s) (graph_found ps)
