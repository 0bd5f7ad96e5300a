-- clap's walk over a line: what it holds after each argument, and the faults that it finds.
use Rattle.std.proofs.Common.{◌≡◌, ◌∙◌, refl, sym, ap, ap₂, subst, ℕ, zero, suc, ◌+◌, arith, Bool, true, false, ◌==◌, ◌&&◌, not}
use Rattle.std.proofs.Common.{List, [], ◌∷◌, ◌++◌, length, All, append_assoc, append-nil, Option, Some, None, fold, codes, pos}
use Rattle.std.proofs.lemmas.List.Elements.{All-head, All-tail}
use Rattle.std.specs.Str.{bytes_eq}
use Rattle.clap.specs.Faults.{settle_fault, turn_fault, walk_fault}
use Rattle.clap.specs.Kinds.{Kinds, or_else, values_kinds}
use Rattle.clap.specs.Lexer.{long_of, short_of}
use Rattle.clap.specs.Simple.{Shape, built}
use Rattle.clap.specs.Walk.{Held, Row, Text, Walk, has_row, idle, is_pending, settled_rows, walked}
use Rattle.clap.specs.Walk as clap
use Rattle.clap.specs.declared.builder.value_parser.Reading.TheVariants as reading
use Rattle.clap.specs.declared.builder.value_parser.ValueParser.{ValueParser}
use Rattle.clap.specs.declared.builder.value_parser.ValueParser.TheVariants as vp
use Rattle.fx_words.specs.Command.{ofxr, word_rule}
use Rattle.fx_words.specs.Line.{Setting, first, last, tile, cache, workers, ahead, scale, id_of, Argument, word, option, words_of, words_in, is_plain, IsPlain}
use Rattle.fx_words.proofs.LineRows.{word_row, option_row, place_of, rows_from, added, AreDistinct, is_new}

-- the command as clap builds it
unfoldable pub top : Shape
top = (built ofxr).top

abbrev pub Pending : Type 0
Pending = Option (Text × List Text)

abbrev pub held : List Row → Pending → Held
held rows pending = record { rows = rows; pending = pending; skip = 0 }

-- the walk before an argument, after k words
abbrev pub between : List Row → Pending → ℕ → Walk
between rows pending k = record { held = held rows pending; waiting = idle; position = k + 1; is_trailing = false; stopped = None }

-- the walk before the value of an option
abbrev wanting : Setting → List Row → ℕ → Walk
wanting s rows k = record {
  held = held rows (Some (id_of s, []));
  waiting = clap.option (id_of s);
  position = k + 1;
  is_trailing = false;
  stopped = None;
}

abbrev name_of : Setting → Text
name_of s = 45 ∷ 45 ∷ id_of s

abbrev pub parser_of : Setting → ValueParser
parser_of first = vp.Signed (pos 0) (pos 999999)
parser_of last = vp.Signed (pos 0) (pos 999999)
parser_of tile = vp.Signed (pos 1) (pos 1024)
parser_of cache = vp.Signed (pos 0) (pos 65536)
parser_of workers = vp.Signed (pos 1) (pos 64)
parser_of ahead = vp.Signed (pos 0) (pos 4)
parser_of scale = vp.Signed (pos 1) (pos 8)

-- ---- a text that doesn't begin with a hyphen

not_true : (b : Bool) → not b ≡ true → b ≡ false
not_true false is = refl
not_true true is = cc

no_end : (text : Text) → is_plain text ≡ true → bytes_eq text (45 ∷ 45 ∷ []) ≡ false
no_end [] plain = refl
no_end (x ∷ xs) plain = rw (not_true (x == 45) plain) refl

no_long : (text : Text) → is_plain text ≡ true → long_of text ≡ None
no_long [] plain = refl
no_long (x ∷ xs) plain = rw (not_true (x == 45) plain) refl

no_short : (text : Text) → is_plain text ≡ true → short_of text ≡ None
no_short [] plain = refl
no_short (x ∷ xs) plain = rw (not_true (x == 45) plain) refl

and_false : (b : Bool) → (b && false) ≡ false
and_false true = refl
and_false false = refl

-- ---- steps

name_step : (s : Setting) (rows : List Row) (pending : Pending) (k : ℕ)
    → walked top.rules [] (between rows pending k) (name_of s) ≡ wanting s (settled_rows top.rules pending rows) k
unfolding walked top
name_step first rows pending k = refl
name_step last rows pending k = refl
name_step tile rows pending k = refl
name_step cache rows pending k = refl
name_step workers rows pending k = refl
name_step ahead rows pending k = refl
name_step scale rows pending k = refl

value_step : (s : Setting) (value : Text) (rows : List Row) (k : ℕ) → is_plain value ≡ true
    → walked top.rules [] (wanting s rows k) value ≡ between rows (Some (id_of s, value ∷ [])) k
unfolding walked top
value_step first value rows k plain = rw (no_end value plain, no_long value plain, no_short value plain) refl
value_step last value rows k plain = rw (no_end value plain, no_long value plain, no_short value plain) refl
value_step tile value rows k plain = rw (no_end value plain, no_long value plain, no_short value plain) refl
value_step cache value rows k plain = rw (no_end value plain, no_long value plain, no_short value plain) refl
value_step workers value rows k plain = rw (no_end value plain, no_long value plain, no_short value plain) refl
value_step ahead value rows k plain = rw (no_end value plain, no_long value plain, no_short value plain) refl
value_step scale value rows k plain = rw (no_end value plain, no_long value plain, no_short value plain) refl

mode_step : (text : Text) (rows : List Row) (pending : Pending) → is_plain text ≡ true
    → walked top.rules [] (between rows pending 0) text ≡ between (settled_rows top.rules pending rows) (Some (place_of 0, text ∷ [])) 1
unfolding walked top
mode_step text rows pending plain =
    rw (no_end text plain, no_long text plain, no_short text plain, and_false (is_pending (word_rule (codes "mode")) pending)) refl

graph_step : (text : Text) (rows : List Row) (pending : Pending) → is_plain text ≡ true
    → walked top.rules [] (between rows pending 1) text ≡ between (settled_rows top.rules pending rows) (Some (place_of 1, text ∷ [])) 2
unfolding walked top
graph_step text rows pending plain =
    rw (no_end text plain, no_long text plain, no_short text plain, and_false (is_pending (word_rule (codes "graph")) pending)) refl

-- ---- the faults of steps

name_fault : (s : Setting) (rows : List Row) (pending : Pending) (k : ℕ)
    → turn_fault top [] (between rows pending k) (name_of s) ≡ or_else (settle_fault top.rules false (held rows pending)) []
unfolding top
name_fault first rows pending k = refl
name_fault last rows pending k = refl
name_fault tile rows pending k = refl
name_fault cache rows pending k = refl
name_fault workers rows pending k = refl
name_fault ahead rows pending k = refl
name_fault scale rows pending k = refl

value_fault : (s : Setting) (value : Text) (rows : List Row) (k : ℕ) → is_plain value ≡ true
    → turn_fault top [] (wanting s rows k) value ≡ []
unfolding top
value_fault first value rows k plain = rw (no_end value plain, no_long value plain, no_short value plain) refl
value_fault last value rows k plain = rw (no_end value plain, no_long value plain, no_short value plain) refl
value_fault tile value rows k plain = rw (no_end value plain, no_long value plain, no_short value plain) refl
value_fault cache value rows k plain = rw (no_end value plain, no_long value plain, no_short value plain) refl
value_fault workers value rows k plain = rw (no_end value plain, no_long value plain, no_short value plain) refl
value_fault ahead value rows k plain = rw (no_end value plain, no_long value plain, no_short value plain) refl
value_fault scale value rows k plain = rw (no_end value plain, no_long value plain, no_short value plain) refl

mode_fault : (text : Text) (rows : List Row) (pending : Pending) → is_plain text ≡ true
    → turn_fault top [] (between rows pending 0) text ≡ settle_fault top.rules false (held rows pending)
unfolding top
mode_fault text rows pending plain =
    rw (no_end text plain, no_long text plain, no_short text plain, and_false (is_pending (word_rule (codes "mode")) pending)) refl

graph_fault : (text : Text) (rows : List Row) (pending : Pending) → is_plain text ≡ true
    → turn_fault top [] (between rows pending 1) text ≡ settle_fault top.rules false (held rows pending)
unfolding top
graph_fault text rows pending plain =
    rw (no_end text plain, no_long text plain, no_short text plain, and_false (is_pending (word_rule (codes "graph")) pending)) refl

-- ---- what is pending is used

abbrev pub argument_fault : Argument → Kinds
argument_fault (word text) = []
argument_fault (option s value) = values_kinds false (parser_of s) (value ∷ [])

abbrev pub arguments_fault : List Argument → Kinds
arguments_fault [] = []
arguments_fault (p ∷ ps) = or_else (argument_fault p) (arguments_fault ps)

option_settled : (s : Setting) (value : Text) (rows : List Row) → has_row (id_of s) rows ≡ false
    → settled_rows top.rules (Some (id_of s, value ∷ [])) rows ≡ rows ++ option_row s value ∷ []
unfolding top
option_settled first value rows none = added reading.WithoutMinus (codes "first") value rows none
option_settled last value rows none = added reading.WithoutMinus (codes "last") value rows none
option_settled tile value rows none = added reading.WithoutMinus (codes "tile") value rows none
option_settled cache value rows none = added reading.WithoutMinus (codes "cache") value rows none
option_settled workers value rows none = added reading.WithoutMinus (codes "workers") value rows none
option_settled ahead value rows none = added reading.WithoutMinus (codes "ahead") value rows none
option_settled scale value rows none = added reading.WithoutMinus (codes "scale") value rows none

word_settled : (k : ℕ) (text : Text) (rows : List Row) → has_row (place_of k) rows ≡ false
    → settled_rows top.rules (Some (place_of k, text ∷ [])) rows ≡ rows ++ word_row k text ∷ []
unfolding top
word_settled zero text rows none = added reading.AsWritten (codes "mode") text rows none
word_settled (suc k) text rows none = added reading.AsWritten (codes "graph") text rows none

option_settles : (s : Setting) (value : Text) (rows : List Row) → has_row (id_of s) rows ≡ false
    → settle_fault top.rules false (held rows (Some (id_of s, value ∷ []))) ≡ argument_fault (option s value)
unfolding top
option_settles first value rows none = rw none refl
option_settles last value rows none = rw none refl
option_settles tile value rows none = rw none refl
option_settles cache value rows none = rw none refl
option_settles workers value rows none = rw none refl
option_settles ahead value rows none = rw none refl
option_settles scale value rows none = rw none refl

word_settles : (k : ℕ) (text : Text) (rows : List Row) → has_row (place_of k) rows ≡ false
    → settle_fault top.rules false (held rows (Some (place_of k, text ∷ []))) ≡ []
unfolding top
word_settles zero text rows none = rw none refl
word_settles (suc k) text rows none = rw none refl

-- ---- the walk

pub record Ends (ps : List Argument) (before : List Row) (waits : Pending) (k : ℕ) : Type 0 where
  pub rows : List Row
  pub pending : Pending
  pub place : ℕ
  pub ends : fold (walked top.rules []) (between before waits k) (words_of ps) ≡ between rows pending place
  pub found : settled_rows top.rules pending rows ≡ settled_rows top.rules waits before ++ rows_from k ps
  pub fault : or_else (walk_fault top [] (between before waits k) (words_of ps)) (settle_fault top.rules false (held rows pending))
      ≡ or_else (settle_fault top.rules false (held before waits)) (arguments_fault ps)

pub or_else_nil : (ks : Kinds) → or_else ks [] ≡ ks
or_else_nil [] = refl
or_else_nil (k ∷ ks) = refl

option_faults : (f w z g : Kinds) → or_else w z ≡ g → or_else (or_else (or_else f []) (or_else [] w)) z ≡ or_else f g
option_faults [] w z g is = is
option_faults (k ∷ ks) w z g is = refl

pub or_else_assoc : (f w z g : Kinds) → or_else w z ≡ g → or_else (or_else f w) z ≡ or_else f g
or_else_assoc [] w z g is = is
or_else_assoc (k ∷ ks) w z g is = refl

next_found : (before : List Row) (r : Row) (rest settled all : List Row) → settled ≡ before ++ r ∷ [] → all ≡ settled ++ rest → all ≡ before ++ r ∷ rest
next_found before r rest settled all is all_is = all_is ∙ ap (λ (x : List Row). x ++ rest) is ∙ append_assoc before (r ∷ []) rest

next_distinct : (before : List Row) (r : Row) (rest settled : List Row) → settled ≡ before ++ r ∷ [] → AreDistinct (before ++ r ∷ rest) → AreDistinct (settled ++ rest)
next_distinct before r rest settled is distinct = subst AreDistinct (sym (next_found before r rest settled (settled ++ rest) is refl)) distinct

after_option : (s : Setting) (value : Text) (ps : List Argument) (before : List Row) (waits : Pending) (k : ℕ)
    → is_plain value ≡ true → has_row (id_of s) (settled_rows top.rules waits before) ≡ false
    → Ends ps (settled_rows top.rules waits before) (Some (id_of s, value ∷ [])) k → Ends (option s value ∷ ps) before waits k
unfolding walk_fault
after_option s value ps before waits k plain none e =
    let settled : List Row = settled_rows top.rules waits before in
    let waiting : Kinds = settle_fault top.rules false (held before waits) in
    let last_fault : Kinds = settle_fault top.rules false (held e.rows e.pending) in
    let rest : Walk → Kinds = λ w. walk_fault top [] w (words_of ps) in
    let step : walked top.rules [] (walked top.rules [] (between before waits k) (name_of s)) value ≡ between settled (Some (id_of s, value ∷ [])) k =
    ap (λ (w : Walk). walked top.rules [] w value) (name_step s before waits k) ∙ value_step s value settled k plain in
    record {
      rows = e.rows;
      pending = e.pending;
      place = e.place;
      ends = ap (λ (w : Walk). fold (walked top.rules []) w (words_of ps)) step ∙ e.ends;
      found = next_found settled (option_row s value) (rows_from k ps) (settled_rows top.rules (Some (id_of s, value ∷ [])) settled)
          (settled_rows top.rules e.pending e.rows) (option_settled s value settled none) e.found;
      fault = ap₂ (λ (t : Kinds) (w : Walk). or_else (or_else t (or_else (turn_fault top [] w value) (rest (walked top.rules [] w value)))) last_fault)
          (name_fault s before waits k) (name_step s before waits k)
          ∙ ap₂ (λ (t : Kinds) (w : Walk). or_else (or_else (or_else waiting []) (or_else t (rest w))) last_fault)
          (value_fault s value settled k plain) (value_step s value settled k plain)
          ∙ option_faults waiting (rest (between settled (Some (id_of s, value ∷ [])) k)) last_fault (arguments_fault (option s value ∷ ps))
          (e.fault ∙ ap (λ (x : Kinds). or_else x (arguments_fault ps)) (option_settles s value settled none));
    }

after_word : (k : ℕ) (text : Text) (ps : List Argument) (before : List Row) (waits : Pending)
    → walked top.rules [] (between before waits k) text ≡ between (settled_rows top.rules waits before) (Some (place_of k, text ∷ [])) (suc k)
    → turn_fault top [] (between before waits k) text ≡ settle_fault top.rules false (held before waits)
    → has_row (place_of k) (settled_rows top.rules waits before) ≡ false
    → Ends ps (settled_rows top.rules waits before) (Some (place_of k, text ∷ [])) (suc k) → Ends (word text ∷ ps) before waits k
unfolding walk_fault
after_word k text ps before waits step faults none e =
    let settled : List Row = settled_rows top.rules waits before in
    let waiting : Kinds = settle_fault top.rules false (held before waits) in
    let last_fault : Kinds = settle_fault top.rules false (held e.rows e.pending) in
    let rest : Walk → Kinds = λ w. walk_fault top [] w (words_of ps) in
    record {
      rows = e.rows;
      pending = e.pending;
      place = e.place;
      ends = ap (λ (w : Walk). fold (walked top.rules []) w (words_of ps)) step ∙ e.ends;
      found = next_found settled (word_row k text) (rows_from (suc k) ps) (settled_rows top.rules (Some (place_of k, text ∷ [])) settled)
          (settled_rows top.rules e.pending e.rows) (word_settled k text settled none) e.found;
      fault = ap₂ (λ (t : Kinds) (w : Walk). or_else (or_else t (rest w)) last_fault) faults step
          ∙ or_else_assoc waiting (rest (between settled (Some (place_of k, text ∷ [])) (suc k))) last_fault (arguments_fault (word text ∷ ps))
          (e.fault ∙ ap (λ (x : Kinds). or_else x (arguments_fault ps)) (word_settles k text settled none));
    }

pub walk_line : (ps : List Argument) (before : List Row) (waits : Pending) (k : ℕ)
    → AreDistinct (settled_rows top.rules waits before ++ rows_from k ps) → All IsPlain ps → k + length (words_in ps) ≡ 2
    → Ends ps before waits k
unfolding walk_fault
walk_line [] before waits k distinct plain two = record {
  rows = before;
  pending = waits;
  place = k;
  ends = refl;
  found = sym (append-nil (settled_rows top.rules waits before));
  fault = sym (or_else_nil (settle_fault top.rules false (held before waits)));
}
walk_line (option s value ∷ ps) before waits k distinct plain two =
    let settled : List Row = settled_rows top.rules waits before in
    let none : has_row (id_of s) settled ≡ false = is_new settled (option_row s value) (rows_from k ps) distinct in
    after_option s value ps before waits k (All-head IsPlain (option s value) ps plain) none
    (walk_line ps settled (Some (id_of s, value ∷ [])) k
    (next_distinct settled (option_row s value) (rows_from k ps) (settled_rows top.rules (Some (id_of s, value ∷ [])) settled) (option_settled s value settled none) distinct)
    (All-tail IsPlain (option s value) ps plain) two)
walk_line (word text ∷ ps) before waits zero distinct plain two =
    let settled : List Row = settled_rows top.rules waits before in
    let is : is_plain text ≡ true = All-head IsPlain (word text) ps plain in
    let none : has_row (place_of 0) settled ≡ false = is_new settled (word_row 0 text) (rows_from 1 ps) distinct in
    after_word 0 text ps before waits (mode_step text before waits is) (mode_fault text before waits is) none
    (walk_line ps settled (Some (place_of 0, text ∷ [])) 1
    (next_distinct settled (word_row 0 text) (rows_from 1 ps) (settled_rows top.rules (Some (place_of 0, text ∷ [])) settled) (word_settled 0 text settled none) distinct)
    (All-tail IsPlain (word text) ps plain) (omega arith))
walk_line (word text ∷ ps) before waits (suc zero) distinct plain two =
    let settled : List Row = settled_rows top.rules waits before in
    let is : is_plain text ≡ true = All-head IsPlain (word text) ps plain in
    let none : has_row (place_of 1) settled ≡ false = is_new settled (word_row 1 text) (rows_from 2 ps) distinct in
    after_word 1 text ps before waits (graph_step text before waits is) (graph_fault text before waits is) none
    (walk_line ps settled (Some (place_of 1, text ∷ [])) 2
    (next_distinct settled (word_row 1 text) (rows_from 2 ps) (settled_rows top.rules (Some (place_of 1, text ∷ [])) settled) (word_settled 1 text settled none) distinct)
    (All-tail IsPlain (word text) ps plain) (omega arith))
walk_line (word text ∷ ps) before waits (suc (suc k)) distinct plain two = absurd (omega arith)
