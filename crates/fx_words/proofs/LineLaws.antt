-- Options in any order: what a line orders depends on its words and on the value of each setting.
use Rattle.std.proofs.Common.{◌≡◌, ◌∙◌, refl, sym, ap, ap₂, ℕ, ◌+◌, Bool, true, false, ◌&&◌, ◌||◌, List, [], ◌∷◌, length, arith, Option, Some, None, option_map, slice_get, fold, codes, find, if◌then◌else◌}
use Rattle.std.specs.Str.{bytes_eq}
use Rattle.clap.specs.Faults.{check_fault, default_fault, defaults_fault, fault_of, level_fault, settle_fault, walk_fault}
use Rattle.clap.specs.Takes.{is_given}
use Rattle.clap.proofs.FaultLemmas.{leaf_fault}
use Rattle.clap.specs.Kinds.{Kinds, or_else}
use Rattle.clap.specs.Simple.{built, matches_of}
use Rattle.clap.specs.ValueTests.{accepts}
use Rattle.clap.specs.Walk.{Held, Row, Rule, Text, Walk, finished, has_row, nothing_held, rows_after, settled, with_default}
use Rattle.fx_words.specs.Command.{ofxr}
use Rattle.fx_words.specs.Line.{Setting, first, last, tile, cache, workers, ahead, scale, id_of, Argument, word, option, words_of, words_in, value_in, AreOnce, IsLine, OptionsInAnyOrder}
use Rattle.fx_words.specs.Order.{order_in, order_by, order_of}
use Rattle.fx_words.specs.Ordered.{Ordered}
use Rattle.fx_words.proofs.LineRows.{rows_from, option_row, word_row, distinct, setting_found, mode_found, graph_found}
use Rattle.fx_words.proofs.LineWalk.{top, held, between, Ends, walk_line, parser_of, arguments_fault, or_else_nil}

-- ---- an end with no defaults, and with both words

abbrev HaveNoDefaults : List Rule → Type 0
HaveNoDefaults [] = Unit {0}
HaveNoDefaults (a ∷ rest) = (a.defaults ≡ []) × HaveNoDefaults rest

same_if : (b : Bool) (rows : List Row) → (if b then rows else rows) ≡ rows
same_if true rows = refl
same_if false rows = refl

or_true : (b : Bool) → (b || true) ≡ true
or_true true = refl
or_true false = refl

default_same : (rows : List Row) (a : Rule) → a.defaults ≡ [] → with_default rows a ≡ rows
default_same rows a none = rw none (same_if (has_row a.id rows) rows)

fold_same : (rules : List Rule) (rows : List Row) → HaveNoDefaults rules → fold with_default rows rules ≡ rows
fold_same [] rows none = refl
fold_same (a ∷ rest) rows none = ap (λ (x : List Row). fold with_default x rest) (default_same rows a none.0) ∙ fold_same rest rows none.1

no_default_fault : (rows : List Row) (a : Rule) → a.defaults ≡ [] → default_fault rows a ≡ []
no_default_fault rows a none = rw (none, or_true (has_row a.id rows)) refl

no_defaults_fault : (rules : List Rule) (rows : List Row) → HaveNoDefaults rules → defaults_fault rows rules ≡ []
unfolding defaults_fault
no_defaults_fault [] rows none = refl
no_defaults_fault (a ∷ rest) rows none =
    rw (no_default_fault rows a none.0, default_same rows a none.0) (no_defaults_fault rest rows none.1)

none_has_defaults : HaveNoDefaults top.rules
unfolding top
none_has_defaults = (refl, (refl, (refl, (refl, (refl, (refl, (refl, (refl, (refl, tt)))))))))

abbrev Found : ℕ → Text → List Row → List Text → Type 0
Found k id rows texts = find (λ r. bytes_eq r.id id) rows ≡ option_map (word_row k) (slice_get texts k)

mode_given : (rows : List Row) (texts : List Text) → Found 0 (codes "mode") rows texts → length texts ≡ 2 → is_given (codes "mode") rows ≡ true
mode_given rows [] found two = absurd (omega arith)
mode_given rows (x ∷ xs) found two = rw found refl

graph_given : (rows : List Row) (texts : List Text) → Found 1 (codes "graph") rows texts → length texts ≡ 2 → is_given (codes "graph") rows ≡ true
graph_given rows [] found two = absurd (omega arith)
graph_given rows (x ∷ []) found two = absurd (omega arith)
graph_given rows (x ∷ y ∷ xs) found two = rw found refl

check_passes : (rows : List Row) → is_given (codes "mode") rows ≡ true → is_given (codes "graph") rows ≡ true → check_fault top rows false ≡ []
unfolding top
check_passes rows mode graph = rw (mode, graph) refl

-- ---- what a line orders

again_is : top.args_override_self ≡ false
unfolding top
again_is = refl

matches_is : (texts : List Text) → matches_of ofxr texts ≡ rows_after top.rules [] texts
unfolding top
matches_is texts = refl

fault_is : (texts : List Text) → fault_of ofxr texts ≡ level_fault top [] nothing_held texts false []
unfolding top
fault_is texts = leaf_fault (built ofxr) nothing_held texts refl

end_rows : (rows : List Row) (h : Held) → (settled top.rules h).rows ≡ rows → finished top.rules h ≡ rows
end_rows rows h is = fold_same top.rules (settled top.rules h).rows none_has_defaults ∙ is

abbrev rest_fault : Kinds → Bool → Held → Kinds
rest_fault w again h = or_else w (or_else (settle_fault top.rules again h)
    (or_else (defaults_fault (settled top.rules h).rows top.rules) (check_fault top (finished top.rules h) false)))

no_more : (w z d c g : Kinds) → or_else w z ≡ g → d ≡ [] → c ≡ [] → or_else w (or_else z (or_else d c)) ≡ g
no_more [] z d c g is no_d no_c = rw (no_d, no_c) (or_else_nil z ∙ is)
no_more (k ∷ ks) z d c g is no_d no_c = is

line_matches : (ps : List Argument) → Ends ps [] None 0 → matches_of ofxr (words_of ps) ≡ rows_from 0 ps
line_matches ps e =
    matches_is (words_of ps) ∙ ap (λ (w : Walk). finished top.rules w.held) e.ends ∙ end_rows (rows_from 0 ps) (held e.rows e.pending) e.found

line_faults : (ps : List Argument) → Ends ps [] None 0 → length (words_in ps) ≡ 2 → fault_of ofxr (words_of ps) ≡ arguments_fault ps
line_faults ps e two =
    let rows : List Row = rows_from 0 ps in
    let w : Kinds = walk_fault top [] (between [] None 0) (words_of ps) in
    let given : check_fault top rows false ≡ [] =
    check_passes rows (mode_given rows (words_in ps) (mode_found ps) two) (graph_given rows (words_in ps) (graph_found ps) two) in
    let checks : check_fault top (finished top.rules (held e.rows e.pending)) false ≡ [] =
    ap (λ (x : List Row). check_fault top x false) (end_rows rows (held e.rows e.pending) e.found) ∙ given in
    fault_is (words_of ps)
    ∙ ap₂ (λ (x : Walk) (again : Bool). rest_fault w again x.held) e.ends again_is
    ∙ no_more w (settle_fault top.rules false (held e.rows e.pending))
    (defaults_fault (settled top.rules (held e.rows e.pending)).rows top.rules)
    (check_fault top (finished top.rules (held e.rows e.pending)) false) (arguments_fault ps) e.fault
    (no_defaults_fault top.rules (settled top.rules (held e.rows e.pending)).rows none_has_defaults) checks

line_order : (ps : List Argument) → IsLine ps → order_of (words_of ps) ≡ order_by (arguments_fault ps) (rows_from 0 ps)
unfolding order_of
line_order ps line =
    let two : 0 + length (words_in ps) ≡ 2 = omega (arith, line.two) in
    let e : Ends ps [] None 0 = walk_line ps [] None 0 (distinct 0 ps line.once two) line.plain two in
    ap₂ order_by (line_faults ps e line.two) (line_matches ps e)

-- ---- every value is one of its setting

abbrev order_if : Bool → List Row → Option Ordered
order_if true rows = order_in rows
order_if false rows = None

abbrev passes : Setting → Text → Bool
passes s value = accepts false (parser_of s) value

abbrev all_pass : List Argument → Bool
all_pass [] = true
all_pass (word text ∷ ps) = all_pass ps
all_pass (option s value ∷ ps) = passes s value && all_pass ps

faults_or_order : (ps : List Argument) (rows : List Row) → order_by (arguments_fault ps) rows ≡ order_if (all_pass ps) rows
faults_or_order [] rows = refl
faults_or_order (word text ∷ ps) rows = faults_or_order ps rows
faults_or_order (option s value ∷ ps) rows = go (passes s value) refl (faults_or_order ps rows)
  where
    go : (b : Bool) → passes s value ≡ b → order_by (arguments_fault ps) rows ≡ order_if (all_pass ps) rows
        → order_by (arguments_fault (option s value ∷ ps)) rows ≡ order_if (all_pass (option s value ∷ ps)) rows
    go true e rest = rw e rest
    go false e rest = rw e refl

abbrev passes_if : Setting → Option Text → Bool
passes_if s None = true
passes_if s (Some value) = passes s value

abbrev each_passes : (Setting → Option Text) → Bool
each_passes f = passes_if first (f first) && (passes_if last (f last) && (passes_if tile (f tile)
    && (passes_if cache (f cache) && (passes_if workers (f workers) && (passes_if ahead (f ahead) && (passes_if scale (f scale) && true))))))

swap : (a b r : Bool) → (a && (b && r)) ≡ (b && (a && r))
swap true b r = refl
swap false true r = refl
swap false false r = refl

swap_3 : (a b c r : Bool) → (a && (b && (c && r))) ≡ (b && (c && (a && r)))
swap_3 a b c r = swap a b (c && r) ∙ ap (λ (x : Bool). b && x) (swap a c r)

swap_4 : (a b c d r : Bool) → (a && (b && (c && (d && r)))) ≡ (b && (c && (d && (a && r))))
swap_4 a b c d r = swap_3 a b c (d && r) ∙ ap (λ (x : Bool). b && (c && x)) (swap a d r)

swap_5 : (a b c d e r : Bool) → (a && (b && (c && (d && (e && r))))) ≡ (b && (c && (d && (e && (a && r)))))
swap_5 a b c d e r = swap_4 a b c d (e && r) ∙ ap (λ (x : Bool). b && (c && (d && x))) (swap a e r)

swap_6 : (a b c d e g r : Bool) → (a && (b && (c && (d && (e && (g && r)))))) ≡ (b && (c && (d && (e && (g && (a && r))))))
swap_6 a b c d e g r = swap_5 a b c d e (g && r) ∙ ap (λ (x : Bool). b && (c && (d && (e && x)))) (swap a g r)

swap_7 : (a b c d e g h r : Bool)
    → (a && (b && (c && (d && (e && (g && (h && r))))))) ≡ (b && (c && (d && (e && (g && (h && (a && r)))))))
swap_7 a b c d e g h r = swap_6 a b c d e g (h && r) ∙ ap (λ (x : Bool). b && (c && (d && (e && (g && x))))) (swap a h r)

-- each value of a line is that of its setting
all_is : (ps : List Argument) → AreOnce ps → all_pass ps ≡ each_passes (λ s. value_in s ps)
all_is [] once = refl
all_is (word text ∷ ps) once = all_is ps once
all_is (option first value ∷ ps) once = rw (all_is ps once.1, once.0) refl
all_is (option last value ∷ ps) once =
    let f : Setting → Bool = λ s. passes_if s (value_in s ps) in
    rw (all_is ps once.1, once.0) (swap (passes last value) (f first) (f tile && (f cache && (f workers && (f ahead && (f scale && true))))))
all_is (option tile value ∷ ps) once =
    let f : Setting → Bool = λ s. passes_if s (value_in s ps) in
    rw (all_is ps once.1, once.0) (swap_3 (passes tile value) (f first) (f last) (f cache && (f workers && (f ahead && (f scale && true)))))
all_is (option cache value ∷ ps) once =
    let f : Setting → Bool = λ s. passes_if s (value_in s ps) in
    rw (all_is ps once.1, once.0) (swap_4 (passes cache value) (f first) (f last) (f tile) (f workers && (f ahead && (f scale && true))))
all_is (option workers value ∷ ps) once =
    let f : Setting → Bool = λ s. passes_if s (value_in s ps) in
    rw (all_is ps once.1, once.0) (swap_5 (passes workers value) (f first) (f last) (f tile) (f cache) (f ahead && (f scale && true)))
all_is (option ahead value ∷ ps) once =
    let f : Setting → Bool = λ s. passes_if s (value_in s ps) in
    rw (all_is ps once.1, once.0) (swap_6 (passes ahead value) (f first) (f last) (f tile) (f cache) (f workers) (f scale && true))
all_is (option scale value ∷ ps) once =
    let f : Setting → Bool = λ s. passes_if s (value_in s ps) in
    rw (all_is ps once.1, once.0) (swap_7 (passes scale value) (f first) (f last) (f tile) (f cache) (f workers) (f ahead) true)

each_same : (f g : Setting → Option Text) → ((s : Setting) → f s ≡ g s) → each_passes f ≡ each_passes g
each_same f g same = rw (same first, same last, same tile, same cache, same workers, same ahead, same scale) refl

-- ---- the order of rows

abbrev FindSame : List Row → List Row → Text → Type 0
FindSame rows others id = find (λ r. bytes_eq r.id id) rows ≡ find (λ r. bytes_eq r.id id) others

order_same : (rows others : List Row) → FindSame rows others (codes "mode") → FindSame rows others (codes "graph")
    → ((s : Setting) → FindSame rows others (id_of s)) → order_in rows ≡ order_in others
order_same rows others mode graph same = rw (mode, graph, same first, same last, same tile, same cache, same workers, same ahead, same scale) refl

if_same : (a b : Bool) (rows others : List Row) → a ≡ b → order_in rows ≡ order_in others → order_if a rows ≡ order_if b others
if_same true true rows others same is = is
if_same false false rows others same is = refl
if_same true false rows others same is = cc
if_same false true rows others same is = cc

line_is : (ps : List Argument) → IsLine ps → order_of (words_of ps) ≡ order_if (all_pass ps) (rows_from 0 ps)
line_is ps line = line_order ps line ∙ faults_or_order ps (rows_from 0 ps)

pub any_order : OptionsInAnyOrder
any_order one other is_one is_other same_words same_values =
    let pass : all_pass one ≡ all_pass other =
    all_is one is_one.once ∙ each_same (λ s. value_in s one) (λ s. value_in s other) same_values ∙ sym (all_is other is_other.once) in
    let mode : FindSame (rows_from 0 one) (rows_from 0 other) (codes "mode") =
    mode_found one ∙ ap (λ (texts : List Text). option_map (word_row 0) (slice_get texts 0)) same_words ∙ sym (mode_found other) in
    let graph : FindSame (rows_from 0 one) (rows_from 0 other) (codes "graph") =
    graph_found one ∙ ap (λ (texts : List Text). option_map (word_row 1) (slice_get texts 1)) same_words ∙ sym (graph_found other) in
    let setting : (s : Setting) → FindSame (rows_from 0 one) (rows_from 0 other) (id_of s) =
    λ s. setting_found s 0 one ∙ ap (option_map (option_row s)) (same_values s) ∙ sym (setting_found s 0 other) in
    line_is one is_one
    ∙ if_same (all_pass one) (all_pass other) (rows_from 0 one) (rows_from 0 other) pass (order_same (rows_from 0 one) (rows_from 0 other) mode graph setting)
    ∙ sym (line_is other is_other)
