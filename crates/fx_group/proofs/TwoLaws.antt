-- A graph of format 1 in which no name has a slash is the same in format 2: there is nothing to replace.
use Rattle.std.proofs.Common.{◌≡◌, refl, ap, sym, ◌∙◌, subst, ℕ, ◌+◌, ◌≤◌, nat_eq, nat_lt, arith, Bool, true, false, not, ◌||◌, List, [], ◌∷◌, ◌++◌, length, map, append_assoc, append-nil, codes, Option, Some, None, is_some, is_none, Result, Ok, Err, if◌then◌else◌, cond, bytes_eq}
use Rattle.std.proofs.lemmas.Bool.{false≢true}
use Rattle.std.proofs.lemmas.Bool.Decides.{nat_tests}
use Rattle.std.specs.List.{find, list_any, position, prefix_len}
use Rattle.std.specs.Option.{option_or}
use Rattle.fx_base.specs.declared.limits.TheConstants.{MOST_NODES}
use Rattle.fx_text.specs.Fault.{Fault}
use Rattle.fx_text.specs.Json.{after}
use Rattle.fx_text.specs.Nodes.{Node, Graph}
use Rattle.fx_text.specs.declared.fault.GraphCode.TheVariants.{NameRepeated, TooManyNodes, SlashInName, NoEarlierNode}
use Rattle.fx_text.specs.declared.raw.RawContext.{RawContext}
use Rattle.fx_text.specs.declared.raw.RawWork.{RawWork}
use Rattle.fx_text.specs.declared.raw.RawWork.TheVariants as work
use Rattle.fx_text.specs.declared.value.RawClip.{RawClip}
use Rattle.fx_text.specs.declared.value.RawParam.{RawParam}
use Rattle.fx_effect.specs.Meaning.{Meaning}
use Rattle.fx_effect.specs.Shape.{Clip}
use Rattle.fx_graph.specs.Refusal.{where_so, at_first, first_of, refused_or, node_path, clip_path}
use Rattle.fx_graph.specs.Shown.{Shown, GraphShown, names_of}
use Rattle.fx_graph.specs.Graphs as accepted
use Rattle.fx_graph.specs.Nodes.{Form, place_of, repeated, work_of, effect_of, use_in, use_of, told_fault, node_of, nodes_of, wrong_source}
use Rattle.fx_graph.specs.Params.{params_fault}
use Rattle.fx_graph.specs.Uses.{chosen, connection, unsupported, clip_fault, unknown_clip, missing_clip, lost_clip}
use Rattle.fx_group.specs.Names.{is_among, has_slash}
use Rattle.fx_group.specs.Faults.{name_fault, work_fault, node_fault, nodes_fault, expand_fault}
use Rattle.fx_group.specs.Expansion.{Flat, Expander, meant, with_clips, work_expanded, nodes_expanded, expander, flat_of, expanded, most_nodes}
use Rattle.fx_group.specs.Graph.{expanded_graph, expand_of}
use Rattle.fx_group.specs.Plain.{name_path, slash_fault}
use Rattle.fx_group.proofs.Texts.{same_text, or_none, or_false, find_none, not_false}
use Rattle.fx_group.proofs.InstanceLaws.{unless_so, none_found}
use Rattle.fx_group.proofs.ExpandLaws.{err_ok, ok_same}

-- ---- answers

-- what was answered first, and what was made of it
pub record Went {A B : Type 0} (r : Result A Fault) (next : A → Result B Fault) (b : B) : Type 0 where
  pub first : A
  pub is : r ≡ Ok first
  pub then_is : next first ≡ Ok b

pub went : {A B : Type 0} (r : Result A Fault) (next : A → Result B Fault) (b : B) → after r next ≡ Ok b → Went r next b
went (Ok a) next b h = record { first = a; is = refl; then_is = h }
went (Err e) next b h = err_ok e b h

-- a row that doesn't refuse, and what stands behind it
pub past : {A : Type 0} (row : Option Fault) (given : Result A Fault) (a : A) → refused_or row given ≡ Ok a → (row ≡ None) × (given ≡ Ok a)
past None given a h = (refl, h)
past (Some r) given a h = err_ok r a h

-- ---- names

some_so : {A : Type 0} (b : Bool) (a : A) → is_some (cond b (Some a) None) ≡ b
some_so true a = refl
some_so false a = refl

some_place : {A : Type 0} (p : A → Bool) (xs : List A) → is_some (position p xs) ≡ list_any p xs
some_place p [] = refl
some_place {A} p (x ∷ xs) = some_so _ (prefix_len (λ y. not (p y)) (x ∷ xs)) ∙ go (p x) (some_place p xs)
  where
    rest : ℕ
    rest = prefix_len (λ y. not (p y)) xs

    below : nat_lt 0 (length (x ∷ xs)) ≡ true
    below = grind (arith, nat_tests)

    later : nat_lt (1 + rest) (length (x ∷ xs)) ≡ nat_lt rest (length xs)
    later = grind (arith, nat_tests)

    go : (b : Bool) → is_some (position p xs) ≡ list_any p xs → nat_lt (cond (not b) (1 + rest) 0) (length (x ∷ xs)) ≡ b || list_any p xs
    go true more = below
    go false more = later ∙ sym (some_so _ rest) ∙ more

-- a name has a place among others where it is one of them
named_place : (names : List (List ℕ)) (name : List ℕ) → is_some (place_of names name) ≡ is_among names name
named_place names name = some_place (λ n. bytes_eq n name) names

none_not : {A : Type 0} (o : Option A) → is_none o ≡ not (is_some o)
none_not None = refl
none_not (Some a) = refl

-- none of these texts is other than one of the names
abbrev AreAmong : List (List ℕ) → List RawClip → Type 0
AreAmong names clips = find (λ r. not (is_among names r.node)) clips ≡ None

among_slashless : (names : List (List ℕ)) (text : List ℕ) → list_any has_slash names ≡ false → is_among names text ≡ true → has_slash text ≡ false
among_slashless [] text none there = absurd (false≢true there)
among_slashless (n ∷ names) text none there =
    go (bytes_eq n text) refl there (among_slashless names text (or_false (has_slash n) (list_any has_slash names) none).1)
  where
    go : (b : Bool) → bytes_eq n text ≡ b → b || is_among names text ≡ true → (is_among names text ≡ true → has_slash text ≡ false) → has_slash text ≡ false
    go true is h more = ap has_slash (sym (same_text n text is)) ∙ (or_false (has_slash n) (list_any has_slash names) none).0
    go false is h more = more h

clips_slashless : (names : List (List ℕ)) (clips : List RawClip) → list_any has_slash names ≡ false → AreAmong names clips
    → find (λ r. has_slash r.node) clips ≡ None
clips_slashless names [] none among = refl
clips_slashless names (c ∷ clips) none among =
    let parts = find_none (λ r. not (is_among names r.node)) c clips among in
    ap (λ b. if b then Some c else find (λ r. has_slash r.node) clips) (among_slashless names c.node none (not_false (is_among names c.node) parts.0))
    ∙ clips_slashless names clips none parts.1

-- ---- accepted nodes

abbrev pub IsPlainWork : List (List ℕ) → RawWork → Type 0
IsPlainWork names (work.Source pattern first last hold depth components) = Unit {0}
IsPlainWork names (work.Effect effect context clips params) = AreAmong names clips
IsPlainWork names (work.GroupUse group clips) = ⊥

-- behind nodes of these names: each has a name of its own, none is a use, and each clip names an earlier node
abbrev pub ArePlain : List (List ℕ) → List Node → Type 0
ArePlain names [] = Unit {0}
ArePlain names (n ∷ ns) = (is_among names n.name ≡ false) × IsPlainWork names n.work × ArePlain (names ++ n.name ∷ []) ns

module _ {E : Type 0} (find_effect : List ℕ → Option E) (meaning : E → Meaning) (project : Form) where
  clips_plain : (before : List (Shown E)) (path : List ℕ) (inputs : List Clip) (clips : List RawClip)
      → clip_fault path (place_of (names_of before)) inputs clips ≡ None → AreAmong (names_of before) clips
  clips_plain before path inputs clips none =
      let place = place_of (names_of before) in
      let lost : Option Fault = lost_clip path place clips in
      let missing : Option Fault = missing_clip path inputs clips in
      let r1 = or_none (unknown_clip path inputs clips) (first_of (missing ∷ lost ∷ [])) none in
      let r2 = or_none missing (first_of (lost ∷ [])) r1.1 in
      let r3 = or_none lost None r2.1 in
      ap (λ p. find p clips) (λ i (r : RawClip). sym (none_not (place r.node) ∙ ap not (named_place (names_of before) r.node)) i)
      ∙ none_found (λ (r : RawClip). is_none (place r.node)) clips NoEarlierNode (λ r. clip_path path r.name) r3.0

  effect_plain : (before : List (Shown E)) (path name : List ℕ) (e : Option E) (context : Option RawContext)
      (clips : List RawClip) (params : List RawParam) (made : Shown E)
      → effect_of meaning project before path name e context clips params ≡ Ok made → AreAmong (names_of before) clips × (made.name ≡ name)
  effect_plain before path name None context clips params made h = err_ok _ made h
  effect_plain before path name (Some e) context clips params made h =
      let s = (meaning e).shape in
      let c = chosen s.contexts context in
      let place = place_of (names_of before) in
      let used : Shown E = use_of e s project before name c (map (connection place clips) (s.clips c)) params in
      let p = past (unsupported path s.contexts c) (use_in e s project before path name c clips params) made h in
      let q = past (told_fault path place (s.clips c) (s.params c) clips params) (Ok used) made p.1 in
      let r = or_none (clip_fault path place (s.clips c) clips) (first_of (params_fault path (s.params c) params ∷ [])) q.0 in
      (clips_plain before path (s.clips c) clips r.0, sym (ap (λ (m : Shown E). m.name) (ok_same used made q.1)))

  work_plain : (before : List (Shown E)) (path name : List ℕ) (w : RawWork) (made : Shown E)
      → work_of find_effect meaning project before path name w ≡ Ok made → IsPlainWork (names_of before) w × (made.name ≡ name)
  work_plain before path name (work.Source pattern first last hold depth components) made h =
      let p = past (wrong_source path pattern first last) (Ok _) made h in
      (tt, sym (ap (λ (m : Shown E). m.name) (ok_same _ made p.1)))
  work_plain before path name (work.Effect effect context clips params) made h =
      effect_plain before path name (find_effect effect) context clips params made h
  work_plain before path name (work.GroupUse group clips) made h = err_ok _ made h

  names_more : (before : List (Shown E)) (made : Shown E) → names_of (before ++ made ∷ []) ≡ names_of before ++ made.name ∷ []
  names_more [] made = refl
  names_more (b ∷ before) made = ap (λ names. b.name ∷ names) (names_more before made)

  pub nodes_plain : (before : List (Shown E)) (raws : List Node) (nodes : List (Shown E))
      → nodes_of find_effect meaning project before raws ≡ Ok nodes → ArePlain (names_of before) raws
  nodes_plain before [] nodes h = tt
  nodes_plain before (n ∷ ns) nodes h =
      let w = went (node_of find_effect meaning project before n) (λ made. nodes_of find_effect meaning project (before ++ made ∷ []) ns) nodes h in
      let p = past (repeated before n.path n.name) (work_of find_effect meaning project before n.path n.name n.work) w.first w.is in
      let made = work_plain before n.path n.name n.work w.first p.1 in
      let names : names_of (before ++ w.first ∷ []) ≡ names_of before ++ n.name ∷ [] =
      names_more before w.first ∙ ap (λ m. names_of before ++ m ∷ []) made.1 in (
        sym (named_place (names_of before) n.name) ∙ unless_so (is_some (place_of (names_of before) n.name)) NameRepeated (node_path n.path (codes "name")) p.0,
        made.0,
        subst (λ ms. ArePlain ms ns) names (nodes_plain (before ++ w.first ∷ []) ns nodes w.then_is),
      )

-- ---- no fault is found

slashless_more : (names : List (List ℕ)) (name : List ℕ) → list_any has_slash names ≡ false → has_slash name ≡ false → list_any has_slash (names ++ name ∷ []) ≡ false
slashless_more [] name none out = ap (λ b. b || false) out
slashless_more (n ∷ names) name none out =
    let parts = or_false (has_slash n) (list_any has_slash names) none in
    ap (λ b. b || list_any has_slash (names ++ name ∷ [])) parts.0 ∙ slashless_more names name parts.1 out

plain_work_none : (names : List (List ℕ)) (path : List ℕ) (w : RawWork) → IsPlainWork names w → list_any has_slash names ≡ false
    → work_fault [] (is_among names) path w ≡ None
plain_work_none names path (work.Source pattern first last hold depth components) plain none = refl
plain_work_none names path (work.Effect effect context clips params) plain none = rw (clips_slashless names clips none plain) refl
plain_work_none names path (work.GroupUse group clips) plain none = absurd plain

nodes_none : (names : List (List ℕ)) (ns : List Node) → ArePlain names ns → list_any has_slash names ≡ false
    → find (λ n. has_slash n.name) ns ≡ None → nodes_fault [] names ns ≡ None
nodes_none names [] plain none free = refl
nodes_none names (n ∷ ns) plain none free =
    let parts = find_none (λ n. has_slash n.name) n ns free in
    let own : name_fault (node_path n.path (codes "name")) (is_among names n.name) n.name ≡ None = rw (parts.0, plain.0) refl in
    let does : work_fault [] (is_among names) n.path n.work ≡ None = plain_work_none names n.path n.work plain.1 none in
    let here : node_fault [] (is_among names) n ≡ None = rw (own, does) refl in
    ap (λ o. option_or o (nodes_fault [] (names ++ n.name ∷ []) ns)) here
    ∙ nodes_none (names ++ n.name ∷ []) ns plain.2 (slashless_more names n.name none parts.0) parts.1

-- ---- nothing is replaced

clips_same : (clips : List RawClip) → with_clips clips (meant [] []) ≡ clips
clips_same [] = refl
clips_same (c ∷ clips) = ap (λ cs. c ∷ cs) (clips_same clips)

abbrev flat : List Node → Flat
flat nodes = record { nodes = nodes; others = [] }

work_same : (expand : Expander) (names : List (List ℕ)) (done : List Node) (name path : List ℕ) (w : RawWork) → IsPlainWork names w
    → work_expanded expand [] (flat done) name path w ≡ flat (done ++ (record { name = name; path = path; work = w }) ∷ [])
work_same expand names done name path (work.Source pattern first last hold depth components) plain = refl
work_same expand names done name path (work.Effect effect context clips params) plain =
    ap (λ cs. flat (done ++ (record { name = name; path = path; work = work.Effect effect context cs params }) ∷ [])) (clips_same clips)
work_same expand names done name path (work.GroupUse group clips) plain = absurd plain

nodes_same : (expand : Expander) (names : List (List ℕ)) (done ns : List Node) → ArePlain names ns
    → nodes_expanded expand [] (flat done) ns ≡ flat (done ++ ns)
nodes_same expand names done [] plain = ap flat (sym (append-nil done))
nodes_same expand names done (n ∷ ns) plain =
    ap (λ f. nodes_expanded expand [] f ns) (work_same expand names done n.name n.path n.work plain.1)
    ∙ nodes_same expand (names ++ n.name ∷ []) (done ++ n ∷ []) ns plain.2
    ∙ ap flat (append_assoc done (n ∷ []) ns)

-- ---- the graph

abbrev two_of : Graph → Graph
two_of raw = record raw { format = 2; groups = [] }

plain_in_two : (raw : Graph) → ArePlain [] raw.nodes → find (λ n. has_slash n.name) raw.nodes ≡ None → length raw.nodes ≤ MOST_NODES
    → expand_of (two_of raw) ≡ Ok (two_of raw)
plain_in_two raw plain free few =
    ap (λ o. refused_or o (Ok (expanded_graph (two_of raw)))) none ∙ ap kept same
  where
    same : flat_of (two_of raw) ≡ flat raw.nodes
    same = nodes_same (expander []) [] [] raw.nodes plain

    not_many : nat_lt most_nodes (length raw.nodes) ≡ false
    not_many = grind (arith, nat_tests)

    none : expand_fault (two_of raw) ≡ None
    none =
        ap (λ o. option_or o (first_of (where_so (nat_lt most_nodes (length (expanded (two_of raw)))) TooManyNodes (codes "nodes") ∷ []))) (nodes_none [] raw.nodes plain refl free)
        ∙ ap (λ (f : Flat). first_of (where_so (nat_lt most_nodes (length f.nodes)) TooManyNodes (codes "nodes") ∷ [])) same
        ∙ ap (λ b. first_of (where_so b TooManyNodes (codes "nodes") ∷ [])) not_many

    kept : Flat → Result Graph Fault
    kept f = Ok (record (two_of raw) { groups = []; nodes = f.nodes; output = record raw.output { node = meant f.others [] raw.output.node } })

-- where nothing is refused in format 1, it is the same in format 2
one_stays : {E : Type 0} (find_effect : List ℕ → Option E) (meaning : E → Meaning) (raw : Graph) (g : GraphShown E)
    → nat_eq raw.format 1 ≡ true → raw.groups ≡ [] → length raw.nodes ≤ MOST_NODES
    → accepted.graph_of find_effect meaning raw ≡ Ok g → slash_fault raw ≡ None
    → expand_of (record raw { format = 2 }) ≡ Ok (record raw { format = 2 })
one_stays {E} find_effect meaning raw g one none few is free =
    let nodes = went (nodes_of find_effect meaning (accepted.form raw.project) [] raw.nodes) _ g is in
    let plain = nodes_plain find_effect meaning (accepted.form raw.project) [] raw.nodes nodes.first nodes.is in
    let slashes : find (λ n. has_slash n.name) raw.nodes ≡ None =
    none_found (λ n. has_slash n.name) raw.nodes SlashInName name_path
    (sym (ap (λ b. if b then at_first (λ n. has_slash n.name) raw.nodes SlashInName name_path else None) one) ∙ free) in
    let other : (let two : Graph = record raw { format = 2 } in two) ≡ two_of raw = ap (λ gs. record raw { format = 2; groups = gs }) none in
    ap expand_of other ∙ plain_in_two raw plain slashes few ∙ ap Ok (sym other)

-- a graph that is expanded is the same from format 2, where its own format doesn't say that it has no groups
two_stays : (raw g : Graph) → nat_eq raw.format 1 ≡ false → expand_of raw ≡ Ok g → expand_of (record raw { format = 2 }) ≡ Ok (record g { format = 2 })
two_stays raw g two is =
    let two_raw : Graph = record raw { format = 2 } in
    let faults : expand_fault raw ≡ expand_fault two_raw = ap (λ b. if b then None else expand_fault two_raw) two in
    let p = past (expand_fault raw) (Ok (expanded_graph raw)) g is in
    let made : expanded_graph two_raw ≡ record (expanded_graph raw) { format = 2 } =
    sym (ap (λ b. record (if b then raw else record raw { groups = []; nodes = (flat_of raw).nodes; output = record raw.output { node = meant (flat_of raw).others [] raw.output.node } }) { format = 2 }) two) in
    ap (λ o. refused_or o (Ok (expanded_graph two_raw))) (sym faults ∙ p.0)
    ∙ ap Ok made ∙ ap (λ (x : Graph). Ok (record x { format = 2 })) (ok_same (expanded_graph raw) g p.1)

-- a graph of format 1 is as it was
pub one_expands : (raw : Graph) → nat_eq raw.format 1 ≡ true → expand_of raw ≡ Ok raw
one_expands raw one =
    let fault : expand_fault raw ≡ None = ap (λ b. if b then None else expand_fault (record raw { format = 2 })) one in
    let kept : expanded_graph raw ≡ raw = ap (λ b. if b then raw else record raw { groups = []; nodes = (flat_of raw).nodes; output = record raw.output { node = meant (flat_of raw).others [] raw.output.node } }) one in
    ap (λ o. refused_or o (Ok (expanded_graph raw))) fault ∙ ap Ok kept

-- what was read expands in format 2 to what it expands to, where that is accepted and no name has a slash
pub stays_expanded : {E : Type 0} (find_effect : List ℕ → Option E) (meaning : E → Meaning) (raw made : Graph) (g : GraphShown E)
    → (nat_eq raw.format 1 ≡ true → raw.groups ≡ []) → length made.nodes ≤ MOST_NODES
    → expand_of raw ≡ Ok made → accepted.graph_of find_effect meaning made ≡ Ok g → slash_fault made ≡ None
    → expand_of (record raw { format = 2 }) ≡ Ok (record made { format = 2 })
stays_expanded {E} find_effect meaning raw made g groupless few is accepted_is free = by (nat_eq raw.format 1) refl
  where
    by : (b : Bool) → nat_eq raw.format 1 ≡ b → expand_of (record raw { format = 2 }) ≡ Ok (record made { format = 2 })
    by false two = two_stays raw made two is
    by true one =
        let same : raw ≡ made = ok_same raw made (sym (one_expands raw one) ∙ is) in
        subst (λ (r : Graph). nat_eq r.format 1 ≡ true → r.groups ≡ [] → expand_of (record r { format = 2 }) ≡ Ok (record made { format = 2 })) (sym same)
        (λ own none. one_stays find_effect meaning made g own none few accepted_is free) one (groupless one)
