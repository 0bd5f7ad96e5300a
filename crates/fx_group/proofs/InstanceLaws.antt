-- A list that is expanded has the values of the instances of the list itself.
use Rattle.std.proofs.Common.{◌≡◌, refl, ap, ap₂, sym, ◌∙◌, subst, subst₂, ℕ, ◌+◌, nat_eq, nat_lt, Bool, true, false, not, ◌||◌, List, [], ◌∷◌, ◌++◌, length, map, append_assoc, append-nil, codes, Option, Some, None, is_some, unwrap_or, option_map, bytes_eq, if◌then◌else◌, find}
use Rattle.std.proofs.lemmas.Bool.{false≢true, true≢false}
use Rattle.std.specs.Option.{option_or, option_flatten}
use Rattle.fx_text.specs.Fault.{Fault}
use Rattle.fx_text.specs.Nodes.{Node, Group, Graph}
use Rattle.fx_text.specs.Paths.{inside}
use Rattle.fx_text.specs.declared.fault.GraphCode.{GraphCode}
use Rattle.fx_text.specs.declared.fault.GraphCode.TheVariants.{NameRepeated, UnknownClip, ClipMissing, NoEarlierNode, UnknownOutput, TooManyNodes, SlashInName}
use Rattle.fx_text.specs.declared.raw.RawWork.{RawWork}
use Rattle.fx_text.specs.declared.raw.RawWork.TheVariants as work
use Rattle.fx_text.specs.declared.value.RawClip.{RawClip}
use Rattle.fx_graph.specs.Refusal.{refusal, where_so, at_first, first_of, node_path, clip_path}
use Rattle.fx_graph.specs.Uses.{is_connected}
use Rattle.fx_group.specs.Names.{look, is_among, has_slash}
use Rattle.fx_group.specs.Faults.{name_fault, slashed_clip, use_fault, work_fault, node_fault, nodes_fault, inputs_fault, node_names, is_group, group_fault, groups_fault, expand_fault}
use Rattle.fx_group.specs.Expansion.{behind, latest_first, group_named, Targets, meant, prefixed, Flat, with_clips, connected, work_expanded, nodes_expanded, inputs_meant, input_target, group_expanded, expander, flat_of, expanded, most_nodes}
use Rattle.fx_group.specs.Instances.{Source, Effect, Giving, Shown, Values, shown, with_value, values_of, also, Instance, instance, uses_joined, name_of, Given, work_given, nodes_given, inputs_given, with_input, group_given, meaning_of, graph_given, instance_values, named, output_value}
use Rattle.fx_group.proofs.Texts.{same_text, or_none, not_none, none_is, look-append, among-append, AreUnder, both_under, one_under, find_none, not_false, text_same}
use Rattle.fx_group.proofs.Uses.{Fits, node_fits, use_fits}

-- ---- rows that don't refuse

pub unless_so : (b : Bool) (code : GraphCode) (path : List ℕ) → where_so b code path ≡ None → b ≡ false
unless_so true code path e = not_none _ e
unless_so false code path e = refl

map_none : {A B : Type 0} (f : A → B) (o : Option A) → option_map f o ≡ None → o ≡ None
map_none f None e = refl
map_none f (Some a) e = not_none (f a) e

pub none_found : {A : Type 0} (p : A → Bool) (xs : List A) (code : GraphCode) (path : A → List ℕ) → at_first p xs code path ≡ None → find p xs ≡ None
none_found p xs code path e = map_none (λ a. refusal code (path a)) (find p xs) e

-- ---- what names a node has

-- each text is known that shows something, and no other
abbrev pub Shows : {V : Type 0} → List (List ℕ) → Values V → Type 0
Shows known names = (text : List ℕ) → is_among known text ≡ is_some (look names text)

shows_more : {V : Type 0} (known : List (List ℕ)) (names : Values V) (name : List ℕ) (v : V) → Shows known names → Shows (known ++ name ∷ []) (names ++ (name, v) ∷ [])
shows_more {V} known names name v all text =
    among-append known (name ∷ []) text
    ∙ ap (λ b. b || is_among (name ∷ []) text) (all text)
    ∙ go (look names text) (bytes_eq name text)
    ∙ ap is_some (sym (look-append names ((name, v) ∷ []) text))
  where
    go : (o : Option V) (b : Bool) → is_some o || (b || false) ≡ is_some (option_or o (if b then Some v else None))
    go (Some w) b = refl
    go None true = refl
    go None false = refl

-- ---- clips

module _ {V : Type 0} (env names : Values V) (f : List ℕ → List ℕ) (reads : (text : List ℕ) → has_slash text ≡ false → look env (f text) ≡ look names text) where
  -- a node's clips show in the expanded list what they show in the list itself
  same_shown : (clips : List RawClip) → find (λ r. has_slash r.node) clips ≡ None → shown env (with_clips clips f) ≡ shown names clips
  same_shown [] e = refl
  same_shown (c ∷ cs) e =
      let here : has_slash c.node ≡ false = (find_none (λ (r : RawClip). has_slash r.node) c cs e).0 in
      ap₂ (λ o more. (c.name, o) ∷ more) (reads c.node here) (same_shown cs (find_none (λ (r : RawClip). has_slash r.node) c cs e).1)

  -- and so do those of a use
  same_connected : (clips : List RawClip) → find (λ r. has_slash r.node) clips ≡ None → map (λ c. (c.0, look env c.1)) (connected clips f) ≡ shown names clips
  same_connected [] e = refl
  same_connected (c ∷ cs) e =
      let here : has_slash c.node ≡ false = (find_none (λ (r : RawClip). has_slash r.node) c cs e).0 in
      ap₂ (λ o more. (c.name, o) ∷ more) (reads c.node here) (same_connected cs (find_none (λ (r : RawClip). has_slash r.node) c cs e).1)

-- an input is connected to what shows something
abbrev pub Has : {V : Type 0} → Values V → Targets → List ℕ → Type 0
Has env clips input = is_some (option_flatten (option_map (look env) (look clips input))) ≡ true

module _ {V : Type 0} (env names : Values V) (known : List (List ℕ)) (f : List ℕ → List ℕ) (all : Shows known names)
    (reads : (text : List ℕ) → has_slash text ≡ false → look env (f text) ≡ look names text) where
  connected_has : (clips : List RawClip) (input : List ℕ) → find (λ r. has_slash r.node) clips ≡ None → find (λ r. not (is_among known r.node)) clips ≡ None
      → is_connected clips input ≡ true → Has env (connected clips f) input
  connected_has [] input smooth there among = absurd (false≢true among)
  connected_has (c ∷ cs) input smooth there among = go (bytes_eq c.name input) refl (λ h. connected_has cs input rows.1 knows.1 h)
    where
      rows : (has_slash c.node ≡ false) × (find (λ r. has_slash r.node) cs ≡ None)
      rows = find_none (λ (r : RawClip). has_slash r.node) c cs smooth

      knows : (not (is_among known c.node) ≡ false) × (find (λ r. not (is_among known r.node)) cs ≡ None)
      knows = find_none (λ (r : RawClip). not (is_among known r.node)) c cs there

      go : (b : Bool) → bytes_eq c.name input ≡ b → (is_connected cs input ≡ true → Has env (connected cs f) input) → is_some (option_flatten (option_map (look env) (if b then Some (f c.node) else look (connected cs f) input))) ≡ true
      go true is later = ap is_some (reads c.node rows.0) ∙ sym (all c.node) ∙ not_false (is_among known c.node) knows.0
      go false is later = later (ap (λ b. b || is_connected cs input) (sym is) ∙ among)

-- ---- inputs

-- what a use's clips show is what stands at their targets
abbrev pub shown_at : {V : Type 0} → Values V → Targets → Shown V
shown_at env clips = map (λ c. (c.0, look env c.1)) clips

look-shown_at : {V : Type 0} (env : Values V) (clips : Targets) (name : List ℕ) → look (shown_at env clips) name ≡ option_map (look env) (look clips name)
look-shown_at env [] name = refl
look-shown_at env (c ∷ cs) name = go (bytes_eq c.0 name) (look-shown_at env cs name)
  where
    go : (b : Bool) → look (shown_at env cs) name ≡ option_map (look env) (look cs name)
        → (if b then Some (look env c.1) else look (shown_at env cs) name) ≡ option_map (look env) (if b then Some c.1 else look cs name)
    go true more = refl
    go false more = more

-- each of these inputs is connected
abbrev pub AllHave : {V : Type 0} → Values V → Targets → List (List ℕ) → Type 0
AllHave env clips inputs = (i : List ℕ) → is_among inputs i ≡ true → Has env clips i

right_true : (b : Bool) → b || true ≡ true
right_true true = refl
right_true false = refl

rest_have : {V : Type 0} (env : Values V) (clips : Targets) (i : List ℕ) (is : List (List ℕ)) → AllHave env clips (i ∷ is) → AllHave env clips is
rest_have env clips i is all j among = all j (ap (λ b. bytes_eq i j || b) among ∙ right_true (bytes_eq i j))

first_has : {V : Type 0} (env : Values V) (clips : Targets) (i : List ℕ) (is : List (List ℕ)) → AllHave env clips (i ∷ is) → Has env clips i
first_has env clips i is all = all i (ap (λ b. b || is_among is i) (text_same i i refl))

-- a text among the inputs, in both ways
record Inputs {V : Type 0} (env : Values V) (inputs : List (List ℕ)) (text : List ℕ) (targets : Targets) (values : Values V) : Type 0 where
  pub reads : option_flatten (option_map (look env) (look targets text)) ≡ look values text
  pub there : is_some (look targets text) ≡ is_among inputs text
  pub known : is_some (look values text) ≡ is_among inputs text

reads_more : {V : Type 0} (env : Values V) (i text t : List ℕ) (v : V) (ts : Targets) (vs : Values V) → look env t ≡ Some v
    → option_flatten (option_map (look env) (look ts text)) ≡ look vs text → option_flatten (option_map (look env) (look ((i, t) ∷ ts) text)) ≡ look ((i, v) ∷ vs) text
reads_more env i text t v ts vs h more = go (bytes_eq i text)
  where
    go : (b : Bool) → option_flatten (option_map (look env) (if b then Some t else look ts text)) ≡ (if b then Some v else look vs text)
    go true = h
    go false = more

there_more : {A : Type 0} (i text : List ℕ) (a : A) (es : List (List ℕ × A)) (is : List (List ℕ)) → is_some (look es text) ≡ is_among is text
    → is_some (look ((i, a) ∷ es) text) ≡ is_among (i ∷ is) text
there_more i text a es is more = go (bytes_eq i text)
  where
    go : (b : Bool) → is_some (if b then Some a else look es text) ≡ b || is_among is text
    go true = refl
    go false = more

-- some target that shows some value
record ShownThere {V : Type 0} (env : Values V) (clips : Targets) (i : List ℕ) : Type 0 where
  pub there : List ℕ
  pub is_there : look clips i ≡ Some there
  pub value : V
  pub is_value : look env there ≡ Some value

shown_there : {V : Type 0} (env : Values V) (clips : Targets) (i : List ℕ) → Has env clips i → ShownThere env clips i
shown_there {V} env clips i has = by (look clips i) refl
  where
    by : (o : Option (List ℕ)) → look clips i ≡ o → ShownThere env clips i
    by None e = absurd (false≢true (ap (λ o. is_some (option_flatten (option_map (look env) o))) (sym e) ∙ has))
    by (Some t) e = and_then (look env t) refl
      where
        and_then : (v : Option V) → look env t ≡ v → ShownThere env clips i
        and_then None h = absurd (false≢true (ap is_some (sym h) ∙ ap (λ o. is_some (option_flatten (option_map (look env) o))) (sym e) ∙ has))
        and_then (Some v) h = record { there = t; is_there = e; value = v; is_value = h }

inputs_are : {V : Type 0} (env : Values V) (clips : Targets) (inputs : List (List ℕ)) → AllHave env clips inputs → (text : List ℕ)
    → Inputs env inputs text (inputs_meant inputs clips) (inputs_given inputs (shown_at env clips))
inputs_are env clips [] all text = record { reads = refl; there = refl; known = refl }
inputs_are env clips (i ∷ is) all text =
    let more = inputs_are env clips is (rest_have env clips i is all) text in
    let here : ShownThere env clips i = shown_there env clips i (first_has env clips i is all) in
    let shows : option_flatten (look (shown_at env clips) i) ≡ Some here.value =
    ap option_flatten (look-shown_at env clips i ∙ ap (option_map (look env)) here.is_there) ∙ here.is_value in
    let made : Inputs env (i ∷ is) text ((i, here.there) ∷ inputs_meant is clips) ((i, here.value) ∷ inputs_given is (shown_at env clips)) = record {
      reads = reads_more env i text here.there here.value (inputs_meant is clips) (inputs_given is (shown_at env clips)) here.is_value more.reads;
      there = there_more i text here.there (inputs_meant is clips) is more.there;
      known = there_more i text here.value (inputs_given is (shown_at env clips)) is more.known;
    } in
    subst₂ (λ o p. Inputs env (i ∷ is) text (input_target i o (inputs_meant is clips)) (with_input i p (inputs_given is (shown_at env clips)))) (sym here.is_there) (sym shows) made

-- what stands first under a prefix where nothing else does
start_fits : {V : Type 0} (env : Values V) (clips : Targets) (inputs : List (List ℕ)) (prefix : List ℕ) → AllHave env clips inputs
    → ((s : List ℕ) → look env (prefix ++ s) ≡ None) → Fits prefix env (inputs_given inputs (shown_at env clips)) (inputs_meant inputs clips)
start_fits {V} env clips inputs prefix all none = record {
  reads = λ text smooth. reads text;
  fresh = λ text s smooth e. none (text ++ 47 ∷ s);
  free = λ text e. none_is (look (inputs_meant inputs clips) text) ((inputs_are env clips inputs all text).there ∙ sym (inputs_are env clips inputs all text).known ∙ ap is_some e);
}
  where
    reads : (text : List ℕ) → look env (meant (inputs_meant inputs clips) prefix text) ≡ look (inputs_given inputs (shown_at env clips)) text
    reads text = by (look (inputs_meant inputs clips) text) refl ∙ (inputs_are env clips inputs all text).reads
      where
        by : (o : Option (List ℕ)) → look (inputs_meant inputs clips) text ≡ o
            → look env (meant (inputs_meant inputs clips) prefix text) ≡ option_flatten (option_map (look env) (look (inputs_meant inputs clips) text))
        by (Some t) e = ap (λ o. look env (unwrap_or o (prefix ++ text))) e ∙ ap (λ o. option_flatten (option_map (look env) o)) (sym e)
        by None e = ap (λ o. look env (unwrap_or o (prefix ++ text))) e ∙ none text ∙ ap (λ o. option_flatten (option_map (look env) o)) (sym e)

-- ---- nodes

values-append : {V : Type 0} (give : Giving V) (before : Values V) (xs ys : List Node) → values_of give before (xs ++ ys) ≡ values_of give (values_of give before xs) ys
values-append give before [] ys = refl
values-append give before (x ∷ xs) ys = values-append give (with_value give before x.name x.work) xs ys

pub named-append : {V : Type 0} (xs ys : List (Instance × V)) → named (xs ++ ys) ≡ named xs ++ named ys
named-append [] ys = refl
named-append (x ∷ xs) ys = ap (λ es. (name_of x.0, x.1) ∷ es) (named-append xs ys)

joined-more : (uses : List (List ℕ)) (name : List ℕ) → uses_joined (uses ++ name ∷ []) ≡ prefixed (uses_joined uses) name
joined-more [] name = refl
joined-more (u ∷ uses) name =
    ap (λ t. u ++ 47 ∷ t) (joined-more uses name) ∙ sym (append_assoc u (47 ∷ uses_joined uses) (name ++ 47 ∷ []))

-- what is read of a list, and what it expands to
pub record Tied {V : Type 0} (give : Giving V) (env : Values V) (uses known : List (List ℕ)) (given : Given V) (flat : Flat) : Type 0 where
  pub values : values_of give env flat.nodes ≡ env ++ named given.all
  pub under : AreUnder (named given.all) (uses_joined uses)
  pub fits : Fits (uses_joined uses) (env ++ named given.all) given.names flat.others
  pub shows : Shows known given.names

-- what is read of a use, and what it expands to
pub record Same {V : Type 0} (give : Giving V) (env : Values V) (uses : List (List ℕ)) (e : List Node × List ℕ) (m : List (Instance × V) × Option V) : Type 0 where
  pub values : values_of give env e.0 ≡ env ++ named m.0
  pub under : AreUnder (named m.0) (uses_joined uses)
  pub value : V
  pub shows : m.1 ≡ Some value
  pub output : look (env ++ named m.0) e.1 ≡ Some value

-- each use of these groups
abbrev pub Agrees : {V : Type 0} → Giving V → List Group → Type 0
Agrees {V} give gs =
    (group : List ℕ) (g : Group) → group_named gs group ≡ Some g → (uses : List (List ℕ)) (clips : Targets) (env : Values V)
    → AllHave env clips g.inputs → ((s : List ℕ) → look env (uses_joined uses ++ s) ≡ None)
    → Same give env uses (expander gs group (uses_joined uses) clips) (meaning_of give gs group uses (shown_at env clips))

module _ {V : Type 0} (give : Giving V) (env : Values V) (uses known : List (List ℕ)) (given : Given V) (flat : Flat) (name path : List ℕ) where
  -- a node that stays
  kept_tied : (w : RawWork) (v : V) → has_slash name ≡ false → is_among known name ≡ false → Tied give env uses known given flat
      → ((before : Values V) → before ≡ env ++ named given.all → with_value give before (uses_joined uses ++ name) w ≡ before ++ (uses_joined uses ++ name, v) ∷ [])
      → Tied give env uses (known ++ name ∷ [])
      (record { all = given.all ++ (instance uses name, v) ∷ []; names = given.names ++ (name, v) ∷ [] })
      (record { nodes = flat.nodes ++ (record { name = uses_joined uses ++ name; path = path; work = w }) ∷ []; others = flat.others })
  kept_tied w v smooth new t makes =
      let more : named (given.all ++ (instance uses name, v) ∷ []) ≡ named given.all ++ (uses_joined uses ++ name, v) ∷ [] = named-append given.all ((instance uses name, v) ∷ []) in
      let all : env ++ named (given.all ++ (instance uses name, v) ∷ []) ≡ (env ++ named given.all) ++ (uses_joined uses ++ name, v) ∷ [] =
      ap (λ es. env ++ es) more ∙ sym (append_assoc env (named given.all) ((uses_joined uses ++ name, v) ∷ [])) in
      record {
        values =
            values-append give env flat.nodes ((record { name = uses_joined uses ++ name; path = path; work = w }) ∷ [])
            ∙ makes (values_of give env flat.nodes) t.values
            ∙ ap (λ es. es ++ (uses_joined uses ++ name, v) ∷ []) t.values
            ∙ sym all;
        under = subst (λ es. AreUnder es (uses_joined uses)) (sym more)
            (both_under (named given.all) ((uses_joined uses ++ name, v) ∷ []) (uses_joined uses) t.under (one_under (uses_joined uses) name v));
        fits = subst (λ es. Fits (uses_joined uses) es (given.names ++ (name, v) ∷ []) flat.others) (sym all)
            (node_fits (uses_joined uses) name (env ++ named given.all) given.names flat.others v smooth t.fits);
        shows = shows_more known given.names name v t.shows;
      }

  -- a use that is replaced
  use_tied : (e : List Node × List ℕ) (m : List (Instance × V) × Option V) → has_slash name ≡ false → is_among known name ≡ false → Tied give env uses known given flat
      → Same give (env ++ named given.all) (uses ++ name ∷ []) e m
      → Tied give env uses (known ++ name ∷ [])
      (record { all = given.all ++ m.0; names = also given.names name m.1 })
      (record { nodes = flat.nodes ++ e.0; others = flat.others ++ (name, e.1) ∷ [] })
  use_tied e m smooth new t s =
      let more : named (given.all ++ m.0) ≡ named given.all ++ named m.0 = named-append given.all m.0 in
      let all : env ++ named (given.all ++ m.0) ≡ (env ++ named given.all) ++ named m.0 = ap (λ es. env ++ es) more ∙ sym (append_assoc env (named given.all) (named m.0)) in
      let was : look given.names name ≡ None = none_is (look given.names name) (sym (t.shows name) ∙ new) in
      let below : AreUnder (named m.0) (prefixed (uses_joined uses) name) = subst (λ p. AreUnder (named m.0) p) (joined-more uses name) s.under in
      subst (λ o. Tied give env uses (known ++ name ∷ []) (record { all = given.all ++ m.0; names = also given.names name o }) (record { nodes = flat.nodes ++ e.0; others = flat.others ++ (name, e.1) ∷ [] })) (sym s.shows)
      (record {
        values =
            values-append give env flat.nodes e.0
            ∙ ap (λ before. values_of give before e.0) t.values
            ∙ s.values
            ∙ sym all;
        under = subst (λ es. AreUnder es (uses_joined uses)) (sym more)
            (both_under (named given.all) (named m.0) (uses_joined uses) t.under
            (λ text unlike. below text (λ r h. unlike (name ++ 47 ∷ r) (h ∙ append_assoc (uses_joined uses) (name ++ 47 ∷ []) r ∙ ap (λ q. uses_joined uses ++ q) (append_assoc name (47 ∷ []) r)))));
        fits = subst (λ es. Fits (uses_joined uses) es (given.names ++ (name, s.value) ∷ []) (flat.others ++ (name, e.1) ∷ [])) (sym all)
            (use_fits (uses_joined uses) name e.1 (env ++ named given.all) given.names (named m.0) flat.others s.value smooth below s.output was t.fits);
        shows = shows_more known given.names name s.value t.shows;
      })

-- a node's name has no slash and is new
name_rows : (path : List ℕ) (known : List (List ℕ)) (name : List ℕ) → name_fault path (is_among known name) name ≡ None → (has_slash name ≡ false) × (is_among known name ≡ false)
name_rows path known name e =
    let rows = or_none (where_so (has_slash name) SlashInName path) (first_of (where_so (is_among known name) NameRepeated path ∷ [])) e in
    let second = or_none (where_so (is_among known name) NameRepeated path) None rows.1 in
    (unless_so (has_slash name) SlashInName path rows.0, unless_so (is_among known name) NameRepeated path second.0)

module _ {V : Type 0} (give : Giving V) (gs : List Group) (agrees : Agrees give gs) (env : Values V) (uses : List (List ℕ)) (apart : (s : List ℕ) → look env (uses_joined uses ++ s) ≡ None) where
  abbrev prefix : List ℕ
  prefix = uses_joined uses

  -- a use of a group that is there, whose clips are connected
  use_same : (known : List (List ℕ)) (given : Given V) (flat : Flat) (name path : List ℕ) (group : List ℕ) (clips : List RawClip) (g : Group)
      → has_slash name ≡ false → is_among known name ≡ false → group_named gs group ≡ Some g → use_fault (is_among known) path (Some g) clips ≡ None → Tied give env uses known given flat
      → Same give (env ++ named given.all) (uses ++ name ∷ []) (expander gs group (prefixed prefix name) (connected clips (meant flat.others prefix)))
      (meaning_of give gs group (uses ++ name ∷ []) (shown given.names clips))
  use_same known given flat name path group clips g smooth new found rows t =
      let here : Values V = env ++ named given.all in
      let lost : Option Fault = at_first (λ (r : RawClip). not (is_among known r.node)) clips NoEarlierNode (λ r. clip_path path r.name) in
      let missing : Option Fault = at_first (λ (i : List ℕ). not (is_connected clips i)) g.inputs ClipMissing (clip_path path) in
      let other : Option Fault = at_first (λ (r : RawClip). not (is_among g.inputs r.name)) clips UnknownClip (λ r. clip_path path r.name) in
      let r1 = or_none other (first_of (missing ∷ slashed_clip path clips ∷ lost ∷ [])) rows in
      let r2 = or_none missing (first_of (slashed_clip path clips ∷ lost ∷ [])) r1.1 in
      let r3 = or_none (slashed_clip path clips) (first_of (lost ∷ [])) r2.1 in
      let r4 = or_none lost None r3.1 in
      let connects : find (λ i. not (is_connected clips i)) g.inputs ≡ None = none_found (λ i. not (is_connected clips i)) g.inputs ClipMissing (clip_path path) r2.0 in
      let plain : find (λ (r : RawClip). has_slash r.node) clips ≡ None = none_found (λ (r : RawClip). has_slash r.node) clips SlashInName (λ r. clip_path path r.name) r3.0 in
      let there : find (λ (r : RawClip). not (is_among known r.node)) clips ≡ None = none_found (λ (r : RawClip). not (is_among known r.node)) clips NoEarlierNode (λ r. clip_path path r.name) r4.0 in
      let all : AllHave here (connected clips (meant flat.others prefix)) g.inputs =
      λ i among. connected_has here given.names known (meant flat.others prefix) t.shows t.fits.reads clips i plain there (is_input g.inputs connects i among) in
      let was : look given.names name ≡ None = none_is (look given.names name) (sym (t.shows name) ∙ new) in
      let free : (s : List ℕ) → look here (uses_joined (uses ++ name ∷ []) ++ s) ≡ None =
      λ s. ap (λ p. look here (p ++ s)) (joined-more uses name) ∙ ap (look here) (append_assoc prefix (name ++ 47 ∷ []) s ∙ ap (λ q. prefix ++ q) (append_assoc name (47 ∷ []) s)) ∙ t.fits.fresh name s smooth was in
      let same = agrees group g found (uses ++ name ∷ []) (connected clips (meant flat.others prefix)) here all free in
      subst (λ sh. Same give here (uses ++ name ∷ []) (expander gs group (prefixed prefix name) (connected clips (meant flat.others prefix))) (meaning_of give gs group (uses ++ name ∷ []) sh))
      (same_connected here given.names (meant flat.others prefix) t.fits.reads clips plain)
      (subst (λ p. Same give here (uses ++ name ∷ []) (expander gs group p (connected clips (meant flat.others prefix))) (meaning_of give gs group (uses ++ name ∷ []) (shown_at here (connected clips (meant flat.others prefix)))))
      (joined-more uses name) same)
    where
      is_input : (inputs : List (List ℕ)) → find (λ i. not (is_connected clips i)) inputs ≡ None → (i : List ℕ) → is_among inputs i ≡ true → is_connected clips i ≡ true
      is_input [] e i among = absurd (false≢true among)
      is_input (j ∷ js) e i among = go (bytes_eq j i) refl (λ h. is_input js rows_j.1 i h)
        where
          rows_j : (not (is_connected clips j) ≡ false) × (find (λ i. not (is_connected clips i)) js ≡ None)
          rows_j = find_none (λ i. not (is_connected clips i)) j js e

          go : (b : Bool) → bytes_eq j i ≡ b → (is_among js i ≡ true → is_connected clips i ≡ true) → is_connected clips i ≡ true
          go true same later = subst (λ t. is_connected clips t ≡ true) (same_text j i same) (not_false (is_connected clips j) rows_j.0)
          go false other later = later (ap (λ b. b || is_among js i) (sym other) ∙ among)

  node_tied : (known : List (List ℕ)) (given : Given V) (flat : Flat) (name path : List ℕ) (w : RawWork) → has_slash name ≡ false → is_among known name ≡ false
      → work_fault gs (is_among known) path w ≡ None → Tied give env uses known given flat
      → Tied give env uses (known ++ name ∷ []) (work_given give (meaning_of give gs) uses given name w) (work_expanded (expander gs) prefix flat name path w)
  node_tied known given flat name path (work.Source pattern first last hold depth components) smooth new rows t =
      kept_tied give env uses known given flat name path (work.Source pattern first last hold depth components) (give (prefix ++ name) (Source pattern first last hold depth components) []) smooth new t (λ before is. refl)
  node_tied known given flat name path (work.Effect effect context clips params) smooth new rows t =
      let plain : find (λ (r : RawClip). has_slash r.node) clips ≡ None = none_found (λ (r : RawClip). has_slash r.node) clips SlashInName (λ r. clip_path path r.name) rows in
      kept_tied give env uses known given flat name path (work.Effect effect context (with_clips clips (meant flat.others prefix)) params) (give (prefix ++ name) (Effect effect context params) (shown given.names clips)) smooth new t
      (λ before is. ap (λ sh. before ++ (prefix ++ name, give (prefix ++ name) (Effect effect context params) sh) ∷ [])
      (ap (λ es. shown es (with_clips clips (meant flat.others prefix))) is ∙ same_shown (env ++ named given.all) given.names (meant flat.others prefix) t.fits.reads clips plain))
  node_tied known given flat name path (work.GroupUse group clips) smooth new rows t = by (group_named gs group) refl rows
    where
      by : (o : Option Group) → group_named gs group ≡ o → use_fault (is_among known) path o clips ≡ None
          → Tied give env uses (known ++ name ∷ []) (work_given give (meaning_of give gs) uses given name (work.GroupUse group clips)) (work_expanded (expander gs) prefix flat name path (work.GroupUse group clips))
      by None found e = not_none _ e
      by (Some g) found e =
          use_tied give env uses known given flat name path _ _ smooth new t (use_same known given flat name path group clips g smooth new found e t)

  nodes_tied : (known : List (List ℕ)) (given : Given V) (flat : Flat) (ns : List Node) → nodes_fault gs known ns ≡ None → Tied give env uses known given flat
      → Tied give env uses (known ++ node_names ns) (nodes_given give (meaning_of give gs) uses given ns) (nodes_expanded (expander gs) prefix flat ns)
  nodes_tied known given flat [] rows t = subst (λ k. Tied give env uses k given flat) (sym (append-nil known)) t
  nodes_tied known given flat (n ∷ ns) rows t =
      let r = or_none (node_fault gs (is_among known) n) (nodes_fault gs (known ++ n.name ∷ []) ns) rows in
      let own = or_none (name_fault (node_path n.path (codes "name")) (is_among known n.name) n.name) (first_of (work_fault gs (is_among known) n.path n.work ∷ [])) r.0 in
      let name = name_rows (node_path n.path (codes "name")) known n.name own.0 in
      let works = or_none (work_fault gs (is_among known) n.path n.work) None own.1 in
      let next = node_tied known given flat n.name n.path n.work name.0 name.1 works.0 t in
      subst (λ k. Tied give env uses k (nodes_given give (meaning_of give gs) uses given (n ∷ ns)) (nodes_expanded (expander gs) prefix flat (n ∷ ns)))
      (append_assoc known (n.name ∷ []) (node_names ns))
      (nodes_tied (known ++ n.name ∷ []) (work_given give (meaning_of give gs) uses given n.name n.work) (work_expanded (expander gs) prefix flat n.name n.path n.work) ns r.1 next)

-- the name of a node has no slash
smooth_name : (gs : List Group) (known : List (List ℕ)) (ns : List Node) (text : List ℕ) → nodes_fault gs known ns ≡ None → is_among (node_names ns) text ≡ true → has_slash text ≡ false
smooth_name gs known [] text rows among = absurd (false≢true among)
smooth_name gs known (n ∷ ns) text rows among = go (bytes_eq n.name text) refl (λ h. smooth_name gs (known ++ n.name ∷ []) ns text r.1 h)
  where
    r : (node_fault gs (is_among known) n ≡ None) × (nodes_fault gs (known ++ n.name ∷ []) ns ≡ None)
    r = or_none (node_fault gs (is_among known) n) (nodes_fault gs (known ++ n.name ∷ []) ns) rows

    go : (b : Bool) → bytes_eq n.name text ≡ b → (is_among (node_names ns) text ≡ true → has_slash text ≡ false) → has_slash text ≡ false
    go true same later =
        let own = or_none (name_fault (node_path n.path (codes "name")) (is_among known n.name) n.name) (first_of (work_fault gs (is_among known) n.path n.work ∷ [])) r.0 in
        subst (λ t. has_slash t ≡ false) (same_text n.name text same) (name_rows (node_path n.path (codes "name")) known n.name own.0).0
    go false other later = later (ap (λ b. b || is_among (node_names ns) text) (sym other) ∙ among)

or_true : (a b : Bool) → b ≡ true → a || b ≡ true
or_true true b e = refl
or_true false b e = e

some_is : {A : Type 0} (o : Option A) → is_some o ≡ true → (a : A) × (o ≡ Some a)
some_is None e = absurd (false≢true e)
some_is (Some a) e = (a, refl)

-- ---- groups

-- a group that no row refuses
abbrev pub IsSound : List Group → Group → Type 0
IsSound before g = (nodes_fault before g.inputs g.nodes ≡ None) × (is_among (node_names g.nodes) g.output ≡ true)

-- each by those before it
abbrev pub AreSound : List Group → Type 0
AreSound [] = Unit {0}
AreSound (g ∷ gs) = IsSound gs g × AreSound gs

group_same : {V : Type 0} (give : Giving V) (gs : List Group) (agrees : Agrees give gs) (g : Group) (uses : List (List ℕ)) (clips : Targets) (env : Values V) → IsSound gs g
    → AllHave env clips g.inputs → ((s : List ℕ) → look env (uses_joined uses ++ s) ≡ None)
    → Same give env uses (group_expanded (expander gs) g (uses_joined uses) clips) (group_given give (meaning_of give gs) g uses (shown_at env clips))
group_same {V} give gs agrees g uses clips env sound all apart =
    let start : Tied give env uses g.inputs (record { all = []; names = inputs_given g.inputs (shown_at env clips) }) (record { nodes = []; others = inputs_meant g.inputs clips }) = record {
      values = sym (append-nil env);
      under = λ text unlike. refl;
      fits = subst (λ es. Fits (uses_joined uses) es (inputs_given g.inputs (shown_at env clips)) (inputs_meant g.inputs clips)) (sym (append-nil env)) (start_fits env clips g.inputs (uses_joined uses) all apart);
      shows = λ text. sym (inputs_are env clips g.inputs all text).known;
    } in
    let end = nodes_tied give gs agrees env uses apart g.inputs (record { all = []; names = inputs_given g.inputs (shown_at env clips) }) (record { nodes = []; others = inputs_meant g.inputs clips }) g.nodes sound.0 start in
    let known : is_among (g.inputs ++ node_names g.nodes) g.output ≡ true = among-append g.inputs (node_names g.nodes) g.output ∙ or_true (is_among g.inputs g.output) (is_among (node_names g.nodes) g.output) sound.1 in
    let some = some_is (look (nodes_given give (meaning_of give gs) uses (record { all = []; names = inputs_given g.inputs (shown_at env clips) }) g.nodes).names g.output) (sym (end.shows g.output) ∙ known) in
    record {
      values = end.values;
      under = end.under;
      value = some.0;
      shows = some.1;
      output = end.fits.reads g.output (smooth_name gs g.inputs g.nodes g.output sound.0 sound.1) ∙ some.1;
    }

agree : {V : Type 0} (give : Giving V) (gs : List Group) → AreSound gs → Agrees give gs
agree give [] sound group g found uses clips env all apart = not_none g (sym found)
agree give (h ∷ gs) sound group g found uses clips env all apart = go (bytes_eq h.name group) refl (agree give gs sound.1)
  where
    some_same : {A : Type 0} (a b : A) → Some a ≡ Some b → a ≡ b
    some_same a b p = ap (λ o. unwrap_or o a) p

    go : (b : Bool) → bytes_eq h.name group ≡ b → Agrees give gs
        → Same give env uses (if b then group_expanded (expander gs) h (uses_joined uses) clips else expander gs group (uses_joined uses) clips)
        (if b then group_given give (meaning_of give gs) h uses (shown_at env clips) else meaning_of give gs group uses (shown_at env clips))
    go true e others =
        let is : h ≡ g = some_same h g (ap (λ (b : Bool). if b then Some h else group_named gs group) (sym e) ∙ found) in
        group_same give gs others h uses clips env sound.0 (subst (λ (k : Group). AllHave env clips k.inputs) (sym is) all) apart
    go false e others = others group g (ap (λ b. if b then Some h else group_named gs group) (sym e) ∙ found) uses clips env all apart

-- ---- the whole

sound_group : (path : List ℕ) (before : List Group) (g : Group) → group_fault path before g ≡ None → IsSound before g
sound_group path before g e =
    let name : Option Fault = name_fault (node_path path (codes "name")) (is_group before g.name) g.name in
    let inputs : Option Fault = inputs_fault path 0 [] g.inputs in
    let output : Option Fault = where_so (not (is_among (node_names g.nodes) g.output)) UnknownOutput (node_path path (codes "output")) in
    let r1 = or_none name (first_of (inputs ∷ nodes_fault before g.inputs g.nodes ∷ output ∷ [])) e in
    let r2 = or_none inputs (first_of (nodes_fault before g.inputs g.nodes ∷ output ∷ [])) r1.1 in
    let r3 = or_none (nodes_fault before g.inputs g.nodes) (first_of (output ∷ [])) r2.1 in
    let r4 = or_none output None r3.1 in
    (r3.0, not_false (is_among (node_names g.nodes) g.output) (unless_so (not (is_among (node_names g.nodes) g.output)) UnknownOutput (node_path path (codes "output")) r4.0))

pub sound_groups : (k : ℕ) (before gs : List Group) → groups_fault k before gs ≡ None → AreSound before → AreSound (behind before gs)
sound_groups k before [] e sound = sound
sound_groups k before (g ∷ gs) e sound =
    let r = or_none (group_fault (inside (codes "groups") k) before g) (groups_fault (k + 1) (g ∷ before) gs) e in
    sound_groups (k + 1) (g ∷ before) gs r.1 (sound_group (inside (codes "groups") k) before g r.0, sound)

-- the rows of groups and those of the main list
graph_rows : (raw : Graph) → nat_eq raw.format 1 ≡ false → expand_fault raw ≡ None
    → (groups_fault 0 [] raw.groups ≡ None) × (nodes_fault (latest_first raw.groups) [] raw.nodes ≡ None)
graph_rows raw two none =
    let many : Option Fault = where_so (nat_lt most_nodes (length (expanded raw))) TooManyNodes (codes "nodes") in
    let all : Option Fault = first_of (groups_fault 0 [] raw.groups ∷ nodes_fault (latest_first raw.groups) [] raw.nodes ∷ many ∷ []) in
    let rows : all ≡ None = ap (λ (b : Bool). if b then None else all) (sym two) ∙ none in
    let r1 = or_none (groups_fault 0 [] raw.groups) (first_of (nodes_fault (latest_first raw.groups) [] raw.nodes ∷ many ∷ [])) rows in
    let r2 = or_none (nodes_fault (latest_first raw.groups) [] raw.nodes) (first_of (many ∷ [])) r1.1 in
    (r1.0, r2.0)

-- what is read of a graph, and what it expands to
graph_tied : {V : Type 0} (give : Giving V) (raw : Graph) → groups_fault 0 [] raw.groups ≡ None → nodes_fault (latest_first raw.groups) [] raw.nodes ≡ None
    → Tied give [] [] (node_names raw.nodes) (graph_given give raw) (flat_of raw)
graph_tied give raw groups nodes =
    let sound : AreSound (latest_first raw.groups) = sound_groups 0 [] raw.groups groups tt in
    let start : Tied give [] [] [] (record { all = []; names = [] }) (record { nodes = []; others = [] }) = record {
      values = refl;
      under = λ text unlike. refl;
      fits = record { reads = λ text smooth. refl; fresh = λ text s smooth e. refl; free = λ text e. refl };
      shows = λ text. refl;
    } in
    nodes_tied give (latest_first raw.groups) (agree give (latest_first raw.groups) sound) [] [] (λ s. refl) [] (record { all = []; names = [] }) (record { nodes = []; others = [] }) raw.nodes nodes start

pub expanded_are : {V : Type 0} (give : Giving V) (raw : Graph) → nat_eq raw.format 1 ≡ false → expand_fault raw ≡ None
    → values_of give [] (expanded raw) ≡ named (instance_values give raw)
expanded_are give raw two none =
    let rows = graph_rows raw two none in
    (graph_tied give raw rows.0 rows.1).values

-- what the output's name shows in the expanded list is the value that is rendered
pub output_is : {V : Type 0} (give : Giving V) (raw : Graph) (v : V) → nat_eq raw.format 1 ≡ false → expand_fault raw ≡ None
    → look (values_of give [] (expanded raw)) (meant (flat_of raw).others [] raw.output.node) ≡ Some v → output_value give raw ≡ Some v
output_is {V} give raw v two none found = by (has_slash raw.output.node) refl
  where
    rows : (groups_fault 0 [] raw.groups ≡ None) × (nodes_fault (latest_first raw.groups) [] raw.nodes ≡ None)
    rows = graph_rows raw two none

    tied : Tied give [] [] (node_names raw.nodes) (graph_given give raw) (flat_of raw)
    tied = graph_tied give raw rows.0 rows.1

    here : look (named (instance_values give raw)) (meant (flat_of raw).others [] raw.output.node) ≡ Some v
    here = ap (λ (es : Values V). look es (meant (flat_of raw).others [] raw.output.node)) (sym tied.values) ∙ found

    by : (b : Bool) → has_slash raw.output.node ≡ b → output_value give raw ≡ Some v
    by false smooth =
        ap (λ o. option_or o (look (named (instance_values give raw)) raw.output.node)) (sym (tied.fits.reads raw.output.node smooth) ∙ here)
    by true slashed =
        let other : is_among (node_names raw.nodes) raw.output.node ≡ false = not_so (is_among (node_names raw.nodes) raw.output.node) refl in
        let unseen : look (graph_given give raw).names raw.output.node ≡ None = none_is (look (graph_given give raw).names raw.output.node) (sym (tied.shows raw.output.node) ∙ other) in
        ap (λ o. option_or o (look (named (instance_values give raw)) raw.output.node)) unseen
        ∙ ap (λ o. look (named (instance_values give raw)) (unwrap_or o raw.output.node)) (sym (tied.fits.free raw.output.node unseen))
        ∙ here
      where
        not_so : (b : Bool) → is_among (node_names raw.nodes) raw.output.node ≡ b → b ≡ false
        not_so false is = refl
        not_so true is = absurd (true≢false (sym slashed ∙ smooth_name (latest_first raw.groups) [] raw.nodes raw.output.node rows.1 is))
