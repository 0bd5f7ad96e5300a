-- Scenes at a take, and their next ones.
use Rattle.std.proofs.Common.{◌≡◌, ℤ, ℕ, zero, suc, ◌<◌, ◌≤◌, ◌+◌, Bool, true, false, List, [], ◌∷◌, ◌++◌, length, map, take, drop, get_or, slice_get, slice_index_or, Some, refl, sym, ap, ◌∙◌, subst, arith, cond, inl, inr}
use Rattle.std.proofs.lemmas.Bool.{cases_lt}
use Rattle.std.proofs.lemmas.List.{append_assoc, get_or_append_left, get_or_push, length-map, take-append-drop, take_more}
use Rattle.std.specs.List.{AllByRecursion}
use Rattle.fx_base.specs.declared.limits.TheConstants.{MOST_NODES}
use Rattle.fx_text.specs.declared.raw.TheConstants.{MOST_TAKES}
use Rattle.fx_effect.specs.Meaning.{Meaning}
use Rattle.fx_effect.specs.Shape.{IsProject}
use Rattle.fx_graph.specs.Beside.{SameBesideNodes}
use Rattle.fx_graph.specs.declared.graph.Graph.{Graph}
use Rattle.fx_graph.specs.Edits.{with_edit}
use Rattle.fx_graph.specs.Kept as kept
use Rattle.fx_graph.specs.declared.node.Node.{Node}
use Rattle.fx_graph.specs.Shown.{GraphShown, Shown, does_of, shown}
use Rattle.fx_seq.specs.declared.store.Store.{Store}
use Rattle.fx_base.specs.Bounds.{Bounds}
use Rattle.fx_effect.specs.declared.values.Values.{Values}
use Rattle.fx_scene.specs.declared.key.Key.{Key}
use Rattle.fx_scene.specs.declared.take.Edit.{Edit}
use Rattle.fx_scene.specs.Right.{HasGrown}
use Rattle.fx_scene.specs.Scenes.{Script, Shot, fetched_in, graph_shown, node_values, values_at, values_in}
use Rattle.fx_scene.specs.Scripts.{AreEras, HasGrownTo, IsPlayed, era_in, era_of, taken, untaken}
use Rattle.fx_scene.specs.Takes.{AreEdits, AreTakes, IsEdit, edited_all, edits_after, era, graph_of_take, is_touched, nodes_at}
use Rattle.fx_scene.proofs.EditLemmas.{edits_keep, edits_then, still_all}
use Rattle.fx_scene.proofs.TakeLemmas.{nodes_long}

-- ---- the graph as written

module _ {E : Type 0} (meaning : E → Meaning) (graph : GraphShown E) (script : Script E) (g : GraphShown E)
    (played : IsPlayed meaning graph script) (is : g ≡ graph) where
  pub written_project : IsProject g.project → IsProject script.written.project
  written_project h = subst (λ (x : GraphShown E). IsProject x.project) (is ∙ played.graph_is) h

  pub written_long : length g.nodes ≡ length script.written.nodes
  written_long = ap (λ (x : GraphShown E). length x.nodes) (is ∙ played.graph_is) ∙ nodes_long script.written.nodes script.takes script.take

  pub written_few : length g.nodes ≤ MOST_NODES → length script.written.nodes ≤ MOST_NODES
  written_few h = let e = written_long in omega (arith, h, e)

one_more : (k : ℕ) → suc k ≡ k + 1
one_more k = omega arith

-- ---- edits in order

-- behind edits that were done already the next one may be done
pub edit_behind : {E : Type 0} (ns : List (Shown E)) (done : List Edit) (e : Edit) (rest : List Edit)
    → AllByRecursion (IsEdit ns) (done ++ e ∷ rest) → IsEdit (edited_all done ns) e
edit_behind ns [] e rest are = are.0
edit_behind ns (d ∷ done) e rest are =
    edit_behind (with_edit d.node d.param d.value ns) done e rest (still_all d (done ++ e ∷ rest) ns are.0 are.1)

pub edited_more : {E : Type 0} (done : List Edit) (e : Edit) (ns : List (Shown E))
    → edited_all (done ++ e ∷ []) ns ≡ with_edit e.node e.param e.value (edited_all done ns)
edited_more [] e ns = refl
edited_more (d ∷ done) e ns = edited_more done e (with_edit d.node d.param d.value ns)

-- the next of a list of edits
module _ {E : Type 0} (ns : List (Shown E)) (all : List Edit) (n : ℕ) (e : Edit) (low : n < length all) (is : e ≡ get_or all n e) where
  front : take (n + 1) all ≡ take n all ++ e ∷ []
  front = take_more all n e low ∙ ap (λ (x : Edit). take n all ++ x ∷ []) (sym is)

  pub edit_at : AllByRecursion (IsEdit ns) all → IsEdit (edited_all (take n all) ns) e
  edit_at are =
      edit_behind ns (take n all) e (drop (n + 1) all) (subst (λ (es : List Edit). AllByRecursion (IsEdit ns) es) (sym whole) are)
    where
      whole : take n all ++ e ∷ drop (n + 1) all ≡ all
      whole =
          sym (append_assoc (take n all) (e ∷ []) (drop (n + 1) all))
          ∙ ap (λ (es : List Edit). es ++ drop (n + 1) all) (sym front)
          ∙ take-append-drop (n + 1) all

  pub edited_next : edited_all (take (n + 1) all) ns ≡ with_edit e.node e.param e.value (edited_all (take n all) ns)
  edited_next = ap (λ (es : List Edit). edited_all es ns) front ∙ edited_more (take n all) e ns

pub same_itself : {E : Type 0} {c e : _} (a : Graph E c e) → SameBesideNodes a a
same_itself a =
    record { project = refl; depth = refl; components = refl; output = refl; file = refl; format = refl; first = refl; last = refl }

pub same_then : {E : Type 0} {c e : _} (a b z : Graph E c e) → SameBesideNodes a b → SameBesideNodes b z → SameBesideNodes a z
same_then a b z p q =
    record {
      project = q.project ∙ p.project;
      depth = q.depth ∙ p.depth;
      components = q.components ∙ p.components;
      output = q.output ∙ p.output;
      file = q.file ∙ p.file;
      format = q.format ∙ p.format;
      first = q.first ∙ p.first;
      last = q.last ∙ p.last;
    }

-- the graph after edits
pub same_shown : {E : Type 0} {c e : _} (old new : Graph E c e) (ns : List (Shown E)) → SameBesideNodes old new → map shown new.nodes.items ≡ ns
    → graph_shown new ≡ record (graph_shown old) { nodes = ns }
same_shown old new ns same is i =
    record {
      project = same.project i;
      depth = same.depth i;
      components = same.components i;
      output = same.output i;
      file = same.file i;
      format = same.format i;
      first = same.first i;
      last = same.last i;
      nodes = is i;
    }

-- ---- eras

pub era_low : {E : Type 0} (ns : List (Shown E)) (takes : List (List Edit)) (k n : ℕ) → era ns takes k n ≤ k
era_low ns takes zero n = omega arith
era_low ns takes (suc k) n = let h = era_low ns takes k n in by (is_touched (nodes_at ns takes k) (edits_after takes k) n) h
  where
    by : (b : Bool) → era ns takes k n ≤ k → era ns takes k n + cond b 1 0 ≤ suc k
    by true h = omega (arith, h)
    by false h = omega (arith, h)

pub eras_more : (eras new : List ℕ) (touched : List Bool) (k : ℕ) (era : ℕ) → length new ≡ k
    → ((m : ℕ) → m < k → era_in new m ≡ era_in eras m + cond (slice_index_or touched m false) 1 0)
    → era ≡ era_in eras k + cond (slice_index_or touched k false) 1 0 → (m : ℕ) → m < k + 1
    → era_in (new ++ era ∷ []) m ≡ era_in eras m + cond (slice_index_or touched m false) 1 0
eras_more eras new touched k era long known is m low = elim (cases_lt m k) [
  | inl h ↦ get_or_append_left new (era ∷ []) 0 m (omega (arith, long, h)) ∙ known m h
  | inr h ↦
      let same : k ≡ m = omega (arith, low, h) in
      get_or_push new era 0 m (omega (arith, long, same)) ∙ is
      ∙ ap (λ (i : ℕ). era_in eras i + cond (slice_index_or touched i false) 1 0) same
]

-- ---- at take 0

none_at : {E : Type 0} (ns : List (Shown E)) (k : ℕ) → nodes_at ns [] k ≡ ns
none_at ns zero = refl
none_at ns (suc k) = none_at ns k

pub no_takes : {E : Type 0} (meaning : E → Meaning) (g : GraphShown E) → kept.AreNodes meaning (g.depth, g.components) g.nodes → AreTakes meaning g []
no_takes {E} meaning g is k =
    subst (λ (ns : List (Shown E)). kept.AreNodes meaning (g.depth, g.components) ns) (sym (none_at g.nodes k)) is

module _ {E : Type 0} (meaning : E → Meaning) where
  pub played_first : (g w : GraphShown E) → w ≡ g → AreTakes meaning g [] → IsPlayed meaning g (untaken w)
  played_first g w is are =
      subst (λ (x : GraphShown E). IsPlayed meaning g (untaken x)) (sym is)
      (record { graph_is = refl; among = omega arith; few = omega arith; edits = λ k. tt; takes = are })

  -- the graph as written remembers takes
  module _ (graph : GraphShown E) (script : Script E) (takes : List (List Edit)) (first : script.take ≡ 0) where
    pub played_with : IsPlayed meaning graph script → length takes ≤ MOST_TAKES → AreEdits script.written.nodes takes
        → IsPlayed meaning graph (record script { takes = takes })
    played_with played few edits =
        record {
          graph_is = played.graph_is ∙ ap (graph_of_take script.written script.takes) first
              ∙ ap (graph_of_take script.written takes) (sym first);
          among = omega (arith, first);
          few = few;
          edits = edits;
          takes = edits_keep meaning script.written takes (played.takes 0) edits;
        }

    pub eras_with : (eras : List ℕ) → AreEras script eras → AreEras (record script { takes = takes }) eras
    eras_with eras are n low =
        are n low
        ∙ ap (λ (k : ℕ). era script.written.nodes script.takes k n) first
        ∙ ap (λ (k : ℕ). era script.written.nodes takes k n) (sym first)

-- ---- the next take

module _ {E : Type 0} {c e : _} (meaning : E → Meaning) (old : Graph E c e) (script : Script E) (played : IsPlayed meaning (graph_shown old) script) where
  abbrev pub later : Script E
  later = record script { take = script.take + 1 }

  nodes_now : map shown old.nodes.items ≡ nodes_at script.written.nodes script.takes script.take
  nodes_now = ap (λ (g : GraphShown E). g.nodes) played.graph_is

  pub own_long : length old.nodes.items ≡ length script.written.nodes
  own_long = sym (length-map old.nodes.items shown) ∙ written_long meaning (graph_shown old) script (graph_shown old) played refl

  -- each era is below the number of the takes
  pub eras_low : (eras : List ℕ) → AreEras script eras → script.take < length script.takes → (n : ℕ) → n < length old.nodes.items
      → era_in eras n < MOST_TAKES
  eras_low eras are more n low =
      let long = own_long in
      let is = are n (omega (arith, low, long)) in
      let high = era_low script.written.nodes script.takes script.take n in
      let few = played.few in
      omega (arith, is, high, more, few)

  module _ (edits : List Edit) (next : edits ≡ edits_after script.takes script.take) where
    pub may_edit : AllByRecursion (IsEdit (map shown old.nodes.items)) edits
    may_edit =
        subst (λ (es : List Edit). AllByRecursion (IsEdit (map shown old.nodes.items)) es) (sym next)
        (subst (λ (ns : List (Shown E)). AllByRecursion (IsEdit ns) (edits_after script.takes script.take)) (sym nodes_now)
        (edits_then script.written.nodes script.takes played.edits script.take (edits_after script.takes script.take) (played.edits script.take)))

    nodes_next : edited_all edits (map shown old.nodes.items) ≡ nodes_at script.written.nodes script.takes (suc script.take)
    nodes_next =
        ap (edited_all edits) nodes_now
        ∙ ap (λ (es : List Edit). edited_all es (nodes_at script.written.nodes script.takes script.take)) next

    pub graph_next : (new : Graph E c e) → map shown new.nodes.items ≡ edited_all edits (map shown old.nodes.items) → SameBesideNodes old new
        → graph_shown new ≡ graph_of_take script.written script.takes (script.take + 1)
    graph_next new nodes same =
        same_shown old new (nodes_at script.written.nodes script.takes (suc script.take)) same (nodes ∙ nodes_next)
        ∙ ap (λ (g : GraphShown E). record g { nodes = nodes_at script.written.nodes script.takes (suc script.take) }) played.graph_is
        ∙ ap (graph_of_take script.written script.takes) (one_more script.take)

    pub played_next : (g : GraphShown E) → g ≡ graph_of_take script.written script.takes (script.take + 1) → script.take < length script.takes
        → IsPlayed meaning g later
    played_next g is more =
        record { graph_is = is; among = omega (arith, more); few = played.few; edits = played.edits; takes = played.takes }

    pub eras_next : (eras new : List ℕ) (touched : List Bool) → AreEras script eras → length touched ≡ length old.nodes.items
        → ((n : ℕ) → n < length old.nodes.items → slice_index_or touched n false ≡ is_touched (map shown old.nodes.items) edits n)
        → ((n : ℕ) → n < length touched → era_in new n ≡ era_in eras n + cond (slice_index_or touched n false) 1 0) → AreEras later new
    eras_next eras new touched are long is rises n low =
        let same = own_long in
        rises n (omega (arith, low, same, long))
        ∙ ap (λ (k : ℕ). k + cond (slice_index_or touched n false) 1 0) (are n low)
        ∙ ap (λ (b : Bool). era_of script n + cond b 1 0) (is n (omega (arith, low, same)) ∙ touched_now)
        ∙ ap (λ (k : ℕ). era script.written.nodes script.takes k n) (one_more script.take)
      where
        touched_now : is_touched (map shown old.nodes.items) edits n
            ≡ is_touched (nodes_at script.written.nodes script.takes script.take) (edits_after script.takes script.take) n
        touched_now =
            ap (λ (ns : List (Shown E)). is_touched ns edits n) nodes_now
            ∙ ap (λ (es : List Edit). is_touched (nodes_at script.written.nodes script.takes script.take) es n) next

-- ---- what a scene shows of its fields

module _ {E : Type 0} {c e : _} (graph : Graph E c e) (g : GraphShown E) (same : graph_shown graph ≡ g) (k : ℕ) where
  -- the node at a place is asked with its values
  pub asked_with : (node : Node E) (t : ℤ) → slice_get (map shown graph.nodes.items) k ≡ Some (shown node)
      → values_at graph.project t (does_of node.work) ≡ node_values g k t
  asked_with node t there =
      ap (values_in graph.project t) (sym there) ∙ ap (λ (x : GraphShown E). node_values x k t) same

-- and has its era
pub era_at : {E : Type 0} (meaning : E → Meaning) (graph g : GraphShown E) (own script : Script E) (eras : List ℕ) (k : ℕ) → graph ≡ g → own ≡ script
    → IsPlayed meaning graph own → AreEras own eras → k < length g.nodes → era_in eras k ≡ era_of script k
era_at {E} meaning graph g own script eras k same is played are low =
    let long = written_long meaning graph own g played (sym same) in
    are k (omega (arith, low, long)) ∙ ap (λ (s : Script E). era_of s k) is

pub key_is : (node : ℕ) (frame : ℤ) (region : Bounds) (u v : Values) (a b : ℕ) → u ≡ v → a ≡ b
    → ◌≡◌ {A = Key} (record { node = node; frame = frame; region = region; values = u; era = a })
    (record { node = node; frame = frame; region = region; values = v; era = b })
key_is node frame region u v a b p q i = record { node = node; frame = frame; region = region; values = p i; era = q i }

-- a scene at its next take
pub taken_is : {E : Type 0} (old new : GraphShown E) (store : Store) (number : ℕ) (script : Script E) (scene : Shot E)
    → ◌≡◌ {A = Shot E} (record { graph = old; store = store; number = number; script = script }) scene
    → new ≡ graph_of_take script.written script.takes (script.take + 1)
    → ◌≡◌ {A = Shot E} (record { graph = new; store = store; number = number; script = record script { take = script.take + 1 } }) (taken scene)
taken_is {E} old new store number script scene is next =
    (λ i. record { graph = next i; store = store; number = number; script = record script { take = script.take + 1 } })
    ∙ ap (λ (s : Shot E). taken s) is

-- and one with more frames
pub grown_store : {E : Type 0} (old : Shot E) (graph : GraphShown E) (script : Script E) (number : ℕ) (before after : Store)
    → ◌≡◌ {A = Shot E} (record { graph = graph; store = before; number = number; script = script }) old
    → HasGrown (fetched_in before) (fetched_in after)
    → HasGrownTo old (record { graph = graph; store = after; number = number; script = script })
grown_store {E} old graph script number before after is among =
    record {
      written = ap (λ (s : Shot E). s.script.written) is;
      takes = ap (λ (s : Shot E). s.script.takes) is;
      among = subst (λ (s : Shot E). HasGrown (fetched_in s.store) (fetched_in after)) is among;
    }
