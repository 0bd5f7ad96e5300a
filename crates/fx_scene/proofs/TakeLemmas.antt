-- What edits leave as it is.
use mathlib.Core.Path.{fun_ext}
use Rattle.std.proofs.Common.{◌≡◌, ℕ, zero, suc, ◌<◌, ◌+◌, ℤ, Bool, false, ◌||◌, nat_eq, inl, inr, List, [], ◌∷◌, ◌++◌, map, get_or, option_map, length, Option, Some, None, slice_get, slice_index_or, refl, sym, ap, ◌∙◌, subst, arith}
use Rattle.std.proofs.lemmas.Bool.{cases_lt, or_parts}
use Rattle.std.proofs.lemmas.List.{get_or_append_left, get_or_past, get_or_push}
use Rattle.std.proofs.lemmas.Option.{slice_get-get_or, slice_get-map}
use Rattle.std.proofs.lemmas.Bool.Decides.{nat_tests}
use Rattle.std.specs.List.{list_any}
use Rattle.fx_effect.specs.Meaning.{Meaning}
use Rattle.fx_graph.specs.Edits.{with_edit}
use Rattle.fx_graph.specs.declared.node.Node.{Node}
use Rattle.fx_graph.specs.Shown.{Does, GraphShown, Shown, does_of, shown}
use Rattle.fx_graph.specs.Shown as does
use Rattle.fx_scene.specs.Nodes.{AreNodes, IsNode}
use Rattle.fx_scene.specs.Scenes.{Images, graph_nodes, node_in, node_of, node_values, nodes_of, values_in}
use Rattle.fx_scene.specs.Table.{at_place, below}
use Rattle.fx_scene.proofs.TableLemmas.{below_is, below_past}
use Rattle.fx_scene.specs.declared.take.Edit.{Edit}
use Rattle.fx_scene.specs.Takes.{clip_touched, does_touched, edited_all, edits_after, graph_of_take, is_touched, names_node, node_touched, nodes_at}
use Rattle.fx_scene.proofs.SameOutside.{HasClip, IsSameOutside}

-- ---- nodes that are not named

pub other_edit : {E : Type 0} (e : Edit) (k : ℕ) (ns : List (Shown E)) (m : ℕ) → (k ≡ m → ⊥)
    → slice_get (with_edit k e.param e.value ns) m ≡ slice_get ns m
other_edit e k [] m h = refl
other_edit e zero (n ∷ ns) zero h = absurd (h refl)
other_edit e zero (n ∷ ns) (suc m) h = refl
other_edit e (suc k) (n ∷ ns) zero h = refl
other_edit e (suc k) (n ∷ ns) (suc m) h = other_edit e k ns m (λ is. h (ap suc is))

not_same : (k m : ℕ) → nat_eq k m ≡ false → k ≡ m → ⊥
not_same k m h is = grind (arith, nat_tests)

pub unnamed : {E : Type 0} (es : List Edit) (ns : List (Shown E)) (m : ℕ) → names_node es m ≡ false
    → slice_get (edited_all es ns) m ≡ slice_get ns m
unnamed [] ns m h = refl
unnamed (e ∷ es) ns m h =
    let p = or_parts (nat_eq e.node m) (names_node es m) h in
    unnamed es (with_edit e.node e.param e.value ns) m p.1 ∙ other_edit e e.node ns m (not_same e.node m p.0)

edit_long : {E : Type 0} (e : Edit) (k : ℕ) (ns : List (Shown E)) → length (with_edit k e.param e.value ns) ≡ length ns
edit_long e k [] = refl
edit_long e zero (n ∷ ns) = refl
edit_long e (suc k) (n ∷ ns) = ap suc (edit_long e k ns)

all_long : {E : Type 0} (es : List Edit) (ns : List (Shown E)) → length (edited_all es ns) ≡ length ns
all_long [] ns = refl
all_long (e ∷ es) ns = all_long es (with_edit e.node e.param e.value ns) ∙ edit_long e e.node ns

pub nodes_long : {E : Type 0} (ns : List (Shown E)) (takes : List (List Edit)) (k : ℕ) → length (nodes_at ns takes k) ≡ length ns
nodes_long ns takes zero = refl
nodes_long ns takes (suc k) = all_long (edits_after takes k) (nodes_at ns takes k) ∙ nodes_long ns takes k

-- ---- nodes that are not touched

-- where none passes no element does
any_false : (test : Option ℕ → Bool) (xs : List (Option ℕ)) (c : ℕ) (x : Option ℕ) → test None ≡ false
    → list_any test xs ≡ false → slice_index_or xs c None ≡ x → test x ≡ false
any_false test [] c x none h is = subst (λ (o : Option ℕ). test o ≡ false) is none
any_false test (y ∷ ys) zero x none h is =
    subst (λ (o : Option ℕ). test o ≡ false) is (or_parts (test y) (list_any test ys) h).0
any_false test (y ∷ ys) (suc c) x none h is =
    any_false test ys c x none (or_parts (test y) (list_any test ys) h).1 is

module _ {E : Type 0} (nodes : List (Shown E)) (es : List Edit) where
  abbrev step : (ℕ → Bool) → ℕ → Bool
  step before k = names_node es k || node_touched before (slice_get nodes k)

  pub untouched_unnamed : (k : ℕ) → is_touched nodes es k ≡ false → names_node es k ≡ false
  unfolding is_touched
  untouched_unnamed k h = (or_parts (names_node es k) (node_touched (below false step k) (slice_get nodes k)) h).0

  untouched_node : (k : ℕ) → is_touched nodes es k ≡ false → node_touched (below false step k) (slice_get nodes k) ≡ false
  unfolding is_touched
  untouched_node k h = (or_parts (names_node es k) (node_touched (below false step k) (slice_get nodes k)) h).1

  touched_is : (k : ℕ) → at_place false step k ≡ is_touched nodes es k
  unfolding is_touched
  touched_is k = refl

  -- no clip of a node that is not touched is
  pub clips_untouched : (meaning : E → Meaning) (g : GraphShown E) (images : Images) → g.nodes ≡ nodes
      → AreNodes (graph_nodes meaning g images) → (k m : ℕ) → is_touched nodes es k ≡ false
      → HasClip (graph_nodes meaning g images k) m → is_touched nodes es m ≡ false
  unfolding nodes_of
  clips_untouched meaning g images is ok k m out clip =
      by_node (slice_get g.nodes k) refl (ok k) clip
    where
      of_work : (n : Shown E) (work : Does E) → does_touched (below false step k) work ≡ false
          → IsNode k (node_of meaning g.project (images k) n.depth n.components work)
          → HasClip (node_of meaning g.project (images k) n.depth n.components work) m → is_touched nodes es m ≡ false
      of_work n (does.Source pattern first last hold) h i c = absurd c
      of_work n (does.Effect e context clips names optional masks params) h i c =
          let low = any_false (clip_touched (below false step k)) clips c.0 (Some m) refl h c.1 in
          sym (touched_is m) ∙ sym (below_is false step k m (i.earlier c.0 m c.1)) ∙ low

      by_node : (o : Option (Shown E)) → slice_get g.nodes k ≡ o → IsNode k (node_in meaning g.project (images k) o)
          → HasClip (node_in meaning g.project (images k) o) m → is_touched nodes es m ≡ false
      by_node None e i c = absurd c
      by_node (Some n) e i c =
          of_work n n.does
          (ap (node_touched (below false step k)) (sym (sym (ap (λ (ns : List (Shown E)). slice_get ns k) is) ∙ e)) ∙ untouched_node k out)
          i c

-- ---- node by node

module _ {E : Type 0} (nodes : List (Node E)) (edits : List Edit) (k : ℕ) (touched : List Bool) (long : length touched ≡ k)
    (known : (m : ℕ) → m < k → slice_index_or touched m false ≡ is_touched (map shown nodes) edits m) where
  -- what is known of the nodes before
  known_below : (λ m. slice_index_or touched m false) ≡ below false (step (map shown nodes) edits) k
  known_below = fun_ext (λ m. elim (cases_lt m k) [
    | inl h ↦ known m h ∙ sym (touched_is (map shown nodes) edits m) ∙ sym (below_is false (step (map shown nodes) edits) k m h)
    | inr h ↦ get_or_past touched m false (omega (arith, long, h)) ∙ sym (below_past false (step (map shown nodes) edits) k m h)
  ])

  -- and of the next one
  pub touched_here : (node : Node E) → k < length nodes → node ≡ get_or nodes k node
      → names_node edits k || does_touched (λ m. slice_index_or touched m false) (does_of node.work) ≡ is_touched (map shown nodes) edits k
  unfolding is_touched
  touched_here node low is =
      ap (λ (before : ℕ → Bool). names_node edits k || does_touched before (does_of node.work)) known_below
      ∙ ap (λ (o : Option (Shown E)). names_node edits k || node_touched (below false (step (map shown nodes) edits) k) o) (sym there)
    where
      there : slice_get (map shown nodes) k ≡ Some (shown node)
      there = slice_get-map shown nodes k ∙ ap (option_map shown) (slice_get-get_or nodes k node low ∙ ap Some (sym is))

  pub touched_more : (now : Bool) → now ≡ is_touched (map shown nodes) edits k → (m : ℕ) → m < k + 1
      → slice_index_or (touched ++ now ∷ []) m false ≡ is_touched (map shown nodes) edits m
  touched_more now is m low = elim (cases_lt m k) [
    | inl h ↦ get_or_append_left touched (now ∷ []) false m (omega (arith, long, h)) ∙ known m h
    | inr h ↦
        let same : k ≡ m = omega (arith, low, h) in
        get_or_push touched now false m (omega (arith, long, same)) ∙ is ∙ ap (is_touched (map shown nodes) edits) same
  ]

-- ---- one take after the other

module _ {E : Type 0} (meaning : E → Meaning) (g : GraphShown E) (takes : List (List Edit)) (k : ℕ) where
  -- the nodes that the take behind take k touches
  abbrev pub touched_then : ℕ → Bool
  touched_then = is_touched (nodes_at g.nodes takes k) (edits_after takes k)

  pub untouched_same : (n : ℕ) → touched_then n ≡ false
      → slice_get (nodes_at g.nodes takes k) n ≡ slice_get (nodes_at g.nodes takes (suc k)) n
  untouched_same n out =
      sym (unnamed (edits_after takes k) (nodes_at g.nodes takes k) n
      (untouched_unnamed (nodes_at g.nodes takes k) (edits_after takes k) n out))

  pub node_untouched : (images : Images) (n : ℕ) → touched_then n ≡ false
      → graph_nodes meaning (graph_of_take g takes k) images n ≡ graph_nodes meaning (graph_of_take g takes (suc k)) images n
  unfolding nodes_of
  node_untouched images n out = ap (node_in meaning g.project (images n)) (untouched_same n out)

  pub same_outside : (images : Images) → AreNodes (graph_nodes meaning (graph_of_take g takes k) images)
      → IsSameOutside touched_then (graph_nodes meaning (graph_of_take g takes k) images)
      (graph_nodes meaning (graph_of_take g takes (suc k)) images)
  same_outside images ok =
      record {
        same = λ n out. node_untouched images n out;
        closed = λ n m out clip. clips_untouched (nodes_at g.nodes takes k) (edits_after takes k) meaning (graph_of_take g takes k) images refl ok n m out clip;
      }

  pub values_same : (n : ℕ) (t : ℤ) → touched_then n ≡ false
      → node_values (graph_of_take g takes k) n t ≡ node_values (graph_of_take g takes (suc k)) n t
  values_same n t out = ap (values_in g.project t) (untouched_same n out)
