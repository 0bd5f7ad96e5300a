-- What is read stands before, where nodes at frames are made in their order.
use Rattle.std.proofs.Common.{◌≡◌, ℕ, ◌<◌, ◌≤◌, ℤ, pos, ◌≤ℤ◌, List, [], ◌∷◌, ◌++◌, true, refl, sym, ap, ◌∙◌, subst, arith, ◌⊎◌, inl, inr, Option, Some, None, slice_get, IsSome}
use Rattle.std.proofs.lemmas.Int.{ints}
use Rattle.std.proofs.lemmas.Map.Keys.{sorted_head, sorted_tail}
use Rattle.std.proofs.lemmas.Option.{same_Some}
use Rattle.std.specs.Int.Signed.{le_z}
use Rattle.std.specs.List.{AllByRecursion}
use Rattle.std.specs.List.Sorted.{IsStrictlySortedBy}
use Rattle.std.specs.declared.cmp.Ordering.TheVariants.{Less}
use Rattle.std.specs.BTreeMap.{BTreeMap, get}
use Rattle.std.specs.BTreeSet.{BTreeSet}
use Rattle.fx_pixel.specs.declared.Depth.{Depth}
use Rattle.fx_pixel.specs.declared.Components.{Components}
use Rattle.fx_effect.specs.Meaning.{Meaning}
use Rattle.fx_graph.specs.Shown.{Does, GraphShown, Shown}
use Rattle.fx_graph.specs.Shown as does
use Rattle.fx_scene.specs.Scenes.{Images, graph_nodes, node_in, node_of, nodes_of}
use Rattle.fx_base.specs.declared.limits.TheConstants.{MOST_NODES}
use Rattle.fx_scene.specs.declared.reaching.NodeFrame.{NodeFrame}
use Rattle.fx_scene.specs.Nodes.{AreNodes, Effect, IsNode, Node, Nodes, Source}
use Rattle.fx_scene.specs.Reach.{IsPlace, IsReach, IsReadBy, has, node_frame, node_frame_cmp}
use Rattle.fx_scene.proofs.Members.{In, in_left, in_right}
use Rattle.fx_scene.proofs.NearLemmas.{read_place}
use Rattle.fx_scene.proofs.RankLemmas.{has_key, is_lower, key_of}
use Rattle.fx_eval.specs.declared.whole.Whole.{Whole}
use Rattle.fx_eval.specs.Readers.{AreLast, Makes}
use Rattle.fx_eval.specs.Wholes.{IsOrder, IsReady, KeepsUnread}

le_to : (a b : ℤ) → a ≤ℤ b → le_z a b ≡ true
le_to a b h = grind (arith, ints)

le_from : (a b : ℤ) → le_z a b ≡ true → a ≤ℤ b
le_from a b e = grind (arith, ints)

pub in_split : {X : Type 0} (xs ys : List X) (x : X) → In (xs ++ ys) x → In xs x ⊎ In ys x
in_split [] ys x i = inr i
in_split (z ∷ xs) ys x i = elim i [
  | inl e ↦ inl (inl e)
  | inr j ↦ elim (in_split xs ys x j) [ inl k ↦ inl (inr k) | inr k ↦ inr k ]
]

in_front : {X : Type 0} (xs ys : List X) (x : X) → In (xs ++ x ∷ ys) x
in_front [] ys x = inl refl
in_front (z ∷ xs) ys x = inr (in_front xs ys x)

one_more : {X : Type 0} (xs ys : List X) (x : X) → (xs ++ x ∷ []) ++ ys ≡ xs ++ x ∷ ys
one_more [] ys x = refl
one_more (z ∷ xs) ys x = ap (λ (zs : List _). z ∷ zs) (one_more xs ys x)

below_head : (m : NodeFrame) (ks : List NodeFrame) (k : NodeFrame) → AllByRecursion (λ (j : NodeFrame). node_frame_cmp m j ≡ Less) ks → In ks k
    → node_frame_cmp m k ≡ Less
below_head m [] k a i = absurd i
below_head m (j ∷ ks) k a i = elim i [
  | inl e ↦ subst (λ (x : NodeFrame). node_frame_cmp m x ≡ Less) e a.0
  | inr l ↦ below_head m ks k a.1 l
]

-- ---- the nodes at frames in their order

-- those of a list that are done, and those that are left
pub record IsSplit (keys front rest : List NodeFrame) : Type 0 where
  pub split : front ++ rest ≡ keys
  pub sorted : IsStrictlySortedBy node_frame_cmp rest
  pub below : (m r : NodeFrame) → In front m → In rest r → node_frame_cmp m r ≡ Less

pub split_start : (keys : List NodeFrame) → IsStrictlySortedBy node_frame_cmp keys → IsSplit keys [] keys
split_start keys sorted = record { split = refl; sorted = sorted; below = λ m r i j. absurd i }

pub split_step : (keys front : List NodeFrame) (m : NodeFrame) (rest : List NodeFrame) → IsSplit keys front (m ∷ rest)
    → IsSplit keys (front ++ m ∷ []) rest
split_step keys front m rest s =
    record {
      split = one_more front rest m ∙ s.split;
      sorted = sorted_tail node_frame_cmp m rest s.sorted;
      below = λ k r i j. elim (in_split front (m ∷ []) k i) [
        | inl a ↦ s.below k r a (inr j)
        | inr a ↦ elim a [
          | inl e ↦ subst (λ (x : NodeFrame). node_frame_cmp x r ≡ Less) e (below_head m rest r (sorted_head node_frame_cmp m rest s.sorted) j)
          | inr c ↦ absurd c
        ]
      ];
    }

-- the first that is left is one of them
pub split_here : (keys front : List NodeFrame) (m : NodeFrame) (rest : List NodeFrame) → IsSplit keys front (m ∷ rest) → In keys m
split_here keys front m rest s = subst (λ (ks : List NodeFrame). In ks m) s.split (in_front front rest m)

-- those that are done are among them
pub split_done : (keys front rest : List NodeFrame) (k : NodeFrame) → IsSplit keys front rest → In front k → In keys k
split_done keys front rest k s i = subst (λ (ks : List NodeFrame). In ks k) s.split (in_left front rest k i)

-- in the end all are done
pub split_end : (keys front : List NodeFrame) (k : NodeFrame) → IsSplit keys front [] → In keys k → In front k
split_end keys front k s i =
    elim (in_split front [] k (subst (λ (ks : List NodeFrame). In ks k) (sym s.split) i)) [ inl a ↦ a | inr a ↦ absurd a ]

-- one of an earlier node is done
pub split_lower : (keys front : List NodeFrame) (m : NodeFrame) (rest : List NodeFrame) (k : NodeFrame) → IsSplit keys front (m ∷ rest)
    → In keys k → k.node < m.node → In front k
split_lower keys front m rest k s i low =
    elim (in_split front (m ∷ rest) k (subst (λ (ks : List NodeFrame). In ks k) (sym s.split) i)) [
      | inl a ↦ a
      | inr a ↦ elim a [
        | inl e ↦ let same = ap (λ (p : NodeFrame). p.node) e in absurd (omega (arith, low, same))
        | inr j ↦ elim (is_lower m k (below_head m rest k (sorted_head node_frame_cmp m rest s.sorted) j)) [
          | inl l ↦ absurd (omega (arith, low, l))
          | inr e ↦ let same = e.0 in absurd (omega (arith, low, same))
        ]
      ]
    ]

-- ---- those that are made

-- The nodes at frames of `rest` are left, and of those before them each is kept until its last reader is made.
pub record IsFront (node_frames : BTreeSet NodeFrame) (last : BTreeMap NodeFrame NodeFrame) (rest : List NodeFrame)
    (made : BTreeMap NodeFrame Whole) : Type 0 where
  pub front : List NodeFrame
  pub parts : IsSplit node_frames.keys front rest
  pub kept :
      (k : NodeFrame) → In front k → ((r : NodeFrame) → In front r → get node_frame_cmp last k ≡ Some r → ⊥)
      → IsSome (get node_frame_cmp made k)

pub front_start : (node_frames : BTreeSet NodeFrame) (last : BTreeMap NodeFrame NodeFrame) (made : BTreeMap NodeFrame Whole)
    → IsStrictlySortedBy node_frame_cmp node_frames.keys → IsFront node_frames last node_frames.keys made
front_start node_frames last made sorted =
    record { front = []; parts = split_start node_frames.keys sorted; kept = λ k i none. absurd i }

-- the first that is left is one of the nodes at frames
pub front_has : (node_frames : BTreeSet NodeFrame) (last : BTreeMap NodeFrame NodeFrame) (m : NodeFrame) (rest : List NodeFrame)
    (made : BTreeMap NodeFrame Whole) → IsFront node_frames last (m ∷ rest) made → has node_frames m.node m.frame ≡ true
front_has node_frames last m rest made f = has_key node_frames m (split_here node_frames.keys f.front m rest f.parts)

-- it is made
pub front_step : (node_frames : BTreeSet NodeFrame) (last : BTreeMap NodeFrame NodeFrame) (m : NodeFrame) (rest : List NodeFrame)
    (old new : BTreeMap NodeFrame Whole) → IsFront node_frames last (m ∷ rest) old → Makes last m old new
    → IsFront node_frames last rest new
front_step node_frames last m rest old new f makes =
    record {
      front = f.front ++ m ∷ [];
      parts = split_step node_frames.keys f.front m rest f.parts;
      kept = λ k i none.
          let apart : get node_frame_cmp last k ≡ Some m → ⊥ = λ e. none m (in_right f.front (m ∷ []) m (inl refl)) e in
          elim (in_split f.front (m ∷ []) k i) [
            | inl a ↦ makes.keeps k apart (f.kept k a (λ r j e. none r (in_left f.front (m ∷ []) r j) e))
            | inr a ↦ elim a [
              | inl e ↦ subst (λ (x : NodeFrame). IsSome (get node_frame_cmp new x)) e
                  (makes.here (subst (λ (x : NodeFrame). get node_frame_cmp last x ≡ Some m → ⊥) (sym e) apart))
              | inr c ↦ absurd c
            ]
          ];
    }

-- all that it reads is kept
pub front_ready : (nodes : Nodes) (count : ℕ) (node_frames : BTreeSet NodeFrame) (last : BTreeMap NodeFrame NodeFrame) (m : NodeFrame)
    (rest : List NodeFrame) (made : BTreeMap NodeFrame Whole) → AreNodes nodes → count ≤ MOST_NODES → IsOrder nodes count node_frames
    → AreLast nodes node_frames last → IsFront node_frames last (m ∷ rest) made → IsReady (nodes m.node) m.frame made
front_ready nodes count node_frames last m rest made are few order lasts f k g r =
    let here = front_has node_frames last m rest made f in
    let lower = (read_place nodes count m.node m.frame k g are few (order.places m.node m.frame here) r).0 in
    let there = key_of node_frames k g (order.reads m.node m.frame here k g r) in
    let done = split_lower node_frames.keys f.front m rest (node_frame k g) f.parts there lower in
    let by = lasts.all m.node m.frame here k g r in
    f.kept (node_frame k g) done (λ q i e.
    let same : by.by ≡ q = same_Some by.by q (sym by.there ∙ e) in
    by.later (subst (λ (x : NodeFrame). node_frame_cmp x m ≡ Less) (sym same) (f.parts.below q m i (inl refl))))

-- what none of them reads is kept in the end
pub front_end : (nodes : Nodes) (node_frames : BTreeSet NodeFrame) (last : BTreeMap NodeFrame NodeFrame) (made : BTreeMap NodeFrame Whole)
    → AreLast nodes node_frames last → IsFront node_frames last [] made → KeepsUnread nodes node_frames made
front_end nodes node_frames last made lasts f n t there unread =
    f.kept (node_frame n t) (split_end node_frames.keys f.front (node_frame n t) f.parts (key_of node_frames n t there)) (λ r i e.
    let is = lasts.only (node_frame n t) r e in unread r.node r.frame is.0 is.1)

-- a least set is such an order
pub reach_order : (a b : Nodes) (output count : ℕ) (first last : ℤ) (node_frames : BTreeSet NodeFrame)
    → ((n : ℕ) (t : ℤ) (m : ℕ) (f : ℤ) → IsReadBy (b n) t m f → IsReadBy (a n) t m f)
    → IsReach a output first last (has node_frames) → ((n : ℕ) (t : ℤ) → has node_frames n t ≡ true → IsPlace count n t)
    → IsOrder b count node_frames
reach_order a b output count first last node_frames same reach places =
    record {
      places = places;
      reads = λ n t h m f r. reach.all m f (λ s closed. closed.reads n t (reach.only n t h s closed) m f (same n t m f r));
    }

-- what is read is of an earlier node
read_lower : (k : ℕ) (node : Node) (t : ℤ) (m : ℕ) (f : ℤ) → IsNode k node → IsReadBy node t m f → m < k
read_lower k (Source s) t m f i r = absurd r
read_lower k (Effect o) t m f i r = i.earlier r.clip m r.node

-- none of it reads the output
pub unread_output : (a b : Nodes) (output : ℕ) (first last : ℤ) (node_frames : BTreeSet NodeFrame) → AreNodes b
    → ((n : ℕ) (t : ℤ) (m : ℕ) (f : ℤ) → IsReadBy (a n) t m f → IsReadBy (b n) t m f) → IsReach a output first last (has node_frames) → (n : ℕ) (t : ℤ) → has node_frames n t ≡ true → (f : ℤ)
    → IsReadBy (b n) t output f → ⊥
unread_output a b output first last node_frames are same reach n t h f r =
    let low = le_from (pos n) (pos output) (reach.only n t h (λ k u. le_z (pos k) (pos output)) (record {
      start = λ u p q. le_to (pos output) (pos output) (omega (arith, ints));
      reads = λ k u e m g s.
          let here = le_from (pos k) (pos output) e in
          let below = read_lower k (b k) u m g (are k) (same k u m g s) in
          le_to (pos m) (pos output) (omega (arith, ints, here, below));
    })) in
    let below = read_lower n (b n) t output f (are n) r in
    omega (arith, ints, low, below)

-- what is read is read over all images
pub reads_same : {E : Type 0} (meaning : E → Meaning) (g : GraphShown E) (a b : Images) (n : ℕ) (t : ℤ) (m : ℕ) (f : ℤ)
    → IsReadBy (graph_nodes meaning g a n) t m f → IsReadBy (graph_nodes meaning g b n) t m f
unfolding nodes_of
reads_same {E} meaning g a b n t m f h = by_node (slice_get g.nodes n) h
  where
    by_work : (d : Depth) (c : Components) (work : Does E) → IsReadBy (node_of meaning g.project (a n) d c work) t m f
        → IsReadBy (node_of meaning g.project (b n) d c work) t m f
    by_work d c (does.Source pattern first last hold) r = absurd r
    by_work d c (does.Effect e context clips names optional masks params) r = r

    by_node : (o : Option (Shown E)) → IsReadBy (node_in meaning g.project (a n) o) t m f
        → IsReadBy (node_in meaning g.project (b n) o) t m f
    by_node None r = absurd r
    by_node (Some k) r = by_work k.depth k.components k.does r
