-- Tables of regions, and how they are filled.
use Rattle.std.proofs.Common.{◌≡◌, ℕ, ◌<◌, ◌≤◌, ◌+◌, ℤ, List, [], ◌∷◌, ◌++◌, map, length, drop, get_or, Bool, true, false, cond, refl, arith, sym, ap, ◌∙◌, subst, Option, Some, None, is_some, IsSome, inl, inr, ◌⊎◌}
use Rattle.std.proofs.lemmas.Bool.{or_left, or_right}
use Rattle.std.proofs.lemmas.List.{drop_more, get_or-map, length-map}
use Rattle.std.proofs.lemmas.List.FromFn.{get_or-map-range_with_len, length-map-range_with_len, map-range_with_len_more}
use Rattle.std.proofs.lemmas.Map.Keys.{sorted_head, sorted_tail}
use Rattle.std.proofs.lemmas.Option.{same_Some}
use Rattle.std.specs.BTreeMap.{BTreeMap, Updates, get, is_at}
use Rattle.std.specs.BTreeSet.{BTreeSet}
use Rattle.std.specs.List.{AllByRecursion, range_with_len}
use Rattle.std.specs.List.Sorted.{IsStrictlySortedBy}
use Rattle.std.specs.Map.{lookup}
use Rattle.std.specs.Option.{option_map}
use Rattle.std.specs.Ordering.{int_eq}
use Rattle.std.specs.declared.alloc.Global.{Global}
use Rattle.std.specs.declared.cmp.Ordering.TheVariants.{Less}
use Rattle.std.specs.declared.vec.Vec.{Vec}
use Rattle.fx_base.specs.Bounds.{Bounds}
use Rattle.fx_base.specs.Rect.{hull}
use Rattle.fx_base.specs.declared.limits.TheConstants.{MOST_NODES}
use Rattle.fx_effect.specs.Meaning.{Meaning}
use Rattle.fx_scene.specs.Areas.{area, clip_area, hull_all, hull_with, node_area}
use Rattle.fx_scene.specs.Frames.{clip_frames, frames_of, has_frame, items_of}
use Rattle.fx_scene.specs.Nodes.{AreNodes, Effect, EffectNode, Node, Nodes, clip_node}
use Rattle.fx_scene.specs.Reach.{IsPlace, IsReach, IsReached, IsReadBy, has, node_frame, node_frame_cmp}
use Rattle.fx_scene.specs.Scenes.{Shot}
use Rattle.fx_scene.specs.declared.reaching.NodeFrame.{NodeFrame}
use Rattle.fx_scene.proofs.Members.{In, all_from}
use Rattle.fx_scene.proofs.NearLemmas.{listed, listed_frames, read_place}
use Rattle.fx_scene.proofs.OpenLemmas.{own_frame}
use Rattle.fx_scene.proofs.RankLemmas.{has_key, is_lower, key_of}
use Rattle.fx_scene.proofs.ReachLemmas.{is_same}
use Rattle.fx_scene.specs.Sites.{AreReads, scene_nodes}
use Rattle.fx_region.specs.Tables.{AreAreas, AreAreasOf, AreAskedSo, AreRegions, Has, HasClip, HasReads, IsAskedSo, IsMadeOf, IsOrder, IsTable, known}
use Rattle.fx_region.specs.declared.regions.Asked.{Asked}
use Rattle.fx_region.specs.declared.regions.Reached.{Reached}
use Rattle.fx_region.specs.declared.regions.Regions.{Regions}

-- ---- the order of what is reached

-- a least set has with each node at a frame what is read there
pub reach_order : (a b : Nodes) (output count : ℕ) (first last : ℤ) (node_frames : BTreeSet NodeFrame)
    → ((n : ℕ) (t : ℤ) (m : ℕ) (f : ℤ) → IsReadBy (b n) t m f → IsReadBy (a n) t m f)
    → IsReach a output first last (has node_frames) → ((n : ℕ) (t : ℤ) → has node_frames n t ≡ true → IsPlace count n t)
    → IsOrder b count node_frames
reach_order a b output count first last node_frames same reach places =
    record {
      places = places;
      reads = λ n t h m f r.
          reach.all m f (λ s closed. closed.reads n t (reach.only n t h s closed) m f (same n t m f r));
    }

-- what is reached does not depend on what is shown
pub reached_same : (a b : Nodes) (output : ℕ) (first last : ℤ) (n : ℕ) (t : ℤ)
    → ((n : ℕ) (t : ℤ) (m : ℕ) (f : ℤ) → IsReadBy (a n) t m f → IsReadBy (b n) t m f)
    → IsReached a output first last n t → IsReached b output first last n t
reached_same a b output first last n t same h s closed =
    h s (record { start = closed.start; reads = λ k u e m f r. closed.reads k u e m f (same k u m f r) })

-- ---- the regions are filled in their order

-- The nodes at frames of `rest` are left. Each other one has its region, and no other has.
pub record IsFilling (node_frames : BTreeSet NodeFrame) (rest : List NodeFrame) (regions : Regions) : Type 0 where
  pub sorted : IsStrictlySortedBy node_frame_cmp rest
  pub listed : (k : NodeFrame) → In rest k → In node_frames.keys k
  pub left : (k : NodeFrame) → In node_frames.keys k → In rest k ⊎ IsSome (get node_frame_cmp regions.reached k)
  pub only : (k : NodeFrame) → IsSome (get node_frame_cmp regions.reached k) → In node_frames.keys k

-- an empty map has nothing
pub none_in : (m : BTreeMap NodeFrame Reached) → m.entries ≡ [] → (k : NodeFrame) → get node_frame_cmp m k ≡ None
none_in m e k = ap (lookup (is_at (node_frame_cmp k))) e

not_some : (o : Option Reached) → o ≡ None → IsSome o → ⊥
not_some o e h = let f = ap (λ (p : Option Reached). is_some p) e in cc

pub filling_start : (node_frames : BTreeSet NodeFrame) (regions : Regions) → IsStrictlySortedBy node_frame_cmp node_frames.keys
    → regions.reached.entries ≡ [] → IsFilling node_frames node_frames.keys regions
filling_start node_frames regions sorted none =
    record {
      sorted = sorted;
      listed = λ k i. i;
      left = λ k i. inl i;
      only = λ k some. absurd (not_some _ (none_in regions.reached none k) some);
    }

-- the first that is left is one of the nodes at frames
pub filling_has : (node_frames : BTreeSet NodeFrame) (m : NodeFrame) (rest : List NodeFrame) (regions : Regions)
    → IsFilling node_frames (m ∷ rest) regions → has node_frames m.node m.frame ≡ true
filling_has node_frames m rest regions f = has_key node_frames m (f.listed m (inl refl))

below_head : (m : NodeFrame) (ks : List NodeFrame) (k : NodeFrame) → AllByRecursion (λ (j : NodeFrame). node_frame_cmp m j ≡ Less) ks
    → In ks k → node_frame_cmp m k ≡ Less
below_head m [] k a i = absurd i
below_head m (j ∷ ks) k a i = elim i [
  | inl e ↦ subst (λ (x : NodeFrame). node_frame_cmp m x ≡ Less) e a.0
  | inr l ↦ below_head m ks k a.1 l
]

-- one of an earlier node isn't left
not_left : (m : NodeFrame) (rest : List NodeFrame) (k : NodeFrame) → IsStrictlySortedBy node_frame_cmp (m ∷ rest) → k.node < m.node
    → In (m ∷ rest) k → ⊥
not_left m rest k sorted low i = elim i [
  | inl e ↦ let same = ap (λ (p : NodeFrame). p.node) e in omega (arith, low, same)
  | inr j ↦ elim (is_lower m k (below_head m rest k (sorted_head node_frame_cmp m rest sorted) j)) [
    | inl l ↦ omega (arith, low, l)
    | inr e ↦ let same = e.0 in omega (arith, low, same)
  ]
]

-- so all that it reads has its region
pub filling_reads : (nodes : Nodes) (count : ℕ) (node_frames : BTreeSet NodeFrame) (m : NodeFrame) (rest : List NodeFrame)
    (regions : Regions) → AreNodes nodes → count ≤ MOST_NODES → IsOrder nodes count node_frames
    → IsFilling node_frames (m ∷ rest) regions → HasReads regions (nodes m.node) m.frame
filling_reads nodes count node_frames m rest regions are few order f k g r =
    let here = filling_has node_frames m rest regions f in
    let lower = (read_place nodes count m.node m.frame k g are few (order.places m.node m.frame here) r).0 in
    elim (f.left (node_frame k g) (key_of node_frames k g (order.reads m.node m.frame here k g r))) [
      | inl i ↦ absurd (not_left m rest (node_frame k g) f.sorted lower i)
      | inr some ↦ some
    ]

-- a map with one more entry
still_some : (m : NodeFrame) (a : Reached) (old new : BTreeMap NodeFrame Reached) (k : NodeFrame)
    → Updates node_frame_cmp old new m (Some a) → IsSome (get node_frame_cmp old k) → IsSome (get node_frame_cmp new k)
still_some m a old new k u some =
    ap (λ (o : Option Reached). is_some o) (u.0 k) ∙ by_test (is_at (node_frame_cmp m) k) (get node_frame_cmp old k) some
  where
    by_test : (b : Bool) (o : Option Reached) → IsSome o → IsSome (cond b (Some a) o)
    by_test true o h = refl
    by_test false o h = h

-- it has its region
pub filling_step : (node_frames : BTreeSet NodeFrame) (m : NodeFrame) (rest : List NodeFrame) (a : Reached) (old new : Regions)
    → IsFilling node_frames (m ∷ rest) old → Updates node_frame_cmp old.reached new.reached m (Some a)
    → IsFilling node_frames rest new
filling_step node_frames m rest a old new f u =
    record {
      sorted = sorted_tail node_frame_cmp m rest f.sorted;
      listed = λ k i. f.listed k (inr i);
      left = λ k i. elim (f.left k i) [
        | inl j ↦ elim j [
          | inl e ↦ inr (subst (λ (x : NodeFrame). IsSome (get node_frame_cmp new.reached x)) e (ap (λ (o : Option Reached). is_some o) u.1))
          | inr l ↦ inl l
        ]
        | inr some ↦ inr (still_some m a old.reached new.reached k u some)
      ];
      only = λ k some. by_test k (is_at (node_frame_cmp m) k) refl (sym (ap (λ (o : Option Reached). is_some o) (u.0 k)) ∙ some);
    }
  where
    by_test : (k : NodeFrame) (b : Bool) → is_at (node_frame_cmp m) k ≡ b → IsSome (cond b (Some a) (get node_frame_cmp old.reached k))
        → In node_frames.keys k
    by_test k true is some =
        let at = is_same m k.node k.frame is in
        subst (λ (n : ℕ). In node_frames.keys (node_frame n k.frame)) (sym at.0)
        (subst (λ (t : ℤ). In node_frames.keys (node_frame m.node t)) (sym at.1) (f.listed m (inl refl)))
    by_test k false is some = f.only k some

-- and each region is the node's area
pub right_step : (nodes : Nodes) (m : NodeFrame) (a : Reached) (old new : Regions) → AreAreas nodes old
    → a.area ≡ area nodes m.node m.frame → Updates node_frame_cmp old.reached new.reached m (Some a) → AreAreas nodes new
right_step nodes m a old new are is u n t r e =
    by_test (is_at (node_frame_cmp m) (node_frame n t)) refl (sym (ap (option_map (λ (k : Reached). k.area)) (u.0 (node_frame n t))) ∙ e)
  where
    by_test : (b : Bool) → is_at (node_frame_cmp m) (node_frame n t) ≡ b
        → option_map (λ (k : Reached). k.area) (cond b (Some a) (known old n t)) ≡ Some r → r ≡ area nodes n t
    by_test true at h =
        let same = is_same m n t at in
        sym (same_Some a.area r h) ∙ is ∙ ap (λ (k : ℕ). area nodes k m.frame) (sym same.0) ∙ ap (area nodes n) (sym same.1)
    by_test false at h = are n t r h

-- and each node is asked so
pub asked_step : (nodes : Nodes) (m : NodeFrame) (a : Reached) (old new : Regions) → AreAskedSo nodes old
    → IsAskedSo (nodes m.node) m.frame a.asked → Updates node_frame_cmp old.reached new.reached m (Some a)
    → AreAskedSo nodes new
asked_step nodes m a old new are is u n t r e =
    by_test (is_at (node_frame_cmp m) (node_frame n t)) refl (sym (u.0 (node_frame n t)) ∙ e)
  where
    by_test : (b : Bool) → is_at (node_frame_cmp m) (node_frame n t) ≡ b → cond b (Some a) (known old n t) ≡ Some r
        → IsAskedSo (nodes n) t r.asked
    by_test true at h =
        let same = is_same m n t at in
        subst (λ (k : Reached). IsAskedSo (nodes n) t k.asked) (same_Some a r h)
        (subst (λ (k : ℕ). IsAskedSo (nodes k) t a.asked) (sym same.0)
        (subst (λ (f : ℤ). IsAskedSo (nodes m.node) f a.asked) (sym same.1) is))
    by_test false at h = are n t r h

-- an effect is asked somehow
pub asked_some : (node : Node) (o : EffectNode) (t : ℤ) (asked : Option Asked) → node ≡ Effect o
    → IsAskedSo node t asked → IsSome asked
asked_some node o t asked stands is = by_asked asked (subst (λ (n : Node). IsAskedSo n t asked) stands is)
  where
    by_asked : (a : Option Asked) → IsAskedSo (Effect o) t a → IsSome a
    by_asked None h = absurd h
    by_asked (Some a) h = refl

-- with the effect's values, and what it reads
pub asked_so : (node : Node) (o : EffectNode) (t : ℤ) (asked : Option Asked) (a : Asked) → node ≡ Effect o
    → IsAskedSo node t asked → asked ≡ Some a → (a.values ≡ o.values t) × AreReads o t a.reads.items
asked_so node o t asked a stands is some =
    subst (IsAskedSo (Effect o) t) some (subst (λ (n : Node). IsAskedSo n t asked) stands is)

-- in the end each of them has its region
pub filling_end : (nodes : Nodes) (node_frames : BTreeSet NodeFrame) (regions : Regions) → AreAreas nodes regions
    → AreAskedSo nodes regions → IsFilling node_frames [] regions → AreAreasOf nodes node_frames regions
filling_end nodes node_frames regions right asked f =
    record {
      right = right;
      asked = asked;
      all = λ n t h. elim (f.left (node_frame n t) (key_of node_frames n t h)) [ inl i ↦ absurd i | inr some ↦ some ];
      only = λ n t some. has_key node_frames (node_frame n t) (f.only (node_frame n t) some);
    }

-- ---- what the whole table is

pub regions_made : (a b : Nodes) (count output : ℕ) (at : ℤ) (node_frames : BTreeSet NodeFrame) (regions : Regions)
    → ((n : ℕ) (t : ℤ) (m : ℕ) (f : ℤ) → IsReadBy (a n) t m f → IsReadBy (b n) t m f)
    → ((n : ℕ) (t : ℤ) (m : ℕ) (f : ℤ) → IsReadBy (b n) t m f → IsReadBy (a n) t m f)
    → IsReach a output at at (has node_frames) → ((n : ℕ) (t : ℤ) → has node_frames n t ≡ true → IsPlace count n t)
    → AreAreasOf b node_frames regions → AreRegions b count output at regions
regions_made a b count output at node_frames regions there back reach places are =
    record {
      right = are.right;
      asked = are.asked;
      all = λ n t h. are.all n t (reach.all n t (reached_same b a output at at n t back h));
      only = λ n t some. reached_same a b output at at n t there (reach.only n t (are.only n t some));
      places = λ n t some. places n t (are.only n t some);
    }

-- with a node it has what the node reads
pub is_table : (nodes : Nodes) (count output : ℕ) (at : ℤ) (regions : Regions) → AreRegions nodes count output at regions
    → IsTable nodes count regions
is_table nodes count output at regions are =
    record {
      right = are.right;
      asked = are.asked;
      reads = λ n t some m f r. are.all m f (λ s closed. closed.reads n t (are.only n t some s closed) m f r);
      places = are.places;
    }

-- ---- what is read is there

-- the node of a clip is there
pub clip_there : (o : EffectNode) (t : ℤ) (regions : Regions) (c : ℕ) (clip : Option ℕ) (fs : List ℤ)
    → HasReads regions (Effect o) t → clip ≡ clip_node o c → fs ≡ clip_frames o t c → HasClip regions clip fs
clip_there o t regions c None fs has at is = tt
clip_there o t regions c (Some m) fs has at is =
    all_from (Has regions m) fs (λ f i.
    has m f (record {
      clip = c;
      node = sym at;
      frame = listed_frames (o.meaning.spans (o.values t) c) f
          (ap (λ (gs : List ℤ). has_frame gs f) (sym is) ∙ listed fs f i);
    }))

-- ---- the regions of a scene

pub scene_table : {E : Type 0} (meaning : E → Meaning) (scene : Shot E) (regions : Regions) (nodes : Nodes) (count : ℕ)
    → IsMadeOf meaning scene regions → nodes ≡ scene_nodes meaning scene → count ≡ length scene.graph.nodes
    → IsTable nodes count regions
scene_table meaning scene regions nodes count made same many =
    subst (λ (ns : Nodes). IsTable ns count regions) (sym same)
    (subst (λ (k : ℕ). IsTable (scene_nodes meaning scene) k regions) (sym many)
    (is_table (scene_nodes meaning scene) (length scene.graph.nodes) scene.graph.output made.at regions made.are))
