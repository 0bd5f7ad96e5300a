-- The search for what is demanded: each of its steps.
use Rattle.std.proofs.Common.{◌≡◌, ◌≢◌, ℕ, ◌<◌, ◌≤◌, ◌+◌, ◌-◌, ℤ, ◌≤ℤ◌, true, false, List, [], ◌∷◌, ◌++◌, length, take, get_or, refl, sym, ap, ◌∙◌, subst, arith, inl, inr, All}
use Rattle.std.specs.declared.cmp.Ordering.TheVariants.{Less}
use Rattle.std.specs.BTreeSet.{BTreeSet, Updates}
use Rattle.std.proofs.lemmas.Int.{ints}
use Rattle.std.proofs.lemmas.List.{flat_map_more, take_more}
use Rattle.std.proofs.lemmas.List.Elements.{All-append, All-cons, All-head, All-nil}
use Rattle.std.specs.List.{flat_map}
use Rattle.fx_base.specs.Bounds.{Bounds, IsRect, none}
use Rattle.fx_base.specs.Rect.{IsFrame}
use Rattle.fx_base.specs.declared.limits.TheConstants.{MOST_NODES}
use Rattle.fx_scene.specs.Areas.{area}
use Rattle.fx_scene.specs.Nodes.{AreNodes, Nodes}
use Rattle.fx_scene.specs.Reach.{IsNearFrame}
use Rattle.fx_scene.proofs.Members.{In, all_from, all_in, in_left, in_of, in_right}
use Rattle.fx_scene.proofs.Outside.{area_window}
use Rattle.fx_region.specs.Ends.{EndShown, Frame, Render, Void}
use Rattle.fx_region.specs.Needs.{NeedShown}
use Rattle.fx_region.specs.Stands.{NeedStands, StandsBelow}
use Rattle.fx_region.specs.Tables.{IsTable}
use Rattle.fx_region.specs.declared.regions.Regions.{Regions}
use Rattle.fx_region.proofs.FollowLemmas.{window_within}
use Rattle.fx_plan.specs.declared.entry.Entry.{Entry}
use Rattle.fx_plan.specs.declared.entry.SortKey.{SortKey}
use Rattle.fx_plan.specs.Keys.{Adds, AreRenders, HasRect, IsRenderEntry, entry_of, has, key_cmp, key_of}
use Rattle.fx_plan.specs.Plan.{entry_at, need_entry}
use Rattle.fx_plan.proofs.KeyLemmas.{adds_then, fewer, has_entry, in_keys, the_one}
use Rattle.fx_plan.proofs.RankLemmas.{IsNearEntry, is_before, rank, rank_before, top, top_above, top_least}

pub none_has : (s : BTreeSet SortKey) → s.keys ≡ [] → (e : Entry) → has s e ≡ true → ⊥
none_has s is e h = subst (λ (ks : List SortKey). In ks (key_of e)) is (in_keys s e h)

-- with no keys there is none
pub none_left : (s : BTreeSet SortKey) → (0 < length s.keys → ⊥) → (e : Entry) → has s e ≡ true → ⊥
none_left s none e h = none (some s.keys (key_of e) (in_keys s e h))
  where
    some : (ks : List SortKey) (k : SortKey) → In ks k → 0 < length ks
    some [] k i = absurd i
    some (j ∷ ks) k i = omega arith

-- ---- lists, element by element

all_left : {X : Type 0} (P : X → Type 0) (xs ys : List X) → All P (xs ++ ys) → All P xs
all_left P xs ys a = all_from P xs (λ x i. all_in P (xs ++ ys) x a (in_left xs ys x i))

all_right : {X : Type 0} (P : X → Type 0) (xs ys : List X) → All P (xs ++ ys) → All P ys
all_right P xs ys a = all_from P ys (λ x i. all_in P (xs ++ ys) x a (in_right xs ys x i))

-- the first of them and one more
pub front : {X Y : Type 0} (f : X → List Y) (xs : List X) (i : ℕ) (d x : X) → i < length xs → x ≡ get_or xs i d
    → flat_map f (take (i + 1) xs) ≡ flat_map f (take i xs) ++ f x
front f xs i d x low is =
    ap (flat_map f) (take_more xs i d low ∙ ap (λ y. take i xs ++ y ∷ []) (sym is))
    ∙ sym (flat_map_more f [] (take i xs) x)

pub adds_more : {X : Type 0} (f : X → List Entry) (xs : List X) (i : ℕ) (d x : X) (first old new : BTreeSet SortKey)
    → i < length xs → x ≡ get_or xs i d → Adds (flat_map f (take i xs)) first old → Adds (f x) old new
    → Adds (flat_map f (take (i + 1) xs)) first new
adds_more f xs i d x first old new low is a b =
    subst (λ (es : List Entry). Adds es first new) (sym (front f xs i d x low is))
    (adds_then (flat_map f (take i xs)) (f x) first old new a b)

pub all_more : {X : Type 0} (P : Entry → Type 0) (f : X → List Entry) (xs : List X) (i : ℕ) (d x : X) → i < length xs
    → x ≡ get_or xs i d → All P (flat_map f (take i xs)) → All P (f x) → All P (flat_map f (take (i + 1) xs))
all_more P f xs i d x low is a b =
    subst (All P) (sym (front f xs i d x low is)) (All-append P (flat_map f (take i xs)) (f x) a b)

module _ (nodes : Nodes) (regions : Regions) where
  -- renders of rectangles
  pub end_render : (n : ℕ) (e : EndShown) → StandsBelow nodes regions n e → All HasRect (entry_at e)
      → All (IsRenderEntry nodes regions n) (entry_at e)
  end_render n Void h rects = All-nil (IsRenderEntry nodes regions n)
  end_render n (Frame m f r through) h rects = All-nil (IsRenderEntry nodes regions n)
  end_render n (Render m f r cut through) h rects =
      let e : Entry = record { node = m; frame = f; region = r } in
      All-cons (IsRenderEntry nodes regions n) e []
      (record {
        rect = All-head HasRect e [] rects;
        earlier = h.earlier;
        reached = h.reached;
        some = h.some;
        inside = h.inside;
      })
      (All-nil (IsRenderEntry nodes regions n))

  pub need_renders : (n : ℕ) (needs : List NeedShown) → All (NeedStands nodes regions n) needs
      → All HasRect (flat_map need_entry needs) → All (IsRenderEntry nodes regions n) (flat_map need_entry needs)
  need_renders n [] stand rects = All-nil (IsRenderEntry nodes regions n)
  need_renders n (x ∷ needs) stand rects =
      All-append (IsRenderEntry nodes regions n) (need_entry x) (flat_map need_entry needs)
      (end_render n x.end (all_in (NeedStands nodes regions n) (x ∷ needs) x stand (inl refl))
      (all_left HasRect (need_entry x) (flat_map need_entry needs) rects))
      (need_renders n needs (all_from (NeedStands nodes regions n) needs (λ y i.
      all_in (NeedStands nodes regions n) (x ∷ needs) y stand (inr i)))
      (all_right HasRect (need_entry x) (flat_map need_entry needs) rects))

  -- of more nodes
  pub raised : (m n : ℕ) (e : Entry) → m ≤ n → IsRenderEntry nodes regions m e → IsRenderEntry nodes regions n e
  raised m n e low h =
      let earlier = h.earlier in
      record {
        rect = h.rect;
        earlier = omega (arith, low, earlier);
        reached = h.reached;
        some = h.some;
        inside = h.inside;
      }

  -- what is pending then
  pub step_renders : (n : ℕ) (needed : List Entry) (pending less more : BTreeSet SortKey) (k : SortKey)
      → AreRenders nodes regions n pending → has pending (entry_of k) ≡ true → Updates key_cmp pending less k false
      → Adds needed less more → All (IsRenderEntry nodes regions k.node) needed → AreRenders nodes regions n more
  step_renders n needed pending less more k renders there u a stand e h = elim (a.only e h) [
    | inl l ↦ renders e (fewer pending less k u e l)
    | inr c ↦
        let earlier = (renders (entry_of k) there).earlier in
        raised k.node n e (omega (arith, earlier))
        (all_in (IsRenderEntry nodes regions k.node) needed e stand (in_of needed e c))
  ]

  -- what is demanded then
  pub one_render : (n : ℕ) (pending done next : BTreeSet SortKey) (k : SortKey) → AreRenders nodes regions n pending
      → has pending (entry_of k) ≡ true → AreRenders nodes regions n done → Adds (entry_of k ∷ []) done next
      → AreRenders nodes regions n next
  one_render n pending done next k renders there old one e h = elim (one.only e h) [
    | inl i ↦ old e i
    | inr c ↦ subst (IsRenderEntry nodes regions n) (sym (the_one (entry_of k) e c)) (renders (entry_of k) there)
  ]

  -- only what is added
  pub start_renders : (n : ℕ) (entries : List Entry) (empty pending : BTreeSet SortKey)
      → ((e : Entry) → has empty e ≡ true → ⊥) → Adds entries empty pending
      → All (IsRenderEntry nodes regions n) entries → AreRenders nodes regions n pending
  start_renders n entries empty pending none a stand e h = elim (a.only e h) [
    | inl i ↦ absurd (none e i)
    | inr c ↦ all_in (IsRenderEntry nodes regions n) entries e stand (in_of entries e c)
  ]

near_frame : (n : ℕ) (t : ℤ) → IsNearFrame n t → IsFrame t
near_frame n t near =
    let low = near.low in
    let high = near.high in
    let few : MOST_NODES - n ≤ 1024 = omega arith in
    (omega (arith, ints, low, few), omega (arith, ints, high, few))

proper : (r : Bounds) → IsRect r → r ≢ none → (r.x1 ≤ℤ r.x2) × (r.y1 ≤ℤ r.y2)
proper r is some = elim is [
  | inl e ↦ absurd (some e)
  | inr p ↦ let x = p.0 in let y = p.1 in (omega (arith, ints, x), omega (arith, ints, y))
]

module _ (nodes : Nodes) (are : AreNodes nodes) (regions : Regions) (count : ℕ) (few : count ≤ 1024) (table : IsTable nodes count regions) where
  near_entry : (n : ℕ) (e : Entry) → IsRenderEntry nodes regions n e → IsNearEntry e
  near_entry n e h =
      let place = table.places e.node e.frame h.reached in
      let there = place.there in
      let window =
      window_within e.region (area nodes e.node e.frame) h.rect h.inside
      (area_window nodes are e.node e.frame (omega (arith, few, there))) in
      let p = proper e.region h.rect h.some in
      let x = p.0 in
      let y = p.1 in
      let left = window.near.left in
      let right = window.near.right in
      let bottom = window.near.bottom in
      let above = window.near.top in
      record {
        frame = near_frame e.node e.frame place.near;
        y1 = (bottom, omega (arith, ints, above, y));
        x1 = (left, omega (arith, ints, right, x));
        y2 = (omega (arith, ints, bottom, y), above);
        x2 = (omega (arith, ints, left, x), right);
      }

  -- what is needed stands at nodes before, so it has lower ranks, and so has what is left
  pub step_smaller : (n : ℕ) (needed : List Entry) (pending less more : BTreeSet SortKey) (k : SortKey)
      → AreRenders nodes regions n pending → has pending (entry_of k) ≡ true → Updates key_cmp pending less k false
      → All (λ q. key_cmp q k ≡ Less) less.keys → Adds needed less more
      → All (IsRenderEntry nodes regions k.node) needed → top more.keys < top pending.keys
  step_smaller n needed pending less more k renders there u below a stand =
      let least : top more.keys ≤ rank (entry_of k) = top_least more.keys (rank (entry_of k)) lower in
      let above : rank (entry_of k) < top pending.keys = top_above pending.keys k (in_keys pending (entry_of k) there) in
      omega (arith, least, above)
    where
      here : IsNearEntry (entry_of k)
      here = near_entry n (entry_of k) (renders (entry_of k) there)

      lower : (j : SortKey) → In more.keys j → rank (entry_of j) < rank (entry_of k)
      lower j i = elim (a.only (entry_of j) (has_entry more j i)) [
        | inl l ↦
            rank_before (entry_of j) (entry_of k)
            (near_entry n (entry_of j) (renders (entry_of j) (fewer pending less k u (entry_of j) l))) here
            (is_before j k (all_in (λ q. key_cmp q k ≡ Less) less.keys j below (in_keys less (entry_of j) l)))
        | inr c ↦
            let own = all_in (IsRenderEntry nodes regions k.node) needed (entry_of j) stand (in_of needed (entry_of j) c) in
            rank_before (entry_of j) (entry_of k) (near_entry k.node (entry_of j) own) here (inl own.earlier)
      ]
