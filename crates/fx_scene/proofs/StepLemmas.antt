-- The search for what is reached: where it begins, and each of its steps.
use Rattle.std.proofs.Common.{◌≡◌, ℕ, suc, ◌<◌, ◌≤◌, ◌+◌, ◌-◌, ◌*◌, ℤ, pos, neg_ℤ, ◌≤ℤ◌, Bool, true, false, cond, List, [], ◌∷◌, length, refl, sym, ap, ◌∙◌, subst, arith, ◌⊎◌, inl, inr, All}
use Rattle.std.proofs.lemmas.Int.{ints}
use Rattle.std.proofs.lemmas.Bool.{false≢true}
use Rattle.std.specs.declared.cmp.Ordering.TheVariants.{Less}
use Rattle.std.specs.BTreeMap.{is_at}
use Rattle.std.specs.BTreeSet.{BTreeSet, Updates, contains}
use Rattle.fx_base.specs.declared.limits.TheConstants.{LAST_FRAME, MOST_NODES}
use Rattle.fx_scene.specs.declared.reaching.NodeFrame.{NodeFrame}
use Rattle.fx_scene.specs.Nodes.{AreNodes, Nodes}
use Rattle.fx_scene.specs.Reach.{Adds, IsPlace, IsReadBy, has, node_frame, node_frame_cmp}
use Rattle.fx_scene.proofs.Members.{In, all_in}
use Rattle.fx_scene.proofs.NearLemmas.{read_place}
use Rattle.fx_scene.proofs.RankLemmas.{has_key, is_lower, key_of, rank, rank_below, rank_lower, top, top_above, top_least}
use Rattle.fx_scene.proofs.ReachLemmas.{IsAt, is_same}

-- each node at a frame of the set is one of a graph with this many nodes
abbrev pub HasPlaces : ℕ → BTreeSet NodeFrame → Type 0
HasPlaces count s = (n : ℕ) (t : ℤ) → has s n t ≡ true → IsPlace count n t

pub none_has : (s : BTreeSet NodeFrame) → s.keys ≡ [] → (n : ℕ) (t : ℤ) → has s n t ≡ true → ⊥
none_has s e n t h = subst (λ (ks : List NodeFrame). In ks (node_frame n t)) e (key_of s n t h)

-- with no keys there is none
pub none_left : (s : BTreeSet NodeFrame) → (0 < length s.keys → ⊥) → (n : ℕ) (t : ℤ) → has s n t ≡ true → ⊥
none_left s e n t h = e (some s.keys (node_frame n t) (key_of s n t h))
  where
    some : (ks : List NodeFrame) (m : NodeFrame) → In ks m → 0 < length ks
    some [] m i = absurd i
    some (k ∷ ks) m i = omega arith

-- the output's places
pub start_places : (count output : ℕ) (first last : ℤ) (empty pending : BTreeSet NodeFrame) → count ≤ MOST_NODES
    → output < count → neg_ℤ (pos LAST_FRAME) ≤ℤ first → last ≤ℤ pos LAST_FRAME
    → ((n : ℕ) (t : ℤ) → has empty n t ≡ true → ⊥)
    → Adds (λ n t. (n ≡ output) × (first ≤ℤ t) × (t ≤ℤ last)) empty pending → HasPlaces count pending
start_places count output first last empty pending few there low high none a n t h =
    elim (a.only n t h) [
      | inl e ↦ absurd (none n t e)
      | inr e ↦
          let same = e.0 in
          let after = e.1 in
          let before = e.2 in
          record { there = omega (arith, same, there); near = record { low = omega (arith, ints); high = omega (arith, ints) } }
    ]

-- ---- the greatest node at a frame is taken

-- what is left was there
pub fewer : (pending less : BTreeSet NodeFrame) (m : NodeFrame) → Updates node_frame_cmp pending less m false
    → (n : ℕ) (t : ℤ) → has less n t ≡ true → has pending n t ≡ true
fewer pending less m u n t h = by_test (is_at (node_frame_cmp m) (node_frame n t)) (sym (u.0 (node_frame n t)) ∙ h)
  where
    by_test : (b : Bool) → cond b false (has pending n t) ≡ true → has pending n t ≡ true
    by_test true e = absurd (false≢true e)
    by_test false e = e

-- what was there is the one that was taken, or is left
pub split : (pending less : BTreeSet NodeFrame) (m : NodeFrame) → Updates node_frame_cmp pending less m false
    → (n : ℕ) (t : ℤ) → has pending n t ≡ true → IsAt m n t ⊎ (has less n t ≡ true)
split pending less m u n t h = by_test (is_at (node_frame_cmp m) (node_frame n t)) refl (u.0 (node_frame n t))
  where
    by_test : (b : Bool) → is_at (node_frame_cmp m) (node_frame n t) ≡ b → has less n t ≡ cond b false (has pending n t)
        → IsAt m n t ⊎ (has less n t ≡ true)
    by_test true e i = inl (is_same m n t e)
    by_test false e i = inr (i ∙ h)

-- what is pending then is at places before
pub step_places : (nodes : Nodes) (count : ℕ) (pending less more : BTreeSet NodeFrame) (m : NodeFrame) → AreNodes nodes
    → count ≤ MOST_NODES → HasPlaces count pending → has pending m.node m.frame ≡ true
    → Updates node_frame_cmp pending less m false → Adds (IsReadBy (nodes m.node) m.frame) less more → HasPlaces count more
step_places nodes count pending less more m are few places there u a n t h =
    elim (a.only n t h) [
      | inl e ↦ places n t (fewer pending less m u n t e)
      | inr r ↦ (read_place nodes count m.node m.frame n t are few (places m.node m.frame there) r).1
    ]

-- and has lower ranks
pub step_smaller : (nodes : Nodes) (count : ℕ) (pending less more : BTreeSet NodeFrame) (m : NodeFrame) → AreNodes nodes
    → count ≤ MOST_NODES → HasPlaces count pending → has pending m.node m.frame ≡ true
    → Updates node_frame_cmp pending less m false → All (λ q. node_frame_cmp q m ≡ Less) less.keys
    → Adds (IsReadBy (nodes m.node) m.frame) less more → top more.keys < top pending.keys
step_smaller nodes count pending less more m are few places there u below a =
    let least : top more.keys ≤ rank m.node m.frame = top_least more.keys (rank m.node m.frame) lower in
    let above : rank m.node m.frame < top pending.keys = top_above pending.keys m (key_of pending m.node m.frame there) in
    omega (arith, least, above)
  where
    lower : (k : NodeFrame) → In more.keys k → rank k.node k.frame < rank m.node m.frame
    lower k i = elim (a.only k.node k.frame (has_key more k i)) [
      | inl e ↦
          rank_lower count k m
          (is_lower k m (all_in (λ q. node_frame_cmp q m ≡ Less) less.keys k below (key_of less k.node k.frame e)))
          (places k.node k.frame (fewer pending less m u k.node k.frame e)) (places m.node m.frame there)
      | inr r ↦
          let p = read_place nodes count m.node m.frame k.node k.frame are few (places m.node m.frame there) r in
          rank_below k.node m.node k.frame m.frame p.0 p.1.near
    ]

-- the node at a frame that was taken is at its place
pub one_place : (count : ℕ) (done next : BTreeSet NodeFrame) (m : NodeFrame) → IsPlace count m.node m.frame → HasPlaces count done
    → Adds (IsAt m) done next → HasPlaces count next
one_place count done next m place places a n t h =
    elim (a.only n t h) [
      | inl e ↦ places n t e
      | inr e ↦ subst (λ (k : ℕ). IsPlace count k t) (sym e.0) (subst (λ (f : ℤ). IsPlace count m.node f) (sym e.1) place)
    ]
