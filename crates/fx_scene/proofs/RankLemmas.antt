-- NodeFrames by their rank, which falls with each that is taken, so that the search for what is reached ends.
use Rattle.std.proofs.Common.{◌≡◌, ℕ, zero, suc, ◌<◌, ◌≤◌, ◌+◌, ◌-◌, ◌*◌, ℤ, pos, negsuc, neg_ℤ, ◌≤ℤ◌, ◌<ℤ◌, ◌+ℤ◌, Bool, true, false, List, [], ◌∷◌, refl, sym, ap, ◌∙◌, subst, arith, ◌⊎◌, inl, inr, All, max}
use Rattle.std.proofs.lemmas.Int.{ints}
use Rattle.std.proofs.lemmas.Bool.{or_cases, or_left, or_right, false≢true}
use Rattle.std.proofs.lemmas.Cmp.{int_ranked, ranked, tied_itself}
use Rattle.std.specs.Cmp.{Equal-is}
use Rattle.std.specs.List.{list_any}
use Rattle.std.specs.Int.{int_gap}
use Rattle.std.specs.declared.cmp.Ordering.{Ordering}
use Rattle.std.specs.declared.cmp.Ordering.TheVariants.{Less, Equal, Greater}
use Rattle.std.specs.Ordering.{nat_cmp, int_cmp, ordering_then, MatchOrdering}
use Rattle.std.specs.BTreeMap.{is_at}
use Rattle.std.specs.BTreeSet.{BTreeSet}
use Rattle.fx_base.specs.declared.limits.TheConstants.{MOST_NODES}
use Rattle.fx_scene.specs.declared.reaching.NodeFrame.{NodeFrame}
use Rattle.fx_scene.specs.Reach.{IsNearFrame, IsPlace, has, node_frame, node_frame_cmp}
use Rattle.fx_scene.proofs.Members.{In, gap_is}
use Rattle.fx_scene.proofs.ReachLemmas.{exact_node_frames, node_frames_total}

-- how far a frame is behind the first that is near
abbrev pub offset : ℤ → ℕ
offset t = int_gap (neg_ℤ (pos 103400000)) t

-- by node, then by frame
abbrev pub rank : ℕ → ℤ → ℕ
rank n t = n * 206800001 + offset t

offset_is : (n : ℕ) (t : ℤ) → IsNearFrame n t → (neg_ℤ (pos 103400000) +ℤ pos (offset t) ≡ t) × (offset t ≤ 206800000)
offset_is n t near =
    let a = near.low in
    let b = near.high in
    let few : MOST_NODES - n ≤ 1024 = omega arith in
    let e = gap_is (neg_ℤ (pos 103400000)) t (omega (arith, ints, few)) in
    (e, omega (arith, ints, few))

-- a node before another has the lower rank
pub rank_below : (n m : ℕ) (t f : ℤ) → n < m → IsNearFrame n t → rank n t < rank m f
rank_below n m t f low near = let a = (offset_is n t near).1 in omega (arith, low)

-- and so has an earlier frame of a node
pub rank_earlier : (n : ℕ) (t f : ℤ) → t <ℤ f → IsNearFrame n t → IsNearFrame n f → rank n t < rank n f
rank_earlier n t f low a b =
    let p = (offset_is n t a).0 in
    let q = (offset_is n f b).0 in
    let less : offset t < offset f = omega (arith, ints) in
    omega (arith, less)

-- what a comparison says
abbrev pub IsLower : NodeFrame → NodeFrame → Type 0
IsLower p q = (p.node < q.node) ⊎ ((p.node ≡ q.node) × (p.frame <ℤ q.frame))

lower_by : (p q : NodeFrame) (a b : Ordering) → MatchOrdering a (p.node < q.node) (p.node ≡ q.node) (q.node < p.node)
    → MatchOrdering b (p.frame <ℤ q.frame) (p.frame ≡ q.frame) (q.frame <ℤ p.frame) → ordering_then a b ≡ Less → IsLower p q
lower_by p q Less b x y e = inl x
lower_by p q Equal Less x y e = inr (x, y)
lower_by p q Equal Equal x y e = absurd cc
lower_by p q Equal Greater x y e = absurd cc
lower_by p q Greater b x y e = absurd cc

pub is_lower : (p q : NodeFrame) → node_frame_cmp p q ≡ Less → IsLower p q
is_lower p q e =
    lower_by p q (nat_cmp p.node q.node) (int_cmp p.frame q.frame) (ranked p.node q.node (nat_cmp p.node q.node) refl)
    (int_ranked p.frame q.frame (int_cmp p.frame q.frame) refl) e

pub rank_lower : (count : ℕ) (p q : NodeFrame) → IsLower p q → IsPlace count p.node p.frame → IsPlace count q.node q.frame
    → rank p.node p.frame < rank q.node q.frame
rank_lower count p q h a b = elim h [
  | inl low ↦ rank_below p.node q.node p.frame q.frame low a.near
  | inr e ↦ subst (λ (n : ℕ). rank p.node p.frame < rank n q.frame) e.0
      (rank_earlier p.node p.frame q.frame e.1 a.near (subst (λ (n : ℕ). IsNearFrame n q.frame) (sym e.0) b.near))
]

-- ---- the members of a set

found : (m : NodeFrame) (ks : List NodeFrame) → list_any (is_at (node_frame_cmp m)) ks ≡ true → In ks m
found m [] h = absurd (false≢true h)
found m (k ∷ ks) h = elim (or_cases (is_at (node_frame_cmp m) k) (list_any (is_at (node_frame_cmp m)) ks) h) [
  | inl e ↦ inl (sym (exact_node_frames m k ((Equal-is _).0 e)))
  | inr e ↦ inr (found m ks e)
]

at_itself : (m : NodeFrame) → is_at (node_frame_cmp m) m ≡ true
at_itself m = (Equal-is _).1 (tied_itself node_frames_total m)

finds : (m : NodeFrame) (ks : List NodeFrame) → In ks m → list_any (is_at (node_frame_cmp m)) ks ≡ true
finds m [] h = absurd h
finds m (k ∷ ks) h = elim h [
  | inl e ↦ or_left (is_at (node_frame_cmp m) k) (list_any (is_at (node_frame_cmp m)) ks)
      (subst (λ (p : NodeFrame). is_at (node_frame_cmp m) p ≡ true) (sym e) (at_itself m))
  | inr i ↦ or_right (is_at (node_frame_cmp m) k) (list_any (is_at (node_frame_cmp m)) ks) (finds m ks i)
]

-- a node at a frame that the set has is one of its keys
pub key_of : (s : BTreeSet NodeFrame) (n : ℕ) (t : ℤ) → has s n t ≡ true → In s.keys (node_frame n t)
key_of s n t h = found (node_frame n t) s.keys h

pub has_key : (s : BTreeSet NodeFrame) (m : NodeFrame) → In s.keys m → has s m.node m.frame ≡ true
has_key s m i = finds m s.keys i

-- ---- above all ranks

abbrev pub top : List NodeFrame → ℕ
top [] = 0
top (k ∷ ks) = max (suc (rank k.node k.frame)) (top ks)

pub top_least : (ks : List NodeFrame) (above : ℕ) → ((k : NodeFrame) → In ks k → rank k.node k.frame < above) → top ks ≤ above
top_least [] above h = omega arith
top_least (k ∷ ks) above h =
    let here = h k (inl refl) in
    let rest = top_least ks above (λ j i. h j (inr i)) in
    omega (arith, here, rest)

pub top_above : (ks : List NodeFrame) (m : NodeFrame) → In ks m → rank m.node m.frame < top ks
top_above [] m h = absurd h
top_above (k ∷ ks) m h = elim h [
  | inl e ↦ subst (λ (p : NodeFrame). rank p.node p.frame < top (k ∷ ks)) e (omega arith)
  | inr i ↦ let rest = top_above ks m i in omega (arith, rest)
]
