-- What a node reads stands before it, at frames near its own.
use Rattle.std.proofs.Common.{◌≡◌, ℕ, zero, suc, ◌<◌, ◌≤◌, ◌+◌, ◌-◌, ◌*◌, ℤ, pos, neg_ℤ, ◌≤ℤ◌, ◌<ℤ◌, ◌+ℤ◌, ◌-ℤ◌, Bool, true, false, cond, ◌&&◌, ◌||◌, List, [], ◌∷◌, refl, sym, ap, ◌∙◌, subst, arith, ◌⊎◌, inl, inr, All}
use Rattle.std.proofs.lemmas.Int.{ints}
use Rattle.std.proofs.lemmas.Bool.{or_cases, or_left, or_right, and_parts, cases_Bool, false≢true}
use Rattle.std.proofs.lemmas.List.Elements.{All-head, All-tail}
use Rattle.std.specs.List.{filter}
use Rattle.std.specs.Int.Signed.{le_z}
use Rattle.std.specs.Ordering.{int_eq}
use Rattle.fx_base.specs.declared.limits.TheConstants.{MOST_NODES}
use Rattle.fx_effect.specs.Laws.{IsNearSpan}
use Rattle.fx_scene.specs.Frames.{frames_of, greatest, has_frame, in_some, int_span, least}
use Rattle.fx_scene.specs.Nodes.{AreNodes, Effect, EffectNode, IsEffectNode, IsNode, Node, Nodes, Source, SourceFrames}
use Rattle.fx_scene.specs.Reach.{IsNearFrame, IsPlace, IsReadBy, IsTakenBy}
use Rattle.fx_scene.proofs.Members.{In, frames_have}
use Rattle.fx_scene.proofs.OpenLemmas.{own_frame, same_frame}

-- ---- the frames of spans

le_of : (a b : ℤ) → le_z a b ≡ true → a ≤ℤ b
le_of a b h = grind (arith, ints)

-- the span in which a frame lies
pub some_span : (ps : List (ℤ × ℤ)) (f : ℤ) → in_some ps f ≡ true → (p : ℤ × ℤ) × In ps p × (p.0 ≤ℤ f) × (f ≤ℤ p.1)
some_span [] f h = absurd (false≢true h)
some_span (q ∷ qs) f h = elim (or_cases (le_z q.0 f && le_z f q.1) (in_some qs f) h) [
  | inl e ↦ let both = and_parts (le_z q.0 f) (le_z f q.1) e in (q, inl refl, le_of q.0 f both.0, le_of f q.1 both.1)
  | inr e ↦ let r = some_span qs f e in (r.0, inr r.1, r.2, r.3)
]

-- what is in the list is listed
pub listed : (fs : List ℤ) (f : ℤ) → In fs f → has_frame fs f ≡ true
listed [] f h = absurd h
listed (g ∷ fs) f h = elim h [
  | inl e ↦ or_left (int_eq g f) (has_frame fs f) (subst (λ (k : ℤ). int_eq k f ≡ true) (sym e) (own_frame f))
  | inr i ↦ or_right (int_eq g f) (has_frame fs f) (listed fs f i)
]

filtered : (p : ℤ → Bool) (fs : List ℤ) (f : ℤ) → has_frame (filter p fs) f ≡ true → p f ≡ true
filtered p [] f h = absurd (false≢true h)
filtered p (g ∷ fs) f h = elim (cases_Bool (p g)) [
  | inl e ↦ elim (or_cases (int_eq g f) (has_frame (filter p fs) f) (subst (λ (b : Bool). has_frame (cond b (g ∷ filter p fs) (filter p fs)) f ≡ true) e h)) [
    | inl i ↦ ap p (same_frame g f i) ∙ e
    | inr i ↦ filtered p fs f i
  ]
  | inr e ↦ filtered p fs f (subst (λ (b : Bool). has_frame (cond b (g ∷ filter p fs) (filter p fs)) f ≡ true) e h)
]

-- a frame of some span is one of the spans' frames
pub frames_listed : (ps : List (ℤ × ℤ)) (f : ℤ) → in_some ps f ≡ true → has_frame (frames_of ps) f ≡ true
frames_listed ps f h = let r = some_span ps f h in listed (frames_of ps) f (frames_have ps r.0 f r.1 r.2 r.3)

-- and no other is
pub listed_frames : (ps : List (ℤ × ℤ)) (f : ℤ) → has_frame (frames_of ps) f ≡ true → in_some ps f ≡ true
unfolding frames_of
listed_frames [] f h = absurd (false≢true h)
listed_frames (p ∷ ps) f h = filtered (in_some (p ∷ ps)) (int_span (least p.0 ps) (greatest p.1 ps)) f h

-- ---- near

-- both lie within 100,000 of each other
pub record IsNearTo (t f : ℤ) : Type 0 where
  pub after : (t -ℤ pos 100000) ≤ℤ f
  pub before : f ≤ℤ (t +ℤ pos 100000)

near_span : (ps : List (ℤ × ℤ)) (t f : ℤ) → All (IsNearSpan t) ps → in_some ps f ≡ true → IsNearTo t f
near_span [] t f near h = absurd (false≢true h)
near_span (q ∷ qs) t f near h = elim (or_cases (le_z q.0 f && le_z f q.1) (in_some qs f) h) [
  | inl e ↦
      let both = and_parts (le_z q.0 f) (le_z f q.1) e in
      let low = le_of q.0 f both.0 in
      let high = le_of f q.1 both.1 in
      let n = All-head (IsNearSpan t) q qs near in
      let a = n.first_after in
      let b = n.last_before in
      record { after = omega (arith, ints); before = omega (arith, ints) }
  | inr e ↦ near_span qs t f (All-tail (IsNearSpan t) q qs near) e
]

taken_near : (k : ℕ) (o : EffectNode) (t : ℤ) (m : ℕ) (f : ℤ) → IsEffectNode k o → IsTakenBy o t m f → (m < k) × IsNearTo t f
taken_near k o t m f i r = (
  i.earlier r.clip m r.node,
  subst (λ (u : ℤ). IsNearTo u f) (i.frame t)
      (near_span (o.meaning.spans (o.values t) r.clip) (o.values t).frame f (i.laws.frames_near o.context (o.values t) r.clip (i.lawful t)) r.frame),
)

read_near : (k : ℕ) (node : Node) (t : ℤ) (m : ℕ) (f : ℤ) → IsNode k node → IsReadBy node t m f → (m < k) × IsNearTo t f
read_near k (Source s) t m f i r = absurd r
read_near k (Effect o) t m f i r = taken_near k o t m f i r

-- what is read at a place is at a place before it
pub read_place : (nodes : Nodes) (count n : ℕ) (t : ℤ) (m : ℕ) (f : ℤ) → AreNodes nodes → count ≤ MOST_NODES
    → IsPlace count n t → IsReadBy (nodes n) t m f → (m < n) × IsPlace count m f
read_place nodes count n t m f are few p r =
    let at = read_near n (nodes n) t m f (are n) r in
    let lower = at.0 in
    let there = p.there in
    let a = at.1.after in
    let b = at.1.before in
    let c = p.near.low in
    let d = p.near.high in
    (lower, record { there = omega (arith, lower, there); near = record { low = omega (arith, ints, lower, there, few); high = omega (arith, ints, lower, there, few) } })
