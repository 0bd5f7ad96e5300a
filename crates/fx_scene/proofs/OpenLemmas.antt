-- What is opened one by one.
use Rattle.std.proofs.Common.{◌≡◌, ℕ, suc, ◌<◌, ◌≤◌, ◌+◌, ℤ, pos, ◌≤ℤ◌, ◌<ℤ◌, ◌+ℤ◌, Bool, true, false, ◌||◌, List, [], ◌∷◌, ◌++◌, map, length, take, get_or, slice_index_or, Option, Some, None, refl, sym, ap, ◌∙◌, subst, arith, ◌⊎◌, inl, inr}
use Rattle.std.proofs.lemmas.Int.{ints}
use Rattle.std.proofs.lemmas.Bool.{or_cases, or_left, or_right, cases_eq, cases_lt, false≢true}
use Rattle.std.proofs.lemmas.List.{take_more, get_or-take, length-take-le, get_or_default, get_or-map, length-map}
use Rattle.std.specs.Ordering.{int_eq}
use Rattle.std.specs.BTreeSet.{BTreeSet, Updates}
use Rattle.fx_scene.specs.declared.reaching.NodeFrame.{NodeFrame}
use Rattle.std.specs.declared.alloc.Global.{Global}
use Rattle.std.specs.declared.vec.Vec.{Vec}
use Rattle.fx_scene.specs.Frames.{has_frame, items_of}
use Rattle.fx_scene.specs.Reach.{Adds, IsClipRead, has, node_frame, node_frame_cmp}
use Rattle.fx_scene.proofs.ReachLemmas.{IsAt, adds_as, adds_none, adds_one, adds_then}

pub same_frame : (f t : ℤ) → int_eq f t ≡ true → t ≡ f
same_frame f t h = grind (arith, ints)

pub own_frame : (t : ℤ) → int_eq t t ≡ true
own_frame t = grind (arith, ints)

-- one frame behind the others
behind : (fs : List ℤ) (f t : ℤ) → has_frame (fs ++ f ∷ []) t ≡ true → (has_frame fs t ≡ true) ⊎ (t ≡ f)
behind [] f t h = elim (or_cases (int_eq f t) false h) [ inl e ↦ inr (same_frame f t e) | inr e ↦ absurd (false≢true e) ]
behind (g ∷ fs) f t h = elim (or_cases (int_eq g t) (has_frame (fs ++ f ∷ []) t) h) [
  | inl e ↦ inl (or_left (int_eq g t) (has_frame fs t) e)
  | inr e ↦ elim (behind fs f t e) [ inl i ↦ inl (or_right (int_eq g t) (has_frame fs t) i) | inr i ↦ inr i ]
]

before : (fs : List ℤ) (f t : ℤ) → has_frame fs t ≡ true → has_frame (fs ++ f ∷ []) t ≡ true
before [] f t h = absurd (false≢true h)
before (g ∷ fs) f t h = elim (or_cases (int_eq g t) (has_frame fs t) h) [
  | inl e ↦ or_left (int_eq g t) (has_frame (fs ++ f ∷ []) t) e
  | inr e ↦ or_right (int_eq g t) (has_frame (fs ++ f ∷ []) t) (before fs f t e)
]

last_one : (fs : List ℤ) (f : ℤ) → has_frame (fs ++ f ∷ []) f ≡ true
last_one [] f = or_left (int_eq f f) false (own_frame f)
last_one (g ∷ fs) f = or_right (int_eq g f) (has_frame (fs ++ f ∷ []) f) (last_one fs f)

-- a node at the first frames, and at one more
pub one_frame : (node : ℕ) (frames : List ℤ) (i : ℕ) (f : ℤ) (first old new : BTreeSet NodeFrame)
    → i < length frames → f ≡ get_or frames i (pos 0)
    → Adds (λ n t. (n ≡ node) × (has_frame (take i frames) t ≡ true)) first old
    → Updates node_frame_cmp old new (node_frame node f) true
    → Adds (λ n t. (n ≡ node) × (has_frame (take (i + 1) frames) t ≡ true)) first new
one_frame node frames i f first old new low is a u =
    subst (λ (fs : List ℤ). Adds (λ n t. (n ≡ node) × (has_frame fs t ≡ true)) first new) (sym front)
    (adds_then _ (IsAt (node_frame node f)) _ first old new a (adds_one old new (node_frame node f) u)
    (λ n t h. (h.0, before (take i frames) f t h.1))
    (λ n t h. (h.0, subst (λ (g : ℤ). has_frame (take i frames ++ f ∷ []) g ≡ true) (sym h.1) (last_one (take i frames) f)))
    (λ n t h. elim (behind (take i frames) f t h.1) [ inl e ↦ inl (h.0, e) | inr e ↦ inr (h.0, e) ]))
  where
    front : take (i + 1) frames ≡ take i frames ++ f ∷ []
    front = take_more frames i (pos 0) low ∙ ap (λ (g : ℤ). take i frames ++ g ∷ []) (sym is)

-- a node at the frames before f, and at f
pub one_of_range : (node : ℕ) (low last f : ℤ) (first old new : BTreeSet NodeFrame) → low ≤ℤ f → f ≤ℤ last
    → Adds (λ n t. (n ≡ node) × (low ≤ℤ t) × (t ≤ℤ last) × (t <ℤ f)) first old
    → Updates node_frame_cmp old new (node_frame node f) true
    → Adds (λ n t. (n ≡ node) × (low ≤ℤ t) × (t ≤ℤ last) × (t <ℤ (f +ℤ pos 1))) first new
one_of_range node low last f first old new from to a u =
    adds_then (λ n t. (n ≡ node) × (low ≤ℤ t) × (t ≤ℤ last) × (t <ℤ f)) (IsAt (node_frame node f))
    (λ n t. (n ≡ node) × (low ≤ℤ t) × (t ≤ℤ last) × (t <ℤ (f +ℤ pos 1))) first old new a (adds_one old new (node_frame node f) u)
    (λ n t h. let d = h.3 in (h.0, h.1, h.2, omega (arith, ints, d)))
    (λ n t h. let e = h.1 in (h.0, omega (arith, ints, e), omega (arith, ints, e), omega (arith, ints, e)))
    (λ n t h. elim (below_or_at t f h.3) [ inl e ↦ inl (h.0, h.1, h.2, e) | inr e ↦ inr (h.0, e) ])
  where
    below_or_at : (t f : ℤ) → t <ℤ (f +ℤ pos 1) → (t <ℤ f) ⊎ (t ≡ f)
    below_or_at t f h = grind (arith, ints)

-- all before the end
pub whole_range : (node : ℕ) (low last f : ℤ) (first new : BTreeSet NodeFrame) → (last +ℤ pos 1) ≤ℤ f
    → Adds (λ n t. (n ≡ node) × (low ≤ℤ t) × (t ≤ℤ last) × (t <ℤ f)) first new
    → Adds (λ n t. (n ≡ node) × (low ≤ℤ t) × (t ≤ℤ last)) first new
whole_range node low last f first new past a =
    adds_as (λ n t. (n ≡ node) × (low ≤ℤ t) × (t ≤ℤ last) × (t <ℤ f)) (λ n t. (n ≡ node) × (low ≤ℤ t) × (t ≤ℤ last)) first new a
    (λ n t h. (h.0, h.1, h.2)) (λ n t h. let e = h.2 in (h.0, h.1, e, omega (arith, ints, e)))

-- the frames of one clip
pub items_at : (reads : List (Vec ℤ Global)) (i : ℕ) (r : Vec ℤ Global) → i < length reads → r ≡ get_or reads i r
    → get_or (map items_of reads) i [] ≡ r.items
items_at reads i r low is =
    let long = length-map reads (items_of {A = ℤ}) in
    get_or_default (map items_of reads) i [] r.items (omega (arith, low, long)) ∙ get_or-map items_of reads i r r.items low ∙ ap items_of (sym is)

-- what the first clips read, or one more
clip_behind : (clips : List (Option ℕ)) (reads : List (List ℤ)) (i : ℕ) (frames : List ℤ) (n : ℕ) (t : ℤ) → i < length reads
    → frames ≡ get_or reads i [] → IsClipRead clips (take (i + 1) reads) n t
    → IsClipRead clips (take i reads) n t ⊎ ((slice_index_or clips i None ≡ Some n) × (has_frame frames t ≡ true))
clip_behind clips reads i frames n t low is r =
    let more : length (take (i + 1) reads) ≡ i + 1 = length-take-le (i + 1) reads (omega (arith, low)) in
    let less : length (take i reads) ≡ i = length-take-le i reads (omega (arith, low)) in
    let there = r.there in
    let long : r.clip < i + 1 = omega (arith, there, more) in
    let same : slice_index_or (take (i + 1) reads) r.clip [] ≡ get_or reads r.clip [] = get_or-take (i + 1) reads r.clip [] long in
    elim (cases_eq r.clip i) [
      | inl e ↦ inr (
        subst (λ (c : ℕ). slice_index_or clips c None ≡ Some n) e r.node,
        ap (λ (fs : List ℤ). has_frame fs t) (is ∙ ap (λ (c : ℕ). get_or reads c []) (sym e) ∙ sym same) ∙ r.frame,
      )
      | inr e ↦
          let lower : r.clip < i = omega (arith, long, e) in
          inl (record {
            clip = r.clip;
            there = omega (arith, lower, less);
            node = r.node;
            frame = ap (λ (fs : List ℤ). has_frame fs t) (get_or-take i reads r.clip [] lower ∙ sym same) ∙ r.frame;
          })
    ]

-- what the first clips read is read by one clip more
clip_before : (clips : List (Option ℕ)) (reads : List (List ℤ)) (i : ℕ) (n : ℕ) (t : ℤ) → i < length reads
    → IsClipRead clips (take i reads) n t → IsClipRead clips (take (i + 1) reads) n t
clip_before clips reads i n t low r =
    let more : length (take (i + 1) reads) ≡ i + 1 = length-take-le (i + 1) reads (omega (arith, low)) in
    let less : length (take i reads) ≡ i = length-take-le i reads (omega (arith, low)) in
    let there = r.there in
    let lower : r.clip < i = omega (arith, there, less) in
    record {
      clip = r.clip;
      there = omega (arith, lower, more);
      node = r.node;
      frame = ap (λ (fs : List ℤ). has_frame fs t) (get_or-take (i + 1) reads r.clip [] (omega (arith, lower)) ∙ sym (get_or-take i reads r.clip [] lower)) ∙ r.frame;
    }

clip_itself : (clips : List (Option ℕ)) (reads : List (List ℤ)) (i : ℕ) (frames : List ℤ) (n : ℕ) (t : ℤ) → i < length reads
    → frames ≡ get_or reads i [] → slice_index_or clips i None ≡ Some n → has_frame frames t ≡ true
    → IsClipRead clips (take (i + 1) reads) n t
clip_itself clips reads i frames n t low is node frame =
    let more : length (take (i + 1) reads) ≡ i + 1 = length-take-le (i + 1) reads (omega (arith, low)) in
    record {
      clip = i;
      there = omega (arith, more);
      node = node;
      frame = ap (λ (fs : List ℤ). has_frame fs t) (get_or-take (i + 1) reads i [] (omega arith) ∙ sym is) ∙ frame;
    }

-- the reads of one clip more
pub one_clip : (clips : List (Option ℕ)) (reads : List (List ℤ)) (c : ℕ) (frames : List ℤ) (first old new : BTreeSet NodeFrame)
    → c < length reads → frames ≡ get_or reads c []
    → Adds (IsClipRead clips (take c reads)) first old
    → Adds (λ n t. (slice_index_or clips c None ≡ Some n) × (has_frame frames t ≡ true)) old new
    → Adds (IsClipRead clips (take (c + 1) reads)) first new
one_clip clips reads c frames first old new low is a b =
    adds_then (IsClipRead clips (take c reads)) (λ n t. (slice_index_or clips c None ≡ Some n) × (has_frame frames t ≡ true))
    (IsClipRead clips (take (c + 1) reads)) first old new a b (λ n t r. clip_before clips reads c n t low r)
    (λ n t h. clip_itself clips reads c frames n t low is h.0 h.1) (λ n t r. clip_behind clips reads c frames n t low is r)
