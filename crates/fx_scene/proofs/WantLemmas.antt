-- The frames that are wanted, one after the other.
use Rattle.std.proofs.Common.{◌≡◌, ℕ, suc, ◌<◌, ◌-◌, ℤ, pos, negsuc, ◌≤ℤ◌, ◌<ℤ◌, Bool, true, false, ◌&&◌, ◌||◌, nat_eq, cond, List, [], ◌∷◌, ◌++◌, length, slice_get, Option, Some, None, refl, sym, ap, ◌∙◌, subst, arith, ◌⊎◌, inl, inr, AllPairs}
use Rattle.std.proofs.lemmas.Int.{ints, clamps}
use Rattle.std.proofs.lemmas.Bool.{and_parts, false≢true}
use Rattle.std.proofs.lemmas.Bool.Decides.{nat_tests}
use Rattle.std.proofs.lemmas.List.Kept.{AllPairs-cons}
use Rattle.std.proofs.lemmas.Map.Keys.{sorted_head, sorted_tail}
use Rattle.std.proofs.lemmas.Option.{none-some, same_Some}
use Rattle.std.specs.declared.cmp.Ordering.TheVariants.{Less}
use Rattle.std.specs.List.{AllByRecursion, Contains}
use Rattle.std.specs.List.Sorted.{IsStrictlySortedBy}
use Rattle.std.specs.Option.{option_map}
use Rattle.std.specs.Ordering.{int_eq}
use Rattle.std.specs.BTreeSet.{BTreeSet}
use Rattle.fx_base.specs.Pattern.{name_of}
use Rattle.fx_pixel.specs.declared.Depth.{Depth}
use Rattle.fx_pixel.specs.declared.Components.{Components}
use Rattle.fx_effect.specs.Meaning.{Meaning}
use Rattle.fx_seq.specs.Filling.{IsApart}
use Rattle.fx_seq.specs.declared.wanted.Wanted.{Wanted}
use Rattle.fx_graph.specs.Shown.{Does, GraphShown, Shown}
use Rattle.fx_graph.specs.Shown as does
use Rattle.fx_scene.specs.declared.reaching.NodeFrame.{NodeFrame}
use Rattle.fx_scene.specs.Nodes.{Node, Nodes}
use Rattle.fx_scene.specs.Reach.{IsReach, has, node_frame, node_frame_cmp}
use Rattle.fx_scene.specs.Scenes.{graph_nodes, is_between, nearest, no_images, node_of, shown_frame}
use Rattle.fx_scene.specs.Wants.{AreWanted, IsBefore, IsNamedBy, IsNamedIn, Lists, ShowSame, Shows, WantsIn, WantsShown, entry, is_last, is_of, with_shown}
use Rattle.fx_scene.proofs.GraphLemmas.{node_is}
use Rattle.fx_scene.proofs.Members.{In, all_from, in_of}
use Rattle.fx_scene.proofs.OpenLemmas.{same_frame}
use Rattle.fx_scene.proofs.RankLemmas.{IsLower, has_key, is_lower, key_of}

-- ---- lists of entries

pub contains_of : {X : Type 0} (xs : List X) (x : X) → In xs x → Contains xs x
contains_of [] x i = absurd i
contains_of (y ∷ ys) x i = elim i [
  | inl e ↦ (0, omega arith, e)
  | inr j ↦ let c = contains_of ys x j in let low = c.1 in (suc c.0, omega (arith, low), c.2)
]

in_behind : {X : Type 0} (xs : List X) (y x : X) → In (xs ++ y ∷ []) x → In xs x ⊎ (y ≡ x)
in_behind [] y x i = elim i [ inl e ↦ inr e | inr j ↦ absurd j ]
in_behind (z ∷ xs) y x i = elim i [
  | inl e ↦ inl (inl e)
  | inr j ↦ elim (in_behind xs y x j) [ inl k ↦ inl (inr k) | inr k ↦ inr k ]
]

in_before : {X : Type 0} (xs : List X) (y x : X) → In xs x → In (xs ++ y ∷ []) x
in_before [] y x i = absurd i
in_before (z ∷ xs) y x i = elim i [ inl e ↦ inl e | inr j ↦ inr (in_before xs y x j) ]

in_last : {X : Type 0} (xs : List X) (y : X) → In (xs ++ y ∷ []) y
in_last [] y = inl refl
in_last (z ∷ xs) y = inr (in_last xs y)

-- each entry stands before those behind it
abbrev pub Rises : List Wanted → Type 0
Rises [] = Unit {0}
Rises (w ∷ ws) = ((v : Wanted) → In ws v → IsBefore w v) × Rises ws

pub pairs_of : (ws : List Wanted) → Rises ws → AllPairs IsBefore ws
pairs_of [] r = λ i j d low high. absurd (omega (arith, low, high))
pairs_of (w ∷ ws) r = AllPairs-cons IsBefore w ws (all_from (IsBefore w) ws r.0) (pairs_of ws r.1)

apart_of : (v w : Wanted) → IsBefore v w → IsApart v w
apart_of v w b node frame = elim b [
  | inl low ↦ omega (arith, low, node)
  | inr e ↦ let low = e.1 in omega (arith, ints, low, frame)
]

pub apart_pairs : (ws : List Wanted) → Rises ws → AllPairs IsApart ws
apart_pairs [] r = λ i j d low high. absurd (omega (arith, low, high))
apart_pairs (w ∷ ws) r =
    AllPairs-cons IsApart w ws (all_from (IsApart w) ws (λ v i. apart_of w v (r.0 v i))) (apart_pairs ws r.1)

-- ---- up to a node's frame

abbrev pub IsUpTo : Wanted → ℕ → ℤ → Type 0
IsUpTo w n f = (w.node < n) ⊎ ((w.node ≡ n) × (w.frame ≤ℤ f))

-- below it
abbrev pub IsBelow : Wanted → ℕ → ℤ → Type 0
IsBelow w n f = (w.node < n) ⊎ ((w.node ≡ n) × (w.frame <ℤ f))

less_of : (a b : ℤ) → a ≤ℤ b → int_eq a b ≡ false → a <ℤ b
less_of a b h e = grind (arith, ints)

other_node : (a b : ℕ) → a ≡ b → nat_eq a b ≡ true
other_node a b h = grind (arith, nat_tests)

below_of : (w : Wanted) (n : ℕ) (f : ℤ) → IsUpTo w n f → nat_eq w.node n && int_eq w.frame f ≡ false → IsBelow w n f
below_of w n f up e = elim up [
  | inl low ↦ inl low
  | inr s ↦ inr (s.0, less_of w.frame f s.1 (subst (λ (b : Bool). b && int_eq w.frame f ≡ false) (other_node w.node n s.0) e))
]

through : (v w : Wanted) (n : ℕ) (f : ℤ) → IsBefore v w → IsBelow w n f → IsBelow v n f
through v w n f a b = elim a [
  | inl low ↦ elim b [ inl l ↦ inl (omega (arith, low, l)) | inr s ↦ let e = s.0 in inl (omega (arith, low, e)) ]
  | inr s ↦ elim b [
    | inl l ↦ let e = s.0 in inl (omega (arith, l, e))
    | inr t ↦ let p = s.1 in let q = t.1 in inr (s.0 ∙ t.0, omega (arith, ints, p, q))
  ]
]

-- the last of a longer list is the last behind the first
last_behind : (v u : Wanted) (us : List Wanted) (n : ℕ) (f : ℤ) → is_last (v ∷ u ∷ us) n f ≡ is_last (u ∷ us) n f
last_behind v u us n f =
    let more : length (v ∷ u ∷ us) - 1 ≡ suc (length (u ∷ us) - 1) = omega arith in
    ap (λ (k : ℕ). is_of n f (slice_get (v ∷ u ∷ us) k)) more

-- where the last isn't the node's frame, all stand below it
pub all_below : (ws : List Wanted) (n : ℕ) (f : ℤ) → Rises ws → ((w : Wanted) → In ws w → IsUpTo w n f)
    → is_last ws n f ≡ false → (w : Wanted) → In ws w → IsBelow w n f
all_below [] n f r up last w i = absurd i
all_below (v ∷ []) n f r up last w i = elim i [
  | inl e ↦ subst (λ (u : Wanted). IsBelow u n f) e (below_of v n f (up v (inl refl)) last)
  | inr j ↦ absurd j
]
all_below (v ∷ u ∷ us) n f r up last w i =
    let rest = all_below (u ∷ us) n f r.1 (λ x j. up x (inr j)) (sym (last_behind v u us n f) ∙ last) in
    elim i [
      | inl e ↦ subst (λ (x : Wanted). IsBelow x n f) e (through v u n f (r.0 u (inl refl)) (rest u (inl refl)))
      | inr j ↦ rest w j
    ]

-- one more behind all
pub rises_more : (ws : List Wanted) (w : Wanted) → Rises ws → ((v : Wanted) → In ws v → IsBelow v w.node w.frame)
    → Rises (ws ++ w ∷ [])
rises_more [] w r b = (λ v i. absurd i, tt)
rises_more (u ∷ us) w r b = (
  λ v i. elim (in_behind us w v i) [ inl j ↦ r.0 v j | inr e ↦ subst (λ (x : Wanted). IsBefore u x) e (b u (inl refl)) ],
  rises_more us w r.1 (λ v i. b v (inr i)),
)

-- the last is an entry of the node's frame
pub last_lists : (ws : List Wanted) (n : ℕ) (f : ℤ) → is_last ws n f ≡ true → (w : Wanted) × In ws w × (w.node ≡ n) × (w.frame ≡ f)
last_lists [] n f e = absurd (false≢true e)
last_lists (v ∷ []) n f e =
    let both = and_parts (nat_eq v.node n) (int_eq v.frame f) e in
    (v, inl refl, node_of v.node n both.0, sym (same_frame v.frame f both.1))
  where
    node_of : (a b : ℕ) → nat_eq a b ≡ true → a ≡ b
    node_of a b h = grind (arith, nat_tests)
last_lists (v ∷ u ∷ us) n f e = let r = last_lists (u ∷ us) n f (sym (last_behind v u us n f) ∙ e) in (r.0, inr r.1, r.2, r.3)

-- ---- what a source shows

pos_once : (a b : ℕ) → pos a ≡ pos b → a ≡ b
pos_once a b e = omega (arith, ints, e)

map_pos : (a b : Option ℕ) → option_map pos a ≡ option_map pos b → a ≡ b
map_pos None None e = refl
map_pos None (Some b) e = absurd (none-some (pos b) e)
map_pos (Some a) None e = absurd (none-some (pos a) (sym e))
map_pos (Some a) (Some b) e = ap Some (pos_once a b (same_Some (pos a) (pos b) e))

-- what is answered for it is the only such frame
pub shown_source : {E : Type 0} (work : Does E) (pattern : List ℕ) (first last : ℕ) (hold : Bool) (n : ℕ) (t : ℤ) (r : Option ℕ)
    (old new : List Wanted) → work ≡ does.Source pattern first last hold → option_map pos r ≡ shown_frame first last hold t
    → new ≡ with_shown old n pattern r → WantsShown work n t old new
shown_source work pattern first last hold n t r old new is e a =
    subst (λ (w : Does _). WantsShown w n t old new) (sym is)
    (λ k h. a ∙ ap (with_shown old n pattern) (map_pos r k (e ∙ sym h)))

pub shown_effect : {E : Type 0} (work other : Does E) (n : ℕ) (t : ℤ) (old new : List Wanted) → work ≡ other
    → WantsShown other n t old new → WantsShown work n t old new
shown_effect work other n t old new is a = subst (λ (w : Does _). WantsShown w n t old new) (sym is) a

-- the frame that is shown is nearest, and so it rises with the time
shown_by : (first last : ℕ) (t f : ℤ) (b : Bool) → cond b (Some (nearest first last t)) None ≡ Some f → nearest first last t ≡ f
shown_by first last t f true e = same_Some (nearest first last t) f e
shown_by first last t f false e = absurd (none-some f e)

shown_is : (first last : ℕ) (hold : Bool) (t f : ℤ) → shown_frame first last hold t ≡ Some f → nearest first last t ≡ f
shown_is first last hold t f e = shown_by first last t f (is_between first last t || hold) e

nearest_rises : (first last : ℕ) (t u : ℤ) → t ≤ℤ u → nearest first last t ≤ℤ nearest first last u
nearest_rises first last t u h = omega (arith, ints, clamps)

-- it is no frame below 0
natural : (z : ℤ) → pos 0 ≤ℤ z → (k : ℕ) × (z ≡ pos k)
natural (pos k) h = (k, refl)
natural (negsuc k) h = absurd (omega (arith, ints))

pub shown_natural : (first last : ℕ) (hold : Bool) (t f : ℤ) → shown_frame first last hold t ≡ Some f → (k : ℕ) × (f ≡ pos k)
shown_natural first last hold t f e =
    let is = shown_is first last hold t f e in
    natural f (subst (λ (z : ℤ). pos 0 ≤ℤ z) is (omega (arith, ints, clamps)))

-- ---- the frames that the nodes at frames show

module _ {E : Type 0} (meaning : E → Meaning) (g : GraphShown E) where
  abbrev nodes_in : Nodes
  nodes_in = graph_nodes meaning g no_images

  -- what the node of a place shows, by what it does
  shows_in : (k : ℕ) (n : Shown E) (t f : ℤ) → slice_get g.nodes k ≡ Some n → Shows (nodes_in k) t f
      → Shows (node_of meaning g.project (no_images k) n.depth n.components n.does) t f
  shows_in k n t f there h = subst (λ (node : Node). Shows node t f) (node_is meaning g no_images k n n.does there refl) h

  shows_out : (k : ℕ) (n : Shown E) (t f : ℤ) → slice_get g.nodes k ≡ Some n
      → Shows (node_of meaning g.project (no_images k) n.depth n.components n.does) t f → Shows (nodes_in k) t f
  shows_out k n t f there h = subst (λ (node : Node). Shows node t f) (sym (node_is meaning g no_images k n n.does there refl)) h

  -- a later node at a frame shows no earlier frame
  does_rise : (k : ℕ) (d : Depth) (c : Components) (work : Does E) (t u f h : ℤ) → t ≤ℤ u
      → Shows (node_of meaning g.project (no_images k) d c work) t f
      → Shows (node_of meaning g.project (no_images k) d c work) u h → f ≤ℤ h
  does_rise k d c (does.Source pattern first last hold) t u f h low a b =
      subst (λ (z : ℤ). z ≤ℤ h) (shown_is first last hold t f a)
      (subst (λ (z : ℤ). nearest first last t ≤ℤ z) (shown_is first last hold u h b) (nearest_rises first last t u low))
  does_rise k d c (does.Effect e context clips names optional masks params) t u f h low a b = absurd a

  -- what was wanted of the nodes at frames so far, where these are left
  pub record IsWanting (node_frames : BTreeSet NodeFrame) (rest : List NodeFrame) (wanted : List Wanted) : Type 0 where
    pub only : (w : Wanted) → In wanted w → (t : ℤ) × (has node_frames w.node t ≡ true) × Shows (nodes_in w.node) t w.frame
    pub all : (n : ℕ) (t f : ℤ) → has node_frames n t ≡ true → Shows (nodes_in n) t f → Lists wanted n f ⊎ In rest (node_frame n t)
    pub later : (w : Wanted) → In wanted w → (k : NodeFrame) → In rest k → (f : ℤ) → Shows (nodes_in k.node) k.frame f
        → IsUpTo w k.node f
    pub rises : Rises wanted
    pub named : (w : Wanted) → In wanted w → IsNamedIn g w
    pub sorted : IsStrictlySortedBy node_frame_cmp rest
    pub within : (k : NodeFrame) → In rest k → has node_frames k.node k.frame ≡ true

  -- before the first
  pub wanting_start : (node_frames : BTreeSet NodeFrame) → IsStrictlySortedBy node_frame_cmp node_frames.keys → IsWanting node_frames node_frames.keys []
  wanting_start node_frames sorted =
      record {
        only = λ w i. absurd i;
        all = λ n t f h s. inr (key_of node_frames n t h);
        later = λ w i. absurd i;
        rises = tt;
        named = λ w i. absurd i;
        sorted = sorted;
        within = λ k i. has_key node_frames k i;
      }

  -- behind the last, where they are reached over nodes whose sources show the same
  pub wanting_end : (nodes : Nodes) → ShowSame nodes nodes_in → (node_frames : BTreeSet NodeFrame) (wanted : List Wanted) (output : ℕ)
      (first last : ℤ) → IsReach nodes output first last (has node_frames) → IsWanting node_frames [] wanted
      → AreWanted nodes output first last wanted
  wanting_end nodes same node_frames wanted output first last reach w =
      record {
        only = λ v c.
            let o = w.only v (in_of wanted v c) in
            record { at = o.0; reached = reach.only v.node o.0 o.1; shows = (same v.node o.0 v.frame).1 o.2 };
        all = λ n f i.
            elim (w.all n i.at f (reach.all n i.at i.reached) ((same n i.at f).0 i.shows)) [ inl e ↦ e | inr e ↦ absurd e ];
        order = pairs_of wanted w.rises;
      }

  -- a node at a frame shows one frame at most
  does_once : (k : ℕ) (d : Depth) (c : Components) (work : Does E) (t f h : ℤ)
      → Shows (node_of meaning g.project (no_images k) d c work) t f
      → Shows (node_of meaning g.project (no_images k) d c work) t h → f ≡ h
  does_once k d c (does.Source pattern first last hold) t f h a b = same_Some f h (sym a ∙ b)
  does_once k d c (does.Effect e context clips names optional masks params) t f h a b = absurd a

  shows_once : (k : ℕ) (n : Shown E) (t f h : ℤ) → slice_get g.nodes k ≡ Some n → Shows (nodes_in k) t f → Shows (nodes_in k) t h
      → f ≡ h
  shows_once k n t f h there a b =
      does_once k n.depth n.components n.does t f h (shows_in k n t f there a) (shows_in k n t h there b)

  -- the frame of a node at a frame, if it shows one, is there already
  same_step : (node_frames : BTreeSet NodeFrame) (m : NodeFrame) (rest : List NodeFrame) (wanted : List Wanted)
      → IsWanting node_frames (m ∷ rest) wanted
      → ((f : ℤ) → Shows (nodes_in m.node) m.frame f → Lists wanted m.node f) → IsWanting node_frames rest wanted
  same_step node_frames m rest wanted w there =
      record {
        only = w.only;
        all = λ n t f h s. elim (w.all n t f h s) [
          | inl e ↦ inl e
          | inr i ↦ elim i [
            | inl e ↦ inl (subst (λ (k : NodeFrame). Lists wanted k.node f) e
                (there f (subst (λ (k : NodeFrame). Shows (nodes_in k.node) k.frame f) (sym e) s)))
            | inr j ↦ inr j
          ]
        ];
        later = λ v i k j. w.later v i k (inr j);
        rises = w.rises;
        named = w.named;
        sorted = sorted_tail node_frame_cmp m rest w.sorted;
        within = λ k i. w.within k (inr i);
      }

  -- it is added
  more_step : (node_frames : BTreeSet NodeFrame) (m : NodeFrame) (rest : List NodeFrame) (wanted : List Wanted) (v : Wanted) (n : Shown E)
      → IsWanting node_frames (m ∷ rest) wanted → slice_get g.nodes m.node ≡ Some n → v.node ≡ m.node
      → Shows (nodes_in m.node) m.frame v.frame → IsNamedBy n.does v → is_last wanted m.node v.frame ≡ false
      → IsWanting node_frames rest (wanted ++ v ∷ [])
  more_step node_frames m rest wanted v n w there at s name fresh =
      record {
        only = λ x i. elim (in_behind wanted v x i) [
          | inl j ↦ w.only x j
          | inr e ↦ subst (λ (y : Wanted). (t : ℤ) × (has node_frames y.node t ≡ true) × Shows (nodes_in y.node) t y.frame) e (
            m.frame,
            subst (λ (k : ℕ). has node_frames k m.frame ≡ true) (sym at) (w.within m (inl refl)),
            subst (λ (k : ℕ). Shows (nodes_in k) m.frame v.frame) (sym at) s,
          )
        ];
        all = λ k t f h r. elim (w.all k t f h r) [
          | inl l ↦ inl (record { entry = l.entry; listed = contains_of (wanted ++ v ∷ []) l.entry (in_before wanted v l.entry (in_of wanted l.entry l.listed)); node = l.node; frame = l.frame })
          | inr i ↦ elim i [
            | inl e ↦ inl (subst (λ (j : NodeFrame). Lists (wanted ++ v ∷ []) j.node f) e (record {
              entry = v;
              listed = contains_of (wanted ++ v ∷ []) v (in_last wanted v);
              node = at;
              frame = shows_once m.node n m.frame v.frame f there s (subst (λ (j : NodeFrame). Shows (nodes_in j.node) j.frame f) (sym e) r);
            }))
            | inr j ↦ inr j
          ]
        ];
        later = λ x i k j f r. elim (in_behind wanted v x i) [
          | inl l ↦ w.later x l k (inr j) f r
          | inr e ↦ subst (λ (y : Wanted). IsUpTo y k.node f) e (up k j f r)
        ];
        rises = rises_more wanted v w.rises (λ x i.
            subst (λ (k : ℕ). IsBelow x k v.frame) (sym at)
            (all_below wanted m.node v.frame w.rises (λ y j. w.later y j m (inl refl) v.frame s) fresh x i));
        named = λ x i. elim (in_behind wanted v x i) [
          | inl j ↦ w.named x j
          | inr e ↦ subst (λ (y : Wanted). IsNamedIn g y) e (λ o is.
              subst (λ (p : Shown E). IsNamedBy p.does v) (same_Some n o (sym there ∙ ap (slice_get g.nodes) (sym at) ∙ is)) name)
        ];
        sorted = sorted_tail node_frame_cmp m rest w.sorted;
        within = λ k i. w.within k (inr i);
      }
    where
      below_head : (ks : List NodeFrame) (k : NodeFrame) → AllByRecursion (λ (j : NodeFrame). node_frame_cmp m j ≡ Less) ks → In ks k → node_frame_cmp m k ≡ Less
      below_head [] k a i = absurd i
      below_head (j ∷ ks) k a i = elim i [ inl e ↦ subst (λ (x : NodeFrame). node_frame_cmp m x ≡ Less) e a.0 | inr l ↦ below_head ks k a.1 l ]

      lower : (k : NodeFrame) → In rest k → IsLower m k
      lower k i = is_lower m k (below_head rest k (sorted_head node_frame_cmp m rest w.sorted) i)

      rise : (k : ℕ) (t f : ℤ) → m.node ≡ k → m.frame <ℤ t → Shows (nodes_in k) t f → v.frame ≤ℤ f
      rise k t f same low r =
          let here = subst (λ (j : ℕ). Shows (nodes_in j) t f) (sym same) r in
          does_rise m.node n.depth n.components n.does m.frame t v.frame f (omega (arith, ints, low)) (shows_in m.node n m.frame v.frame there s) (shows_in m.node n t f there here)

      up : (k : NodeFrame) → In rest k → (f : ℤ) → Shows (nodes_in k.node) k.frame f → IsUpTo v k.node f
      up k i f r = elim (lower k i) [
        | inl low ↦ inl (subst (λ (j : ℕ). j < k.node) (sym at) low)
        | inr e ↦ inr (at ∙ e.0, rise k.node k.frame f e.0 e.1 r)
      ]

  -- with what a node at a frame shows
  pub wants_step : (node_frames : BTreeSet NodeFrame) (m : NodeFrame) (rest : List NodeFrame) (wanted new : List Wanted) (n : Shown E)
      → IsWanting node_frames (m ∷ rest) wanted → slice_get g.nodes m.node ≡ Some n → WantsIn g m wanted new
      → IsWanting node_frames rest new
  wants_step node_frames m rest wanted new n w there a = by_work n.does refl (a n there)
    where
      shown_of : (work : Does E) → n.does ≡ work → (f : ℤ) → Shows (nodes_in m.node) m.frame f
          → Shows (node_of meaning g.project (no_images m.node) n.depth n.components work) m.frame f
      shown_of work is f s =
          subst (λ (x : Does E). Shows (node_of meaning g.project (no_images m.node) n.depth n.components x) m.frame f) is
          (shows_in m.node n m.frame f there s)

      shows_of : (work : Does E) → n.does ≡ work → (f : ℤ)
          → Shows (node_of meaning g.project (no_images m.node) n.depth n.components work) m.frame f
          → Shows (nodes_in m.node) m.frame f
      shows_of work is f s =
          shows_out m.node n m.frame f there
          (subst (λ (x : Does E). Shows (node_of meaning g.project (no_images m.node) n.depth n.components x) m.frame f) (sym is) s)

      by_entry : (pattern : List ℕ) (first last : ℕ) (hold : Bool) (k : ℕ) (b : Bool) → n.does ≡ does.Source pattern first last hold
          → shown_frame first last hold m.frame ≡ Some (pos k) → is_last wanted m.node (pos k) ≡ b
          → new ≡ cond b wanted (wanted ++ entry m.node pattern k ∷ []) → IsWanting node_frames rest new
      by_entry pattern first last hold k true is shown last_is e =
          subst (λ (ws : List Wanted). IsWanting node_frames rest ws) (sym e)
          (same_step node_frames m rest wanted w (λ f s.
          let l = last_lists wanted m.node (pos k) last_is in
          record {
            entry = l.0;
            listed = contains_of wanted l.0 l.1;
            node = l.2;
            frame = l.3 ∙ same_Some (pos k) f (sym shown ∙ shown_of (does.Source pattern first last hold) is f s);
          }))
      by_entry pattern first last hold k false is shown last_is e =
          subst (λ (ws : List Wanted). IsWanting node_frames rest ws) (sym e)
          (more_step node_frames m rest wanted (entry m.node pattern k) n w there refl
          (shows_of (does.Source pattern first last hold) is (pos k) shown)
          (subst (λ (x : Does E). IsNamedBy x (entry m.node pattern k)) (sym is) (λ j same. ap (name_of pattern) (pos_once k j same)))
          last_is)

      by_shown : (pattern : List ℕ) (first last : ℕ) (hold : Bool) (r : Option ℤ) → n.does ≡ does.Source pattern first last hold
          → shown_frame first last hold m.frame ≡ r
          → ((k : Option ℕ) → option_map pos k ≡ shown_frame first last hold m.frame → new ≡ with_shown wanted m.node pattern k)
          → IsWanting node_frames rest new
      by_shown pattern first last hold None is shown b =
          subst (λ (ws : List Wanted). IsWanting node_frames rest ws) (sym (b None (sym shown)))
          (same_step node_frames m rest wanted w (λ f s.
          absurd (none-some f (sym shown ∙ shown_of (does.Source pattern first last hold) is f s))))
      by_shown pattern first last hold (Some f) is shown b =
          let k = shown_natural first last hold m.frame f shown in
          let here = shown ∙ ap Some k.1 in
          by_entry pattern first last hold k.0 (is_last wanted m.node (pos k.0)) is here refl (b (Some k.0) (sym here))

      by_work : (work : Does E) → n.does ≡ work → WantsShown work m.node m.frame wanted new → IsWanting node_frames rest new
      by_work (does.Source pattern first last hold) is b =
          by_shown pattern first last hold (shown_frame first last hold m.frame) is refl b
      by_work (does.Effect e context clips names optional masks params) is b =
          subst (λ (ws : List Wanted). IsWanting node_frames rest ws) (sym b)
          (same_step node_frames m rest wanted w (λ f s.
          absurd (shown_of (does.Effect e context clips names optional masks params) is f s)))
