-- The last that reads each node at a frame, and what is let go after it.
use Rattle.std.proofs.Common.{◌≡◌, ℕ, ℤ, List, [], ◌∷◌, ◌++◌, Bool, true, false, cond, refl, sym, ap, ◌∙◌, subst, arith, ◌⊎◌, inl, inr, Option, Some, None, is_some, IsSome}
use Rattle.std.proofs.lemmas.Int.{ints}
use Rattle.std.proofs.lemmas.Option.{none-some, same_Some}
use Rattle.std.specs.Map.{lookup}
use Rattle.std.specs.declared.cmp.Ordering.TheVariants.{Less}
use Rattle.std.specs.List.Sorted.{IsStrictlySortedBy}
use Rattle.std.specs.BTreeMap.{BTreeMap, get, is_at}
use Rattle.std.specs.BTreeSet.{BTreeSet}
use Rattle.std.specs.Cmp.{Equal-is}
use Rattle.fx_scene.specs.declared.reaching.NodeFrame.{NodeFrame}
use Rattle.fx_scene.specs.Nodes.{Nodes}
use Rattle.fx_scene.specs.Reach.{IsReadBy, has, node_frame, node_frame_cmp}
use Rattle.fx_scene.proofs.Members.{In, in_left, in_right}
use Rattle.fx_scene.proofs.RankLemmas.{has_key, is_lower, key_of}
use Rattle.fx_scene.proofs.ReachLemmas.{exact_node_frames, is_same}
use Rattle.fx_eval.specs.declared.whole.Whole.{Whole}
use Rattle.fx_eval.specs.Readers.{AreLast, IsNoEarlier, LetsGo, Makes, Marks}
use Rattle.fx_eval.specs.Wholes.{AreWhole, IsWhole, look}
use Rattle.fx_effect.specs.Meaning.{Meaning}
use Rattle.fx_graph.specs.Shown.{GraphShown}
use Rattle.fx_scene.specs.Scenes.{Images, graph_nodes}
use Rattle.fx_eval.proofs.OrderLemmas.{IsSplit, in_split, reads_same, split_done, split_end, split_here, split_start, split_step}

not_both : (p q : NodeFrame) → node_frame_cmp p q ≡ Less → node_frame_cmp q p ≡ Less → ⊥
not_both p q a b = elim (is_lower p q a) [
  | inl l ↦ elim (is_lower q p b) [ inl k ↦ omega (arith, l, k) | inr k ↦ let same = k.0 in omega (arith, l, same) ]
  | inr l ↦ elim (is_lower q p b) [
    | inl k ↦ let same = l.0 in omega (arith, k, same)
    | inr k ↦ let x = l.1 in let y = k.1 in omega (arith, ints, x, y)
  ]
]

pub none_told : {X : Type 0} (m : BTreeMap NodeFrame X) → m.entries ≡ [] → (k : NodeFrame) → get node_frame_cmp m k ≡ None
none_told {X} m e k = ap (lookup (is_at (node_frame_cmp k))) e

-- a map with one more entry
abbrev pub Updated : {X : Type 0} → NodeFrame → Option X → BTreeMap NodeFrame X → BTreeMap NodeFrame X → Type 0
Updated m x old new = (q : NodeFrame) → get node_frame_cmp new q ≡ cond (is_at (node_frame_cmp m) q) x (get node_frame_cmp old q)

-- ---- the reads of one node at a frame are marked

pub record IsMarked (reads : BTreeSet NodeFrame) (reader : NodeFrame) (old : BTreeMap NodeFrame NodeFrame) (rest : List NodeFrame)
    (new : BTreeMap NodeFrame NodeFrame) : Type 0 where
  pub front : List NodeFrame
  pub parts : IsSplit reads.keys front rest
  pub all : (k : NodeFrame) → In front k → get node_frame_cmp new k ≡ Some reader
  pub only :
      (m : ℕ) (f : ℤ) → (get node_frame_cmp new (node_frame m f) ≡ get node_frame_cmp old (node_frame m f))
      ⊎ ((get node_frame_cmp new (node_frame m f) ≡ Some reader) × (has reads m f ≡ true))

pub marked_start : (reads : BTreeSet NodeFrame) (reader : NodeFrame) (old : BTreeMap NodeFrame NodeFrame)
    → IsStrictlySortedBy node_frame_cmp reads.keys → IsMarked reads reader old reads.keys old
marked_start reads reader old sorted =
    record { front = []; parts = split_start reads.keys sorted; all = λ k i. absurd i; only = λ m f. inl refl }

pub marked_step : (reads : BTreeSet NodeFrame) (reader : NodeFrame) (old mid new : BTreeMap NodeFrame NodeFrame) (k : NodeFrame)
    (rest : List NodeFrame) → IsMarked reads reader old (k ∷ rest) mid → Updated k (Some reader) mid new
    → get node_frame_cmp new k ≡ Some reader → IsMarked reads reader old rest new
marked_step reads reader old mid new k rest s u here =
    record {
      front = s.front ++ k ∷ [];
      parts = split_step reads.keys s.front k rest s.parts;
      all = λ q i. elim (in_split s.front (k ∷ []) q i) [
        | inl a ↦ u q ∙ both (is_at (node_frame_cmp k) q) (get node_frame_cmp mid q) (s.all q a)
        | inr a ↦ elim a [
          | inl e ↦ subst (λ (x : NodeFrame). get node_frame_cmp new x ≡ Some reader) e here
          | inr c ↦ absurd c
        ]
      ];
      only = λ m f. by_test m f (is_at (node_frame_cmp k) (node_frame m f)) refl (u (node_frame m f));
    }
  where
    both : (b : Bool) (o : Option NodeFrame) → o ≡ Some reader → cond b (Some reader) o ≡ Some reader
    both true o e = refl
    both false o e = e

    by_test : (m : ℕ) (f : ℤ) (b : Bool) → is_at (node_frame_cmp k) (node_frame m f) ≡ b
        → get node_frame_cmp new (node_frame m f) ≡ cond b (Some reader) (get node_frame_cmp mid (node_frame m f))
        → (get node_frame_cmp new (node_frame m f) ≡ get node_frame_cmp old (node_frame m f))
        ⊎ ((get node_frame_cmp new (node_frame m f) ≡ Some reader) × (has reads m f ≡ true))
    by_test m f true e h =
        let at = is_same k m f e in
        inr (h, ap (λ (n : ℕ). has reads n f) at.0 ∙ ap (has reads k.node) at.1 ∙ has_key reads k (split_here reads.keys s.front k rest s.parts))
    by_test m f false e h = elim (s.only m f) [ inl a ↦ inl (h ∙ a) | inr a ↦ inr (h ∙ a.0, a.1) ]

pub marked_end : (reads : BTreeSet NodeFrame) (reader : NodeFrame) (old new : BTreeMap NodeFrame NodeFrame) → IsMarked reads reader old [] new
    → Marks (λ m f. has reads m f ≡ true) reader old new
marked_end reads reader old new s =
    record {
      all = λ m f h. s.all (node_frame m f) (split_end reads.keys s.front (node_frame m f) s.parts (key_of reads m f h));
      only = s.only;
    }

-- the same, said in other words
pub marks_as : (S T : ℕ → ℤ → Type 0) (reader : NodeFrame) (old new : BTreeMap NodeFrame NodeFrame) → Marks S reader old new
    → ((m : ℕ) (f : ℤ) → S m f → T m f) → ((m : ℕ) (f : ℤ) → T m f → S m f) → Marks T reader old new
marks_as S T reader old new s p q =
    record {
      all = λ m f h. s.all m f (q m f h);
      only = λ m f. elim (s.only m f) [ inl a ↦ inl a | inr a ↦ inr (a.0, p m f a.1) ];
    }

-- ---- those of all nodes at frames

-- the last readers among the nodes at frames before `rest`
pub record IsMarking (nodes : Nodes) (node_frames : BTreeSet NodeFrame) (rest : List NodeFrame) (last : BTreeMap NodeFrame NodeFrame)
    : Type 0 where
  pub front : List NodeFrame
  pub parts : IsSplit node_frames.keys front rest
  pub all :
      (k : NodeFrame) → In front k → (m : ℕ) (f : ℤ) → IsReadBy (nodes k.node) k.frame m f
      → IsNoEarlier last (node_frame m f) k
  pub only :
      (read by : NodeFrame) → get node_frame_cmp last read ≡ Some by
      → In front by × IsReadBy (nodes by.node) by.frame read.node read.frame

pub marking_start : (nodes : Nodes) (node_frames : BTreeSet NodeFrame) (last : BTreeMap NodeFrame NodeFrame) → last.entries ≡ []
    → IsStrictlySortedBy node_frame_cmp node_frames.keys → IsMarking nodes node_frames node_frames.keys last
marking_start nodes node_frames last none sorted =
    record {
      front = [];
      parts = split_start node_frames.keys sorted;
      all = λ k i. absurd i;
      only = λ read by e. absurd (none-some by (sym (none_told last none read) ∙ e));
    }

-- the first that is left is one of the nodes at frames
pub marking_has : (nodes : Nodes) (node_frames : BTreeSet NodeFrame) (m : NodeFrame) (rest : List NodeFrame)
    (last : BTreeMap NodeFrame NodeFrame) → IsMarking nodes node_frames (m ∷ rest) last → has node_frames m.node m.frame ≡ true
marking_has nodes node_frames m rest last s = has_key node_frames m (split_here node_frames.keys s.front m rest s.parts)

pub marking_step : (nodes : Nodes) (node_frames : BTreeSet NodeFrame) (m : NodeFrame) (rest : List NodeFrame)
    (old new : BTreeMap NodeFrame NodeFrame) → IsMarking nodes node_frames (m ∷ rest) old
    → Marks (IsReadBy (nodes m.node) m.frame) m old new → IsMarking nodes node_frames rest new
marking_step nodes node_frames m rest old new s marks =
    record {
      front = s.front ++ m ∷ [];
      parts = split_step node_frames.keys s.front m rest s.parts;
      all = λ k i x f r. elim (in_split s.front (m ∷ []) k i) [
        | inl a ↦ elim (marks.only x f) [
          | inl same ↦
              let by = s.all k a x f r in record { by = by.by; there = same ∙ by.there; later = by.later }
          | inr told ↦
              record { by = m; there = told.0; later = λ e. not_both m k e (s.parts.below k m a (inl refl)) }
        ]
        | inr a ↦ elim a [
          | inl e ↦
              record {
                by = m;
                there = marks.all x f (subst (λ (q : NodeFrame). IsReadBy (nodes q.node) q.frame x f) (sym e) r);
                later = subst (λ (q : NodeFrame). node_frame_cmp m q ≡ Less → ⊥) e (λ h. not_both m m h h);
              }
          | inr c ↦ absurd c
        ]
      ];
      only = λ read by e. elim (marks.only read.node read.frame) [
        | inl same ↦ let is = s.only read by (sym same ∙ e) in (in_left s.front (m ∷ []) by is.0, is.1)
        | inr told ↦
            let at : m ≡ by = same_Some m by (sym told.0 ∙ e) in (
              subst (λ (q : NodeFrame). In (s.front ++ m ∷ []) q) at (in_right s.front (m ∷ []) m (inl refl)),
              subst (λ (q : NodeFrame). IsReadBy (nodes q.node) q.frame read.node read.frame) at told.1,
            )
      ];
    }

pub marking_end : (nodes : Nodes) (node_frames : BTreeSet NodeFrame) (last : BTreeMap NodeFrame NodeFrame) → IsMarking nodes node_frames [] last
    → AreLast nodes node_frames last
marking_end nodes node_frames last s =
    record {
      all = λ n t h m f r.
          s.all (node_frame n t) (split_end node_frames.keys s.front (node_frame n t) s.parts (key_of node_frames n t h)) m f r;
      only = λ read by e.
          let is = s.only read by e in
          (has_key node_frames by (split_done node_frames.keys s.front [] by s.parts is.0), is.1);
    }

-- ---- what is let go

pub lets_then : (last : BTreeMap NodeFrame NodeFrame) (reader : NodeFrame) (old mid new : BTreeMap NodeFrame Whole)
    → LetsGo last reader old mid → LetsGo last reader mid new → LetsGo last reader old new
lets_then last reader old mid new a b m =
    elim (b m) [
      | inl same ↦ elim (a m) [ inl e ↦ inl (same ∙ e) | inr e ↦ inr (e.0, same ∙ e.1) ]
      | inr e ↦ inr e
    ]

-- one that this node at a frame reads last
pub lets_one : (last : BTreeMap NodeFrame NodeFrame) (read reader : NodeFrame) (old new : BTreeMap NodeFrame Whole)
    → get node_frame_cmp last read ≡ Some reader → Updated read None old new → LetsGo last reader old new
lets_one last read reader old new is u m = by_test (is_at (node_frame_cmp read) m) refl (u m)
  where
    by_test : (b : Bool) → is_at (node_frame_cmp read) m ≡ b → get node_frame_cmp new m ≡ cond b None (get node_frame_cmp old m)
        → (get node_frame_cmp new m ≡ get node_frame_cmp old m) ⊎ ((get node_frame_cmp last m ≡ Some reader) × (get node_frame_cmp new m ≡ None))
    by_test true e h =
        let at : read ≡ m = exact_node_frames read m ((Equal-is _).0 e) in
        inr (subst (λ (q : NodeFrame). get node_frame_cmp last q ≡ Some reader) at is, h)
    by_test false e h = inl h

-- ---- a node at a frame is made

pub made_whole : (nodes : Nodes) (last : BTreeMap NodeFrame NodeFrame) (m : NodeFrame) (w : Whole) (old mid new : BTreeMap NodeFrame Whole)
    → AreWhole nodes old → IsWhole nodes m.node m.frame w → Updated m (Some w) old mid → LetsGo last m mid new → AreWhole nodes new
made_whole nodes last m w old mid new are whole u gone n t v e =
    elim (gone (node_frame n t)) [
      | inl same ↦ by_test (is_at (node_frame_cmp m) (node_frame n t)) refl (sym (u (node_frame n t)) ∙ sym same ∙ e)
      | inr none ↦ absurd (none-some v (sym none.1 ∙ e))
    ]
  where
    by_test : (b : Bool) → is_at (node_frame_cmp m) (node_frame n t) ≡ b → cond b (Some w) (look old n t) ≡ Some v → IsWhole nodes n t v
    by_test true is h =
        let at = is_same m n t is in
        subst (λ (x : Whole). IsWhole nodes n t x) (same_Some w v h)
        (subst (λ (k : ℕ). IsWhole nodes k t w) (sym at.0) (subst (λ (f : ℤ). IsWhole nodes m.node f w) (sym at.1) whole))
    by_test false is h = are n t v h

pub made_makes : (last : BTreeMap NodeFrame NodeFrame) (m : NodeFrame) (w : Whole) (old mid new : BTreeMap NodeFrame Whole)
    → Updated m (Some w) old mid → get node_frame_cmp mid m ≡ Some w → LetsGo last m mid new → Makes last m old new
made_makes last m w old mid new u here gone =
    record {
      here = λ apart. elim (gone m) [
        | inl same ↦ ap (λ (o : Option Whole). is_some o) (same ∙ here)
        | inr l ↦ absurd (apart l.0)
      ];
      keeps = λ k apart some. elim (gone k) [
        | inl same ↦ ap (λ (o : Option Whole). is_some o) (same ∙ u k) ∙ still (is_at (node_frame_cmp m) k) (get node_frame_cmp old k) some
        | inr l ↦ absurd (apart l.0)
      ];
    }
  where
    still : (b : Bool) (o : Option Whole) → IsSome o → IsSome (cond b (Some w) o)
    still true o some = refl
    still false o some = some

-- what is read last is the same over all images
pub lasts_same : {E : Type 0} (meaning : E → Meaning) (g : GraphShown E) (a b : Images) (node_frames : BTreeSet NodeFrame)
    (last : BTreeMap NodeFrame NodeFrame) → AreLast (graph_nodes meaning g a) node_frames last → AreLast (graph_nodes meaning g b) node_frames last
lasts_same meaning g a b node_frames last lasts =
    record {
      all = λ n t h m f r. lasts.all n t h m f (reads_same meaning g b a n t m f r);
      only = λ read by e.
          let is = lasts.only read by e in (is.0, reads_same meaning g a b by.node by.frame read.node read.frame is.1);
    }
