-- Sets of nodes at frames: what is added to them, and the least one that is closed.
use Rattle.std.proofs.Common.{◌≡◌, ◌≢◌, ℕ, zero, suc, ◌<◌, ◌≤◌, ◌+◌, ◌*◌, ℤ, pos, ◌≤ℤ◌, ◌<ℤ◌, ◌+ℤ◌, Bool, true, false, cond, List, [], ◌∷◌, ◌++◌, map, length, take, get_or, Option, Some, None, refl, sym, ap, ◌∙◌, subst, arith, ◌⊎◌, inl, inr}
use Rattle.std.proofs.lemmas.Int.{ints}
use Rattle.std.proofs.lemmas.Bool.{cases_Bool, false_from_ne_true}
use Rattle.std.proofs.lemmas.Bool.Decides.{Decides-int_eq}
use Rattle.std.proofs.lemmas.Cmp.{on_total, then_total}
use Rattle.std.proofs.lemmas.Map.Lookups.{CmpEqualImpliesEq, exact_pairs, exact_unsigned, exact_signed}
use Rattle.std.proofs.lemmas.List.{take_more}
use Rattle.std.specs.Cmp.{IsTotalOrder, tied_itself, Equal-is, nat_cmp_total, int_cmp_total}
use Rattle.std.specs.Ordering.{nat_cmp, int_cmp, int_eq, is_eq}
use Rattle.std.specs.BTreeMap.{is_at}
use Rattle.std.specs.BTreeSet.{BTreeSet, Updates, contains}
use Rattle.fx_scene.specs.declared.reaching.NodeFrame.{NodeFrame}
use Rattle.fx_scene.specs.Frames.{has_frame}
use Rattle.fx_scene.specs.Nodes.{Nodes}
use Rattle.fx_scene.specs.Reach.{Adds, IsClosed, IsReach, IsReadBy, IsReached, has, node_frame, node_frame_cmp}

-- nodes at frames that compare alike are one
pub exact_node_frames : CmpEqualImpliesEq node_frame_cmp
exact_node_frames p q h = ap (λ (r : ℕ × ℤ). node_frame r.0 r.1) (exact_pairs nat_cmp int_cmp exact_unsigned exact_signed (p.node, p.frame) (q.node, q.frame) h)

pub node_frames_total : IsTotalOrder node_frame_cmp
node_frames_total = then_total (on_total (λ p. p.node) nat_cmp_total) (on_total (λ p. p.frame) int_cmp_total)

abbrev pub IsAt : NodeFrame → ℕ → ℤ → Type 0
IsAt m n t = (n ≡ m.node) × (t ≡ m.frame)

pub is_same : (m : NodeFrame) (n : ℕ) (t : ℤ) → is_at (node_frame_cmp m) (node_frame n t) ≡ true → IsAt m n t
is_same m n t h =
    let e : m ≡ node_frame n t = exact_node_frames m (node_frame n t) ((Equal-is _).0 h) in
    (sym (ap (λ (p : NodeFrame). p.node) e), sym (ap (λ (p : NodeFrame). p.frame) e))

-- one node at a frame more
pub adds_one : (old new : BTreeSet NodeFrame) (m : NodeFrame) → Updates node_frame_cmp old new m true → Adds (IsAt m) old new
adds_one old new m u =
    record {
      keeps = λ n t h. u.0 (node_frame n t) ∙ ap (cond (is_at (node_frame_cmp m) (node_frame n t)) true) h ∙ both (is_at (node_frame_cmp m) (node_frame n t));
      only = λ n t h. split n t (is_at (node_frame_cmp m) (node_frame n t)) refl (sym (u.0 (node_frame n t)) ∙ h);
      all = λ n t h. ap (λ (k : ℕ). has new k t) h.0 ∙ ap (has new m.node) h.1 ∙ u.1;
    }
  where
    both : (b : Bool) → cond b true true ≡ true
    both true = refl
    both false = refl

    split : (n : ℕ) (t : ℤ) (b : Bool) → is_at (node_frame_cmp m) (node_frame n t) ≡ b → cond b true (has old n t) ≡ true
        → (has old n t ≡ true) ⊎ IsAt m n t
    split n t true e h = inr (is_same m n t e)
    split n t false e h = inl h

-- nothing more
pub adds_none : (S : ℕ → ℤ → Type 0) (old : BTreeSet NodeFrame) → ((n : ℕ) (t : ℤ) → S n t → ⊥) → Adds S old old
adds_none S old empty = record { keeps = λ n t h. h; only = λ n t h. inl h; all = λ n t h. absurd (empty n t h) }

-- one after the other
pub adds_then : (P Q R : ℕ → ℤ → Type 0) (old mid new : BTreeSet NodeFrame) → Adds P old mid → Adds Q mid new
    → ((n : ℕ) (t : ℤ) → P n t → R n t) → ((n : ℕ) (t : ℤ) → Q n t → R n t)
    → ((n : ℕ) (t : ℤ) → R n t → P n t ⊎ Q n t) → Adds R old new
adds_then P Q R old mid new a b p q r =
    record {
      keeps = λ n t h. b.keeps n t (a.keeps n t h);
      only = λ n t h. elim (b.only n t h) [
        | inl e ↦ elim (a.only n t e) [ inl f ↦ inl f | inr f ↦ inr (p n t f) ]
        | inr e ↦ inr (q n t e)
      ];
      all = λ n t h. elim (r n t h) [ inl e ↦ b.keeps n t (a.all n t e) | inr e ↦ b.all n t e ];
    }

-- the same, said in other words
pub adds_as : (P Q : ℕ → ℤ → Type 0) (old new : BTreeSet NodeFrame) → Adds P old new
    → ((n : ℕ) (t : ℤ) → P n t → Q n t) → ((n : ℕ) (t : ℤ) → Q n t → P n t) → Adds Q old new
adds_as P Q old new a p q =
    record {
      keeps = a.keeps;
      only = λ n t h. elim (a.only n t h) [ inl e ↦ inl e | inr e ↦ inr (p n t e) ];
      all = λ n t h. a.all n t (q n t h);
    }

-- ---- the least closed set

-- what is pending and what was reached, on the way
pub record IsOpening (nodes : Nodes) (output : ℕ) (first last : ℤ) (pending done : BTreeSet NodeFrame) : Type 0 where
  pub sound : (n : ℕ) (t : ℤ) → has pending n t ≡ true → IsReached nodes output first last n t
  pub reached : (n : ℕ) (t : ℤ) → has done n t ≡ true → IsReached nodes output first last n t
  pub start : (t : ℤ) → first ≤ℤ t → t ≤ℤ last → (has pending output t ≡ true) ⊎ (has done output t ≡ true)
  pub reads : (n : ℕ) (t : ℤ) → has done n t ≡ true → (m : ℕ) (f : ℤ) → IsReadBy (nodes n) t m f
      → (has pending m f ≡ true) ⊎ (has done m f ≡ true)

-- the output at the frames of the range
pub opening_start : (nodes : Nodes) (output : ℕ) (first last : ℤ) (empty pending done : BTreeSet NodeFrame)
    → ((n : ℕ) (t : ℤ) → has empty n t ≡ true → ⊥) → ((n : ℕ) (t : ℤ) → has done n t ≡ true → ⊥)
    → Adds (λ n t. (n ≡ output) × (first ≤ℤ t) × (t ≤ℤ last)) empty pending
    → IsOpening nodes output first last pending done
opening_start nodes output first last empty pending done none none_done a =
    record {
      sound = λ n t h s closed. elim (a.only n t h) [
        | inl e ↦ absurd (none n t e)
        | inr e ↦ subst (λ (k : ℕ). s k t ≡ true) (sym e.0) (closed.start t e.1 e.2)
      ];
      reached = λ n t h. absurd (none_done n t h);
      start = λ t l h. inl (a.all output t (refl, l, h));
      reads = λ n t h. absurd (none_done n t h);
    }

-- the greatest node at a frame is taken, what it reads is added, and it is reached
pub opening_step : (nodes : Nodes) (output : ℕ) (first last : ℤ) (pending less more done next : BTreeSet NodeFrame)
    (m : NodeFrame) → IsOpening nodes output first last pending done → has pending m.node m.frame ≡ true
    → ((n : ℕ) (t : ℤ) → has less n t ≡ true → has pending n t ≡ true)
    → ((n : ℕ) (t : ℤ) → has pending n t ≡ true → IsAt m n t ⊎ (has less n t ≡ true))
    → Adds (IsReadBy (nodes m.node) m.frame) less more → Adds (IsAt m) done next
    → IsOpening nodes output first last more next
opening_step nodes output first last pending less more done next m o there fewer split reads one =
    record {
      sound = λ n t h. elim (reads.only n t h) [
        | inl e ↦ o.sound n t (fewer n t e)
        | inr e ↦ λ s closed. closed.reads m.node m.frame (o.sound m.node m.frame there s closed) n t e
      ];
      reached = λ n t h. elim (one.only n t h) [
        | inl e ↦ o.reached n t e
        | inr e ↦ at_node_frame n t e
      ];
      start = λ t l h. elim (o.start t l h) [ inl e ↦ moved output t e | inr e ↦ inr (one.keeps output t e) ];
      reads = λ n t h k f r. elim (one.only n t h) [
        | inl e ↦ elim (o.reads n t e k f r) [ inl p ↦ moved k f p | inr p ↦ inr (one.keeps k f p) ]
        | inr e ↦ inl (reads.all k f (subst (λ (z : ℕ). IsReadBy (nodes z) m.frame k f) e.0 (subst (λ (z : ℤ). IsReadBy (nodes n) z k f) e.1 r)))
      ];
    }
  where
    at_node_frame : (n : ℕ) (t : ℤ) → IsAt m n t → IsReached nodes output first last n t
    at_node_frame n t e s closed =
        ap (λ (k : ℕ). s k t) e.0 ∙ ap (s m.node) e.1 ∙ o.sound m.node m.frame there s closed

    moved : (n : ℕ) (t : ℤ) → has pending n t ≡ true → (has more n t ≡ true) ⊎ (has next n t ≡ true)
    moved n t h = elim (split n t h) [
      | inl e ↦ inr (one.all n t e)
      | inr e ↦ inl (reads.keeps n t e)
    ]

-- nothing is pending any more
pub opening_end : (nodes : Nodes) (output : ℕ) (first last : ℤ) (pending done : BTreeSet NodeFrame)
    → IsOpening nodes output first last pending done → ((n : ℕ) (t : ℤ) → has pending n t ≡ true → ⊥)
    → IsReach nodes output first last (has done)
opening_end nodes output first last pending done o none =
    record {
      all = λ n t h. h (has done) (record {
        start = λ t l u. elim (o.start t l u) [ inl e ↦ absurd (none output t e) | inr e ↦ e ];
        reads = λ n t e m f r. elim (o.reads n t e m f r) [ inl p ↦ absurd (none m f p) | inr p ↦ p ];
      });
      only = o.reached;
    }
