-- What a table of uses has, moment by moment.
use Rattle.std.proofs.Common.{◌≡◌, ℕ, zero, suc, ◌<◌, ◌+◌, ◌*◌, ◌/◌, ◌%◌, ℤ, pos, Bool, true, false, cond, ◌||◌, List, [], ◌∷◌, ◌++◌, map, get_or, Option, Some, None, IsSome, is_some, All, Contains, refl, sym, ap, ◌∙◌, subst, arith, inl, inr}
use Rattle.std.specs.List.{list_any}
use Rattle.std.specs.List.Sorted.{IsStrictlySortedBy}
use Rattle.std.specs.Map.{keys_of, lookup, values_of}
use Rattle.std.specs.Option.{option_map_or}
use Rattle.std.specs.BTreeMap.{BTreeMap, IsOrdered, Updates, is_at, values}
use Rattle.std.specs.Ordering.{is_eq, eq_by_cmp}
use Rattle.std.specs.Cmp.{tied_itself}
use Rattle.std.specs.declared.cmp.Ordering.TheVariants.{Less}
use Rattle.std.proofs.lemmas.Bool.{cases_lt, false≢true, or_parts}
use Rattle.std.proofs.lemmas.Cmp.{eq_by_cmp_equiv}
use Rattle.std.proofs.lemmas.List.Folds.{Any-from_list_any, list_any_at}
use Rattle.std.proofs.lemmas.Map.Keys.{IsDistinct-from_sorted, sorted_head, sorted_tail}
use Rattle.std.proofs.lemmas.Map.Views.{Contains-from_lookup, lookup-from_Contains}
use Rattle.std.proofs.lemmas.Option.{none-some, same_Some}
use Rattle.std.proofs.lemmas.Nat.{div-mul-add, mod-mul-add}
use Rattle.std.proofs.Math.Nat.{add-mul, mul_comm, one-mul}
use Rattle.std.specs.List.{AllByRecursion}
use Rattle.fx_base.proofs.RunLaws.{Contains-map}
use Rattle.fx_seq.specs.declared.used.Use.{Use}
use Rattle.fx_seq.specs.declared.wanted.Wanted.{Wanted}
use Rattle.fx_scene.specs.declared.reaching.NodeFrame.{NodeFrame}
use Rattle.fx_scene.specs.Reach.{node_frame, node_frame_cmp}
use Rattle.fx_scene.specs.Uses.{AreUses, HasUses, IsUse, ListsUse, Notes, Wanting, is_here, noted, use_with, used_in, wanting}
use Rattle.fx_effect.specs.Meaning.{Meaning}
use Rattle.fx_graph.specs.Shown.{GraphShown, Shown}
use Rattle.fx_params.specs.Parameter.{Parameter}
use Rattle.fx_scene.specs.Rows.{graph_with, with_rows}
use Rattle.fx_scene.specs.declared.take.Edit.{Edit}
use Rattle.fx_scene.specs.Scenes.{graph_nodes, no_images}
use Rattle.fx_scene.specs.Takes.{nodes_at}
use Rattle.fx_scene.specs.Wants.{AreWanted, IsBefore, IsWanted, Lists}
use Rattle.std.proofs.lemmas.List.Elements.{All-contains, Contains-get_or}
use Rattle.fx_scene.proofs.Members.{In, contained, in_of}
use Rattle.fx_scene.proofs.RankLemmas.{is_lower}
use Rattle.fx_scene.proofs.ReachLemmas.{exact_node_frames, is_same, node_frames_total}
use Rattle.fx_scene.proofs.WantLemmas.{Rises, pairs_of}
use Rattle.std.specs.Cmp.{Equal-is}

here_is : (w : Wanted) (n : ℕ) (f : ℤ) → is_here w n f ≡ true → (n ≡ w.node) × (f ≡ w.frame)
here_is w n f h = is_same (node_frame w.node w.frame) n f h

here_itself : (w : Wanted) → is_here w w.node w.frame ≡ true
here_itself w = ap is_eq (tied_itself node_frames_total (node_frame w.node w.frame))

here_at : (w : Wanted) (n : ℕ) (f : ℤ) → w.node ≡ n → w.frame ≡ f → is_here w n f ≡ true
here_at w n f node frame =
    subst (λ (k : ℕ). is_here w k f ≡ true) node (subst (λ (t : ℤ). is_here w w.node t ≡ true) frame (here_itself w))

-- ---- one and more

pub note_is : (old new : BTreeMap NodeFrame Use) (w : Wanted) (moment from : ℕ)
    → Updates node_frame_cmp old new (node_frame w.node w.frame) (Some (record { wanted = w; from = from; until = moment }))
    → from ≡ option_map_or (λ (u : Use). u.from) (used_in old w.node w.frame) moment → Notes (w ∷ []) moment old new
note_is old new w moment from u is n f = u.0 (node_frame n f) ∙ by (is_here w n f) refl
  where
    by : (b : Bool) → is_here w n f ≡ b
        → cond b (Some (record { wanted = w; from = from; until = moment })) (used_in old n f)
        ≡ cond b (Some (use_with w moment (used_in old n f))) (used_in old n f)
    by true e =
        let s = here_is w n f e in
        let there : from ≡ option_map_or (λ (u : Use). u.from) (used_in old n f) moment =
        is ∙ ap (λ (k : ℕ). option_map_or (λ (u : Use). u.from) (used_in old k w.frame) moment) (sym s.0)
        ∙ ap (λ (t : ℤ). option_map_or (λ (u : Use). u.from) (used_in old n t) moment) (sym s.1) in
        let made : ℕ → Use = λ k. record { wanted = w; from = k; until = moment } in
        ap (λ (k : ℕ). Some (made k)) there
    by false e = refl

pub noted-append : (ws : List Wanted) (w : Wanted) (moment n : ℕ) (f : ℤ) (o : Option Use)
    → noted (ws ++ w ∷ []) moment n f o ≡ noted (w ∷ []) moment n f (noted ws moment n f o)
noted-append [] w moment n f o = refl
noted-append (v ∷ ws) w moment n f o =
    noted-append ws w moment n f (cond (is_here v n f) (Some (use_with v moment o)) o)

abbrev pub listed : List Wanted → ℕ → ℤ → Bool
listed ws n f = list_any (λ w. is_here w n f) ws

noted_none : (ws : List Wanted) (moment n : ℕ) (f : ℤ) (o : Option Use) → listed ws n f ≡ false → noted ws moment n f o ≡ o
noted_none [] moment n f o h = refl
noted_none (w ∷ ws) moment n f o h =
    let p = or_parts (is_here w n f) (listed ws n f) h in
    ap (λ (b : Bool). noted ws moment n f (cond b (Some (use_with w moment o)) o)) p.0 ∙ noted_none ws moment n f o p.1

module _ (P : Wanted → Type 0) where
  -- the use of a frame that was noted
  pub record IsNoted (o : Option Use) (n : ℕ) (f : ℤ) (moment : ℕ) (u : Use) : Type 0 where
    pub node : u.wanted.node ≡ n
    pub frame : u.wanted.frame ≡ f
    pub until : u.until ≡ moment
    pub from : u.from ≡ option_map_or (λ (v : Use). v.from) o moment
    pub named : P u.wanted

  noted_still : (ws : List Wanted) → ((w : Wanted) → In ws w → P w) → (moment n : ℕ) (f : ℤ) (o : Option Use) (u : Use) → IsNoted o n f moment u
      → (v : Use) × (noted ws moment n f (Some u) ≡ Some v) × IsNoted o n f moment v
  noted_still [] all moment n f o u is = (u, refl, is)
  noted_still (w ∷ ws) all moment n f o u is =
      by (λ v h. noted_still ws (λ x i. all x (inr i)) moment n f o v h) (is_here w n f) refl
    where
      by : ((v : Use) → IsNoted o n f moment v → (t : Use) × (noted ws moment n f (Some v) ≡ Some t) × IsNoted o n f moment t)
          → (b : Bool) → is_here w n f ≡ b
          → (t : Use) × (noted ws moment n f (cond b (Some (use_with w moment (Some u))) (Some u)) ≡ Some t) × IsNoted o n f moment t
      by more true e =
          let s = here_is w n f e in
          more (use_with w moment (Some u)) (record { node = sym s.0; frame = sym s.1; until = refl; from = is.from; named = all w (inl refl) })
      by more false e = more u is

  noted_some : (ws : List Wanted) → ((w : Wanted) → In ws w → P w) → (moment n : ℕ) (f : ℤ) (o : Option Use) → listed ws n f ≡ true
      → (v : Use) × (noted ws moment n f o ≡ Some v) × IsNoted o n f moment v
  noted_some [] all moment n f o h = absurd (false≢true h)
  noted_some (w ∷ ws) all moment n f o h = by (λ k. noted_some ws (λ x i. all x (inr i)) moment n f o k) (is_here w n f) refl h
    where
      by : (listed ws n f ≡ true → (v : Use) × (noted ws moment n f o ≡ Some v) × IsNoted o n f moment v)
          → (b : Bool) → is_here w n f ≡ b → (b || listed ws n f) ≡ true
          → (v : Use) × (noted ws moment n f (cond b (Some (use_with w moment o)) o) ≡ Some v) × IsNoted o n f moment v
      by more true e k =
          let s = here_is w n f e in
          noted_still ws (λ x i. all x (inr i)) moment n f o (use_with w moment o) (record { node = sym s.0; frame = sym s.1; until = refl; from = refl; named = all w (inl refl) })
      by more false e k = more k

-- ---- from moment to moment

-- these are the frames that the moment wants
pub record AreAt (W : Wanting) (P : Wanted → Type 0) (j : ℕ) (ws : List Wanted) : Type 0 where
  pub only : (w : Wanted) → Contains ws w → W j w.node w.frame
  pub all : (n : ℕ) (f : ℤ) → W j n f → Lists ws n f
  pub named : (w : Wanted) → In ws w → P w

pub uses_none : (W : Wanting) (P : Wanted → Type 0) (table : BTreeMap NodeFrame Use) → table.entries ≡ [] → IsOrdered node_frame_cmp table → HasUses W P 0 table
uses_none W P table none order =
    record {
      node = λ n f u h. absurd (none-some u (sym (empty n f) ∙ h));
      frame = λ n f u h. absurd (none-some u (sym (empty n f) ∙ h));
      is = λ n f u h. absurd (none-some u (sym (empty n f) ∙ h));
      all = λ i n f low w. absurd (omega (arith, low));
      named = λ n f u h. absurd (none-some u (sym (empty n f) ∙ h));
      order = order;
    }
  where
    empty : (n : ℕ) (f : ℤ) → used_in table n f ≡ None
    empty n f = ap (λ (es : List (NodeFrame × Use)). lookup (is_at (node_frame_cmp (node_frame n f))) es) none

module _ (W : Wanting) (P : Wanted → Type 0) (j : ℕ) (ws : List Wanted) (old new : BTreeMap NodeFrame Use) (has : HasUses W P j old)
    (at : AreAt W P j ws)
    (notes : Notes ws j old new) where
  listed_wants : (n : ℕ) (f : ℤ) → listed ws n f ≡ true → W j n f
  listed_wants n f h =
      let r = Any-from_list_any (λ w. is_here w n f) ws h in
      let s = here_is r.1 n f r.4 in
      subst (λ (k : ℕ). W j k f) (sym s.0) (subst (λ (t : ℤ). W j r.1.node t) (sym s.1) (at.only r.1 (r.0, r.2, r.3)))

  wants_listed : (n : ℕ) (f : ℤ) → W j n f → listed ws n f ≡ true
  wants_listed n f h =
      let l = at.all n f h in
      list_any_at (λ w. is_here w n f) ws l.listed.0 l.entry l.listed.1
      (ap (λ (w : Wanted). is_here w n f) l.listed.2 ∙ here_at l.entry n f l.node l.frame)

  -- W at the place of a use
  along : (n : ℕ) (f : ℤ) (u : Use) → u.wanted.node ≡ n → u.wanted.frame ≡ f → (i : ℕ) → W i n f → W i u.wanted.node u.wanted.frame
  along n f u node frame i w =
      subst (λ (k : ℕ). W i k u.wanted.frame) (sym node) (subst (λ (t : ℤ). W i n t) (sym frame) w)

  back : (n : ℕ) (f : ℤ) (u : Use) → u.wanted.node ≡ n → u.wanted.frame ≡ f → (i : ℕ) → W i u.wanted.node u.wanted.frame → W i n f
  back n f u node frame i w = subst (λ (k : ℕ). W i k f) node (subst (λ (t : ℤ). W i u.wanted.node t) frame w)

  of_noted : (n : ℕ) (f : ℤ) (u : Use) → W j n f → IsNoted P (used_in old n f) n f j u → IsUse W (j + 1) u
  of_noted n f u now is = by (used_in old n f) refl is.from
    where
      by : (o : Option Use) → used_in old n f ≡ o → u.from ≡ option_map_or (λ (v : Use). v.from) o j → IsUse W (j + 1) u
      by None none from =
          record {
            order = omega (arith, from, is.until);
            end = omega (arith, is.until);
            first = subst (λ (i : ℕ). W i u.wanted.node u.wanted.frame) (sym from) (along n f u is.node is.frame j now);
            last = subst (λ (i : ℕ). W i u.wanted.node u.wanted.frame) (sym is.until) (along n f u is.node is.frame j now);
            none_before = λ i low w.
                let some : is_some (used_in old n f) ≡ true = has.all i n f (omega (arith, low, from)) (back n f u is.node is.frame i w) in
                false≢true (sym (ap (λ (o : Option Use). is_some o) none) ∙ some);
            none_after = λ i low high w. omega (arith, low, high, is.until);
          }
      by (Some v) some from =
          let was = has.is n f v some in
          let node = has.node n f v some in
          let frame = has.frame n f v some in
          let order = was.order in
          let end = was.end in
          record {
            order = omega (arith, from, is.until, order, end);
            end = omega (arith, is.until);
            first = subst (λ (i : ℕ). W i u.wanted.node u.wanted.frame) (sym from)
                (along n f u is.node is.frame v.from (back n f v node frame v.from was.first));
            last = subst (λ (i : ℕ). W i u.wanted.node u.wanted.frame) (sym is.until) (along n f u is.node is.frame j now);
            none_before = λ i low w. was.none_before i (omega (arith, low, from)) (along n f v node frame i (back n f u is.node is.frame i w));
            none_after = λ i low high w. omega (arith, low, high, is.until);
          }

  of_old : (n : ℕ) (f : ℤ) (u : Use) → listed ws n f ≡ false → used_in old n f ≡ Some u → IsUse W (j + 1) u
  of_old n f u not some =
      let was = has.is n f u some in
      let end = was.end in
      record {
        order = was.order;
        end = omega (arith, end);
        first = was.first;
        last = was.last;
        none_before = was.none_before;
        none_after = λ i low high w. elim (cases_lt i j) [
          | inl before ↦ was.none_after i low before w
          | inr behind ↦
              let same : i ≡ j = omega (arith, high, behind) in
              let here = subst (λ (k : ℕ). W k n f) same (back n f u (has.node n f u some) (has.frame n f u some) i w) in
              false≢true (sym not ∙ wants_listed n f here)
        ];
      }

  -- what the new table has of a node's frame
  pub either : (Q : Use → Type 0) (n : ℕ) (f : ℤ) (u : Use) → used_in new n f ≡ Some u
      → (W j n f → IsNoted P (used_in old n f) n f j u → Q u) → (listed ws n f ≡ false → used_in old n f ≡ Some u → Q u) → Q u
  either Q n f u h one two = by (listed ws n f) refl
    where
      by : (b : Bool) → listed ws n f ≡ b → Q u
      by true is =
          let r = noted_some P ws at.named j n f (used_in old n f) is in
          let same : r.0 ≡ u = same_Some r.0 u (sym r.1 ∙ sym (notes n f) ∙ h) in
          one (listed_wants n f is) (subst (λ (v : Use). IsNoted P (used_in old n f) n f j v) same r.2)
      by false is = two is (sym (noted_none ws j n f (used_in old n f) is) ∙ sym (notes n f) ∙ h)

  some_new : (n : ℕ) (f : ℤ) → (listed ws n f ≡ false → IsSome (used_in old n f)) → IsSome (used_in new n f)
  some_new n f was = by (listed ws n f) refl
    where
      by : (b : Bool) → listed ws n f ≡ b → IsSome (used_in new n f)
      by true is =
          let r = noted_some P ws at.named j n f (used_in old n f) is in
          ap (λ (o : Option Use). is_some o) (notes n f ∙ r.1)
      by false is = ap (λ (o : Option Use). is_some o) (notes n f ∙ noted_none ws j n f (used_in old n f) is) ∙ was is

  pub uses_more : IsOrdered node_frame_cmp new → HasUses W P (j + 1) new
  uses_more order =
      record {
        node = λ n f u h. either (λ (v : Use). v.wanted.node ≡ n) n f u h (λ w is. is.node) (λ not some. has.node n f u some);
        frame = λ n f u h. either (λ (v : Use). v.wanted.frame ≡ f) n f u h (λ w is. is.frame) (λ not some. has.frame n f u some);
        is = λ n f u h. either (λ (v : Use). IsUse W (j + 1) v) n f u h (λ w is. of_noted n f u w is) (λ not some. of_old n f u not some);
        all = λ i n f low w. elim (cases_lt i j) [
          | inl before ↦ some_new n f (λ not. has.all i n f before w)
          | inr behind ↦
              let same : i ≡ j = omega (arith, low, behind) in
              some_new n f (λ not. absurd (false≢true (sym not ∙ wants_listed n f (subst (λ (k : ℕ). W k n f) same w))))
        ];
        named = λ n f u h. either (λ (v : Use). P v.wanted) n f u h (λ w is. is.named) (λ not some. has.named n f u some);
        order = order;
      }

-- ---- the uses in the table's order

from_values : (es : List (NodeFrame × Use)) (u : Use) → Contains (values_of es) u → (k : NodeFrame) × Contains es (k, u)
from_values [] u at = absurd (omega (arith, at.1))
from_values (e ∷ es) u (zero, low, same) = (e.0, (0, omega arith, ap (λ (v : Use). (e.0, v)) same))
from_values (e ∷ es) u (suc i, low, same) =
    let r = from_values es u (i, omega (arith, low), same) in
    let at = r.1 in
    let under = at.1 in
    (r.0, (suc at.0, omega (arith, under), at.2))

has_entry : (table : BTreeMap NodeFrame Use) → IsOrdered node_frame_cmp table → (k : NodeFrame) (u : Use) → Contains table.entries (k, u)
    → used_in table k.node k.frame ≡ Some u
has_entry table order k u at =
    lookup-from_Contains {eq = eq_by_cmp node_frame_cmp} (eq_by_cmp_equiv node_frames_total) k u table.entries
    (IsDistinct-from_sorted node_frame_cmp (keys_of table.entries) order) at

all_in : (P : NodeFrame → Type 0) (ks : List NodeFrame) → AllByRecursion P ks → (k : NodeFrame) → In ks k → P k
all_in P [] h k i = absurd i
all_in P (x ∷ ks) h k i = elim i [ inl e ↦ subst P e h.0 | inr r ↦ all_in P ks h.1 k r ]

-- uses at their keys, which rise
rises_of : (es : List (NodeFrame × Use)) → IsStrictlySortedBy node_frame_cmp (keys_of es)
    → ((k : NodeFrame) (u : Use) → Contains es (k, u) → (u.wanted.node ≡ k.node) × (u.wanted.frame ≡ k.frame))
    → Rises (map (λ (u : Use). u.wanted) (values_of es))
rises_of [] order keyed = tt
rises_of (e ∷ es) order keyed =
    (λ w i. before w (in_wanted es w i), rises_of es (sorted_tail node_frame_cmp e.0 (keys_of es) order) (λ k u at. keyed k u (later k u at)))
  where
    later : (k : NodeFrame) (u : Use) → Contains es (k, u) → Contains (e ∷ es) (k, u)
    later k u at = let under = at.1 in (suc at.0, omega (arith, under), at.2)

    in_wanted : (ds : List (NodeFrame × Use)) (w : Wanted) → In (map (λ (u : Use). u.wanted) (values_of ds)) w
        → (k : NodeFrame) × (u : Use) × Contains ds (k, u) × (u.wanted ≡ w)
    in_wanted [] w i = absurd i
    in_wanted (d ∷ ds) w i = elim i [
      | inl e ↦ (d.0, d.1, (0, omega arith, refl), e)
      | inr r ↦
          let q = in_wanted ds w r in
          let at = q.2 in
          let under = at.1 in
          (q.0, q.1, (suc at.0, omega (arith, under), at.2), q.3)
    ]

    before : (w : Wanted) → (k : NodeFrame) × (u : Use) × Contains es (k, u) × (u.wanted ≡ w) → IsBefore e.1.wanted w
    before w q =
        let less = all_in (λ (k : NodeFrame). node_frame_cmp e.0 k ≡ Less) (keys_of es) (sorted_head node_frame_cmp e.0 (keys_of es) order)
        q.0 (in_of (keys_of es) q.0 (Contains-map (λ (d : NodeFrame × Use). d.0) es (q.0, q.1) q.2)) in
        let lower = is_lower e.0 q.0 less in
        let here = keyed e.0 e.1 (0, omega arith, refl) in
        let there = keyed q.0 q.1 (later q.0 q.1 q.2) in
        let node : w.node ≡ q.0.node = sym (ap (λ (v : Wanted). v.node) q.3) ∙ there.0 in
        let frame : w.frame ≡ q.0.frame = sym (ap (λ (v : Wanted). v.frame) q.3) ∙ there.1 in
        elim lower [
          | inl low ↦ inl (omega (arith, low, node, here.0))
          | inr both ↦ inr (here.0 ∙ both.0 ∙ sym node, rw (here.1, frame) both.1)
        ]

pub are_uses : (W : Wanting) (P : Wanted → Type 0) (count : ℕ) (table : BTreeMap NodeFrame Use) → HasUses W P count table
    → AreUses W count (values table)
are_uses W P count table has =
    record {
      each = λ u at.
          let r = from_values table.entries u at in
          has.is r.0.node r.0.frame u (has_entry table has.order r.0 u r.1);
      all = λ j n f low w. by n f (used_in table n f) refl (has.all j n f low w);
      order = pairs_of (map (λ (u : Use). u.wanted) (values_of table.entries)) (rises_of table.entries has.order (λ k u at.
          let some = has_entry table has.order k u at in
          (has.node k.node k.frame u some, has.frame k.node k.frame u some)));
    }
  where
    by : (n : ℕ) (f : ℤ) (o : Option Use) → used_in table n f ≡ o → is_some o ≡ true → ListsUse (values table) n f
    by n f None is some = absurd (false≢true some)
    by n f (Some u) is some =
        let at = Contains-from_lookup {eq = eq_by_cmp node_frame_cmp} (λ p q h. exact_node_frames p q ((Equal-is _).0 h)) (node_frame n f) u table.entries is in
        record {
          use_ = u;
          listed = Contains-map (λ (d : NodeFrame × Use). d.1) table.entries (node_frame n f, u) at;
          node = has.node n f u is;
          frame = has.frame n f u is;
        }

pub all_named : (W : Wanting) (P : Wanted → Type 0) (count : ℕ) (table : BTreeMap NodeFrame Use) → HasUses W P count table
    → All (λ (u : Use). P u.wanted) (values table)
all_named W P count table has k d low =
    let u = get_or (values table) k d in
    let r = from_values table.entries u (Contains-get_or (values table) k d low) in
    has.named r.0.node r.0.frame u (has_entry table has.order r.0 u r.1)

-- ---- at a take

module _ (count take i : ℕ) (low : i < count) where
  pub take_is : (take * count + i) / count ≡ take
  take_is = div-mul-add take count i low

  pub frame_is : (take * count + i) % count ≡ i
  frame_is = mod-mul-add take count i low

pub at_take : {E : Type 0} (meaning : E → Meaning) (g : GraphShown E) (P : Wanted → Type 0) (takes : List (List Edit))
    (rows : List (List Parameter)) (first count take i : ℕ) (ws : List Wanted) → i < count
    → nodes_at g.nodes takes take ≡ with_rows g.nodes rows
    → AreWanted (graph_nodes meaning (graph_with g rows) no_images) g.output (pos (first + i)) (pos (first + i)) ws
    → All P ws → AreAt (wanting meaning g takes first count) P (take * count + i) ws
at_take {E} meaning g P takes rows first count take i ws low same are named =
    record {
      only = λ w at. there w.node w.frame (are.only w at);
      all = λ n f w. are.all n f (here n f w);
      named = λ w at. All-contains P ws w named (contained ws w at);
    }
  where
    Over : List (Shown E) → ℕ → ℕ → ℤ → Type 0
    Over nodes t n f =
        IsWanted (graph_nodes meaning (record g { nodes = nodes }) no_images) g.output (pos (first + t)) (pos (first + t)) n f

    there : (n : ℕ) (f : ℤ) → Over (with_rows g.nodes rows) i n f → wanting meaning g takes first count (take * count + i) n f
    there n f w =
        subst (λ (k : ℕ). Over (nodes_at g.nodes takes k) ((take * count + i) % count) n f) (sym (take_is count take i low))
        (subst (λ (t : ℕ). Over (nodes_at g.nodes takes take) t n f) (sym (frame_is count take i low))
        (subst (λ (nodes : List (Shown E)). Over nodes i n f) (sym same) w))

    here : (n : ℕ) (f : ℤ) → wanting meaning g takes first count (take * count + i) n f → Over (with_rows g.nodes rows) i n f
    here n f w =
        subst (λ (nodes : List (Shown E)). Over nodes i n f) same
        (subst (λ (t : ℕ). Over (nodes_at g.nodes takes take) t n f) (frame_is count take i low)
        (subst (λ (k : ℕ). Over (nodes_at g.nodes takes k) ((take * count + i) % count) n f) (take_is count take i low) w))

-- ---- the number of a moment

pub next_moment : (a i : ℕ) → (a + i) + 1 ≡ a + (i + 1)
next_moment a i = omega arith

pub next_take : (k count : ℕ) → k * count + count ≡ (k + 1) * count
next_take k count = ap (λ (n : ℕ). k * count + n) (sym (one-mul count)) ∙ sym (add-mul k 1 count)

pub all_moments : (k count : ℕ) → k * count + count ≡ count * (k + 1)
all_moments k count = next_take k count ∙ mul_comm (k + 1) count
