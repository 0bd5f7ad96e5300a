-- The least set of entries, on the way.
use Rattle.std.proofs.Common.{◌≡◌, ◌&&◌, ℕ, ℤ, true, List, [], ◌∷◌, map, sym, ap, subst, arith, ◌⊎◌, inl, inr, AllPairs}
use Rattle.std.proofs.lemmas.Bool.{and_from, and_parts}
use Rattle.std.proofs.lemmas.List.Kept.{AllPairs-cons}
use Rattle.std.proofs.lemmas.Map.Keys.{sorted_head, sorted_tail}
use Rattle.std.specs.declared.cmp.Ordering.TheVariants.{Less}
use Rattle.std.specs.BTreeSet.{BTreeSet}
use Rattle.std.specs.List.{AllByRecursion, Contains}
use Rattle.std.specs.List.Sorted.{IsStrictlySortedBy}
use Rattle.fx_base.specs.Bounds.{Bounds}
use Rattle.fx_scene.specs.Nodes.{Nodes}
use Rattle.fx_scene.proofs.Members.{In, all_from, contained, in_map, in_of}
use Rattle.fx_plan.specs.declared.entry.Entry.{Entry}
use Rattle.fx_plan.specs.declared.entry.SortKey.{SortKey}
use Rattle.fx_plan.specs.Keys.{Adds, AreDemanded, entry_of, has, key_cmp, key_of}
use Rattle.fx_plan.specs.Plan.{IsBefore, IsDemanded, IsPlan, needed_entries, window_entries}
use Rattle.fx_plan.proofs.KeyLemmas.{has_entry, in_keys, the_one}
use Rattle.fx_plan.proofs.RankLemmas.{is_before}

-- what is pending and what is demanded
pub record IsPlanning (nodes : Nodes) (output side : ℕ) (project : Bounds) (t : ℤ) (pending done : BTreeSet SortKey) : Type 0 where
  pub sound : (e : Entry) → has pending e ≡ true → IsDemanded nodes output side project t e
  pub demanded : (e : Entry) → has done e ≡ true → IsDemanded nodes output side project t e
  pub window : (e : Entry) → Contains (window_entries nodes output side project t) e
      → (has pending e ≡ true) ⊎ (has done e ≡ true)
  pub needs : (e d : Entry) → has done e ≡ true → Contains (needed_entries nodes side e) d
      → (has pending d ≡ true) ⊎ (has done d ≡ true)
  pub first : (e d : Entry) → has done e ≡ true → Contains (needed_entries nodes side e) d → IsBefore d e

module _ (nodes : Nodes) (output side : ℕ) (project : Bounds) (t : ℤ) where
  -- the renders of the window tiles
  pub planning_start : (empty pending done : BTreeSet SortKey) → ((e : Entry) → has empty e ≡ true → ⊥)
      → ((e : Entry) → has done e ≡ true → ⊥) → Adds (window_entries nodes output side project t) empty pending
      → IsPlanning nodes output side project t pending done
  planning_start empty pending done none none_done a =
      record {
        sound = λ e h s closed. elim (a.only e h) [ inl i ↦ absurd (none e i) | inr i ↦ closed.window e i ];
        demanded = λ e h. absurd (none_done e h);
        window = λ e c. inl (a.all e c);
        needs = λ e d h. absurd (none_done e h);
        first = λ e d h. absurd (none_done e h);
      }

  -- the last entry is taken, those that it needs are added, and it is demanded
  pub planning_step : (pending less more done next : BTreeSet SortKey) (k : SortKey)
      → IsPlanning nodes output side project t pending done
      → has pending (entry_of k) ≡ true → ((e : Entry) → has less e ≡ true → has pending e ≡ true)
      → ((e : Entry) → has pending e ≡ true → (e ≡ entry_of k) ⊎ (has less e ≡ true))
      → Adds (needed_entries nodes side (entry_of k)) less more
      → ((d : Entry) → Contains (needed_entries nodes side (entry_of k)) d → IsBefore d (entry_of k))
      → Adds (entry_of k ∷ []) done next
      → IsPlanning nodes output side project t more next
  planning_step pending less more done next k o there fewer split needs before one =
      record {
        sound = λ e h. elim (needs.only e h) [
          | inl i ↦ o.sound e (fewer e i)
          | inr i ↦ λ s closed. closed.needs (entry_of k) e (o.sound (entry_of k) there s closed) i
        ];
        demanded = λ e h. elim (one.only e h) [
          | inl i ↦ o.demanded e i
          | inr i ↦ subst (IsDemanded nodes output side project t) (sym (the_one (entry_of k) e i)) (o.sound (entry_of k) there)
        ];
        window = λ e c. elim (o.window e c) [ inl i ↦ moved e i | inr i ↦ inr (one.keeps e i) ];
        needs = λ e d h c. elim (one.only e h) [
          | inl i ↦ elim (o.needs e d i c) [ inl p ↦ moved d p | inr p ↦ inr (one.keeps d p) ]
          | inr i ↦ inl (needs.all d (subst (λ (x : Entry). Contains (needed_entries nodes side x) d) (the_one (entry_of k) e i) c))
        ];
        first = λ e d h c. elim (one.only e h) [
          | inl i ↦ o.first e d i c
          | inr i ↦
              let same = the_one (entry_of k) e i in
              subst (IsBefore d) (sym same) (before d (subst (λ (x : Entry). Contains (needed_entries nodes side x) d) same c))
        ];
      }
    where
      moved : (e : Entry) → has pending e ≡ true → (has more e ≡ true) ⊎ (has next e ≡ true)
      moved e h = elim (split e h) [
        | inl is ↦ inr (one.all e (contained (entry_of k ∷ []) e (inl (sym is))))
        | inr i ↦ inl (needs.keeps e i)
      ]

  -- nothing is pending any more
  pub planning_end : (pending done : BTreeSet SortKey) → IsPlanning nodes output side project t pending done
      → ((e : Entry) → has pending e ≡ true → ⊥) → AreDemanded nodes output side project t done
  planning_end pending done o none =
      record {
        window = λ e c. elim (o.window e c) [ inl i ↦ absurd (none e i) | inr i ↦ i ];
        needs = λ e d h c. elim (o.needs e d h c) [ inl p ↦ absurd (none d p) | inr p ↦ p ];
        only = o.demanded;
        first = o.first;
      }

  in_entries : (ks : List SortKey) (e : Entry) → In (map entry_of ks) e → In ks (key_of e)
  in_entries [] e i = absurd i
  in_entries (k ∷ ks) e i = elim i [ inl is ↦ inl (ap key_of is) | inr j ↦ inr (in_entries ks e j) ]

  -- they are listed in their order
  pub plan_listed : (done : BTreeSet SortKey) (entries : List Entry) → AreDemanded nodes output side project t done
      → entries ≡ map entry_of done.keys → AllPairs IsBefore entries → IsPlan nodes output side project t entries
  plan_listed done entries o are order =
      record {
        all = λ e h.
            let there = h (has done) (record { window = o.window; needs = o.needs }) in
            contained entries e (subst (λ (es : List Entry). In es e) (sym are)
            (in_map entry_of done.keys (key_of e) (in_keys done e there)));
        only = λ e c. o.only e (back e c);
        order = order;
        needs_first = λ e d c h. o.first e d (back e c) h;
      }
    where
      back : (e : Entry) → Contains entries e → has done e ≡ true
      back e c =
          has_entry done (key_of e) (in_entries done.keys e (subst (λ (es : List Entry). In es e) are (in_of entries e c)))

-- ---- other nodes

-- what is demanded of these nodes is demanded of others whose window tiles are found there and that need the same
pub demanded_same : (nodes other : Nodes) (output side : ℕ) (project : Bounds) (t : ℤ) (done : BTreeSet SortKey)
    → window_entries nodes output side project t ≡ window_entries other output side project t
    → ((e : Entry) → has done e ≡ true → needed_entries nodes side e ≡ needed_entries other side e)
    → AreDemanded nodes output side project t done → AreDemanded other output side project t done
demanded_same nodes other output side project t done windows needs o =
    record {
      window = λ e c. o.window e (here e c);
      needs = λ e d h c. o.needs e d h (back e d h c);
      only = λ e h s closed.
          (and_parts (s e) (has done e) (o.only e h (λ d. s d && has done d) (record {
            window = λ d c.
                and_from (s d) (has done d) (closed.window d (subst (λ (es : List Entry). Contains es d) windows c)) (o.window d c);
            needs = λ d f i c.
                let both = and_parts (s d) (has done d) i in
                and_from (s f) (has done f) (closed.needs d f both.0 (subst (λ (es : List Entry). Contains es f) (needs d both.1) c))
                (o.needs d f both.1 c);
          }))).0;
      first = λ e d h c. o.first e d h (back e d h c);
    }
  where
    here : (e : Entry) → Contains (window_entries other output side project t) e → Contains (window_entries nodes output side project t) e
    here e c = subst (λ (es : List Entry). Contains es e) (sym windows) c

    back : (e d : Entry) → has done e ≡ true → Contains (needed_entries other side e) d → Contains (needed_entries nodes side e) d
    back e d h c = subst (λ (es : List Entry). Contains es d) (sym (needs e h)) c

-- ---- sorted keys

above_all : (k : SortKey) (ks : List SortKey) → AllByRecursion (λ (j : SortKey). key_cmp k j ≡ Less) ks → (e : Entry)
    → In (map entry_of ks) e → IsBefore (entry_of k) e
above_all k [] a e i = absurd i
above_all k (j ∷ ks) a e i = elim i [
  | inl is ↦ subst (IsBefore (entry_of k)) is (is_before k j a.0)
  | inr l ↦ above_all k ks a.1 e l
]

pub sorted_entries : (ks : List SortKey) → IsStrictlySortedBy key_cmp ks → AllPairs IsBefore (map entry_of ks)
sorted_entries [] s = λ i j d low high. absurd (omega (arith, low, high))
sorted_entries (k ∷ ks) s =
    AllPairs-cons IsBefore (entry_of k) (map entry_of ks)
    (all_from (IsBefore (entry_of k)) (map entry_of ks) (above_all k ks (sorted_head key_cmp k ks s)))
    (sorted_entries ks (sorted_tail key_cmp k ks s))
