-- Sets of entries: their order, and what is added to them.
use Rattle.std.proofs.Common.{◌≡◌, ℕ, ℤ, Bool, true, false, cond, List, [], ◌∷◌, ◌++◌, refl, sym, ap, ◌∙◌, arith, ◌⊎◌, inl, inr}
use Rattle.std.proofs.lemmas.Bool.{false≢true}
use Rattle.std.proofs.lemmas.List.Elements.{Contains-append_cases, Contains-append_left, Contains-append_right}
use Rattle.std.proofs.lemmas.Map.Lookups.{CmpEqualImpliesEq, exact_pairs, exact_unsigned, exact_signed}
use Rattle.std.proofs.lemmas.Map.Views.{btree_set_contains_iff}
use Rattle.std.specs.Cmp.{IsTotalOrder, Equal-is, nat_cmp_total, int_cmp_total, then_total, on_total}
use Rattle.std.specs.declared.cmp.Ordering.{Ordering}
use Rattle.std.specs.Ordering.{nat_cmp, int_cmp, ordering_then}
use Rattle.std.specs.BTreeMap.{is_at}
use Rattle.std.specs.BTreeSet.{BTreeSet, Updates}
use Rattle.std.specs.List.{Contains}
use Rattle.fx_scene.proofs.Members.{In, contained, in_of}
use Rattle.fx_plan.specs.declared.entry.Entry.{Entry}
use Rattle.fx_plan.specs.declared.entry.SortKey.{SortKey}
use Rattle.fx_plan.specs.Keys.{Adds, entry_of, has, key_cmp, key_of}

-- ---- the order

abbrev with_int : {A : Type 0} → (A → A → Ordering) → ℤ × A → ℤ × A → Ordering
with_int R x y = ordering_then (int_cmp x.0 y.0) (R x.1 y.1)

exact_with : {A : Type 0} (R : A → A → Ordering) → CmpEqualImpliesEq R → CmpEqualImpliesEq (with_int R)
exact_with R e = exact_pairs int_cmp R exact_signed e

abbrev Numbers : Type 0
Numbers = ℕ × (ℤ × (ℤ × (ℤ × (ℤ × ℤ))))

abbrev numbers_of : SortKey → Numbers
numbers_of k = (k.node, (k.frame, (k.y1, (k.x1, (k.y2, k.x2)))))

abbrev of_numbers : Numbers → SortKey
of_numbers n =
    record {
      node = n.0;
      frame = n.1.0;
      y1 = n.1.1.0;
      x1 = n.1.1.1.0;
      y2 = n.1.1.1.1.0;
      x2 = n.1.1.1.1.1;
    }

-- keys that compare alike are one
pub exact_keys : CmpEqualImpliesEq key_cmp
exact_keys p q h =
    let tail = exact_with (with_int (with_int (with_int int_cmp)))
    (exact_with (with_int (with_int int_cmp)) (exact_with (with_int int_cmp) (exact_with int_cmp exact_signed))) in
    ap of_numbers
    (exact_pairs nat_cmp (with_int (with_int (with_int (with_int int_cmp)))) exact_unsigned tail (numbers_of p) (numbers_of q) h)

pub keys_total : IsTotalOrder key_cmp
keys_total =
    then_total (on_total (λ (k : SortKey). k.node) nat_cmp_total)
    (then_total (on_total (λ (k : SortKey). k.frame) int_cmp_total)
    (then_total (on_total (λ (k : SortKey). k.y1) int_cmp_total)
    (then_total (on_total (λ (k : SortKey). k.x1) int_cmp_total)
    (then_total (on_total (λ (k : SortKey). k.y2) int_cmp_total) (on_total (λ (k : SortKey). k.x2) int_cmp_total)))))

pub is_same : (k : SortKey) (e : Entry) → is_at (key_cmp k) (key_of e) ≡ true → e ≡ entry_of k
is_same k e h = sym (ap entry_of (exact_keys k (key_of e) ((Equal-is _).0 h)))

-- ---- members

-- an entry that a set has is one of its keys
pub in_keys : (s : BTreeSet SortKey) (e : Entry) → has s e ≡ true → In s.keys (key_of e)
in_keys s e h = in_of s.keys (key_of e) ((btree_set_contains_iff keys_total exact_keys s (key_of e)).0 h)

pub has_entry : (s : BTreeSet SortKey) (k : SortKey) → In s.keys k → has s (entry_of k) ≡ true
has_entry s k i = (btree_set_contains_iff keys_total exact_keys s k).1 (contained s.keys k i)

pub the_one : {X : Type 0} (x y : X) → Contains (x ∷ []) y → y ≡ x
the_one x y c = elim (in_of (x ∷ []) y c) [ inl e ↦ sym e | inr i ↦ absurd i ]

none_of : {X : Type 0} (y : X) → Contains [] y → ⊥
none_of y c = let low = c.1 in omega (arith, low)

-- ---- what is added

-- one entry more
pub adds_one : (old new : BTreeSet SortKey) (k : SortKey) → Updates key_cmp old new k true → Adds (entry_of k ∷ []) old new
adds_one old new k u =
    record {
      keeps = λ e h. u.0 (key_of e) ∙ ap (cond (is_at (key_cmp k) (key_of e)) true) h ∙ both (is_at (key_cmp k) (key_of e));
      only = λ e h. split e (is_at (key_cmp k) (key_of e)) refl (sym (u.0 (key_of e)) ∙ h);
      all = λ e c. ap (has new) (the_one (entry_of k) e c) ∙ u.1;
    }
  where
    both : (b : Bool) → cond b true true ≡ true
    both true = refl
    both false = refl

    split : (e : Entry) (b : Bool) → is_at (key_cmp k) (key_of e) ≡ b → cond b true (has old e) ≡ true
        → (has old e ≡ true) ⊎ Contains (entry_of k ∷ []) e
    split e true is h = inr (contained (entry_of k ∷ []) e (inl (sym (is_same k e is))))
    split e false is h = inl h

-- nothing more
pub adds_none : (old : BTreeSet SortKey) → Adds [] old old
adds_none old = record { keeps = λ e h. h; only = λ e h. inl h; all = λ e c. absurd (none_of e c) }

-- one after the other
pub adds_then : (xs ys : List Entry) (old mid new : BTreeSet SortKey) → Adds xs old mid → Adds ys mid new
    → Adds (xs ++ ys) old new
adds_then xs ys old mid new a b =
    record {
      keeps = λ e h. b.keeps e (a.keeps e h);
      only = λ e h. elim (b.only e h) [
        | inl i ↦ elim (a.only e i) [ inl j ↦ inl j | inr j ↦ inr (Contains-append_left xs ys e j) ]
        | inr i ↦ inr (Contains-append_right xs ys e i)
      ];
      all = λ e c. elim (Contains-append_cases xs ys e c) [ inl i ↦ b.keeps e (a.all e i) | inr i ↦ b.all e i ];
    }

-- ---- what is taken

-- what is left was there
pub fewer : (pending less : BTreeSet SortKey) (k : SortKey) → Updates key_cmp pending less k false → (e : Entry)
    → has less e ≡ true → has pending e ≡ true
fewer pending less k u e h = by_test (is_at (key_cmp k) (key_of e)) (sym (u.0 (key_of e)) ∙ h)
  where
    by_test : (b : Bool) → cond b false (has pending e) ≡ true → has pending e ≡ true
    by_test true i = absurd (false≢true i)
    by_test false i = i

-- what was there is the one that was taken, or is left
pub split : (pending less : BTreeSet SortKey) (k : SortKey) → Updates key_cmp pending less k false → (e : Entry)
    → has pending e ≡ true → (e ≡ entry_of k) ⊎ (has less e ≡ true)
split pending less k u e h = by_test (is_at (key_cmp k) (key_of e)) refl (u.0 (key_of e))
  where
    by_test : (b : Bool) → is_at (key_cmp k) (key_of e) ≡ b → has less e ≡ cond b false (has pending e)
        → (e ≡ entry_of k) ⊎ (has less e ≡ true)
    by_test true is i = inl (is_same k e is)
    by_test false is i = inr (i ∙ h)
