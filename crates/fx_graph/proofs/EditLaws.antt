-- An edit of a parameter leaves nodes such as a graph keeps.
use Rattle.std.proofs.Common.{◌≡◌, ℕ, zero, suc, Bool, List, [], ◌∷◌, ◌++◌, length, map, take, set, Option, Some, None, slice_get, refl, sym, ap, ◌∙◌, subst, inl, inr}
use Rattle.std.specs.List.{AllZip}
use Rattle.std.proofs.lemmas.Bool.{cases_eq}
use Rattle.std.proofs.lemmas.List.Elements.{All-set}
use Rattle.std.proofs.lemmas.Option.{none-some, same_Some}
use Rattle.fx_params.specs.Parameter.{IsSound, Parameter}
use Rattle.fx_params.specs.declared.def.ParamDef.{ParamDef}
use Rattle.fx_prefs.specs.Prefs.{Input, negotiated}
use Rattle.fx_pixel.specs.declared.Depth.TheVariants as depths
use Rattle.fx_effect.specs.Meaning.{Meaning}
use Rattle.fx_graph.specs.Edits.{HasParam, IsEditOf, edited, with_edit, with_param}
use Rattle.fx_graph.specs.Shown.{Does, Shown}
use Rattle.fx_graph.specs.Shown as does
use Rattle.fx_graph.specs.Nodes.{Form, form_at, has_alpha, has_depth, inputs_of, node_at}
use Rattle.fx_graph.specs.Kept.{AreNodes, IsDoing, IsNode, IsOf, IsUse}

set_defs : (defs : List ParamDef) (params : List Parameter) (i : ℕ) (p q : Parameter) → AllZip IsOf defs params
    → slice_get params i ≡ Some q → q.def ≡ p.def → AllZip IsOf defs (set params i p)
set_defs [] [] i p q of there same = absurd (none-some q there)
set_defs [] (x ∷ params) i p q of there same = absurd of
set_defs (d ∷ defs) [] i p q of there same = absurd of
set_defs (d ∷ defs) (x ∷ params) zero p q of there same =
    (sym same ∙ sym (ap (λ (r : Parameter). r.def) (same_Some x q there)) ∙ of.0, of.1)
set_defs (d ∷ defs) (x ∷ params) (suc i) p q of there same = (of.0, set_defs defs params i p q of.1 there same)

module _ {E : Type 0} (i : ℕ) (p : Parameter) where
  -- ---- the node that is edited, and the others

  same_edit : (k : ℕ) (ns : List (Shown E)) (n : Shown E) → slice_get ns k ≡ Some n
      → slice_get (with_edit k i p ns) k ≡ Some (edited i p n)
  same_edit k [] n h = absurd (none-some n h)
  same_edit zero (m ∷ ns) n h = ap (λ (x : Shown E). Some (edited i p x)) (same_Some m n h)
  same_edit (suc k) (m ∷ ns) n h = same_edit k ns n h

  other_edit : (k : ℕ) (ns : List (Shown E)) (m : ℕ) → (k ≡ m → ⊥) → slice_get (with_edit k i p ns) m ≡ slice_get ns m
  other_edit k [] m h = refl
  other_edit zero (n ∷ ns) zero h = absurd (h refl)
  other_edit zero (n ∷ ns) (suc m) h = refl
  other_edit (suc k) (n ∷ ns) zero h = refl
  other_edit (suc k) (n ∷ ns) (suc m) h = other_edit k ns m (λ is. h (ap suc is))

  was_there : (k : ℕ) (ns : List (Shown E)) (n : Shown E) → slice_get (with_edit k i p ns) k ≡ Some n
      → (m : Shown E) × (slice_get ns k ≡ Some m) × (n ≡ edited i p m)
  was_there k [] n h = absurd (none-some n h)
  was_there zero (m ∷ ns) n h = (m, refl, sym (same_Some (edited i p m) n h))
  was_there (suc k) (m ∷ ns) n h = was_there k ns n h

  no_edit : (k : ℕ) (ns : List (Shown E)) → slice_get ns k ≡ None → slice_get (with_edit k i p ns) k ≡ None
  no_edit k [] h = refl
  no_edit zero (m ∷ ns) h = absurd (none-some m (sym h))
  no_edit (suc k) (m ∷ ns) h = no_edit k ns h

  take_edit : (j k : ℕ) (ns : List (Shown E)) → take k (with_edit j i p ns) ≡ with_edit j i p (take k ns)
  take_edit j zero ns = refl
  take_edit j (suc k) [] = refl
  take_edit zero (suc k) (n ∷ ns) = refl
  take_edit (suc j) (suc k) (n ∷ ns) = ap (λ (xs : List (Shown E)). n ∷ xs) (take_edit j k ns)

  edit_length : (k : ℕ) (ns : List (Shown E)) → length (with_edit k i p ns) ≡ length ns
  edit_length k [] = refl
  edit_length zero (n ∷ ns) = refl
  edit_length (suc k) (n ∷ ns) = ap suc (edit_length k ns)

  -- the list with the edited node in its place
  pub set_edit : (k : ℕ) (ns : List (Shown E)) (n : Shown E) → slice_get ns k ≡ Some n
      → set ns k (edited i p n) ≡ with_edit k i p ns
  set_edit k [] n h = refl
  set_edit zero (m ∷ ns) n h = ap (λ (x : Shown E). edited i p x ∷ ns) (sym (same_Some m n h))
  set_edit (suc k) (m ∷ ns) n h = ap (λ (xs : List (Shown E)). m ∷ xs) (set_edit k ns n h)

  -- ---- forms stay

  form_edited : (mask : Bool) (o q : Option (Shown E)) → ((n : Shown E) → o ≡ Some n → q ≡ Some (edited i p n))
      → (o ≡ None → q ≡ None) → form_at q mask ≡ form_at o mask
  form_edited mask None q some none = ap (λ (x : Option (Shown E)). form_at x mask) (none refl)
  form_edited mask (Some n) q some none = ap (λ (x : Option (Shown E)). form_at x mask) (some n refl)

  form_same : (j : ℕ) (ns : List (Shown E)) (clip : Option ℕ) (mask : Bool)
      → form_at (node_at (with_edit j i p ns) clip) mask ≡ form_at (node_at ns clip) mask
  form_same j ns None mask = refl
  form_same j ns (Some k) mask = elim (cases_eq j k) [
    | inl s ↦ subst (λ (m : ℕ). form_at (slice_get (with_edit j i p ns) m) mask ≡ form_at (slice_get ns m) mask) s
        (form_edited mask (slice_get ns j) (slice_get (with_edit j i p ns) j) (same_edit j ns) (no_edit j ns))
    | inr d ↦ ap (λ (x : Option (Shown E)). form_at x mask) (other_edit j ns k d)
  ]

  inputs_same : (j : ℕ) (ns : List (Shown E)) (clips : List (Option ℕ)) (masks : List Bool)
      → inputs_of (with_edit j i p ns) clips masks ≡ inputs_of ns clips masks
  inputs_same j ns [] masks = refl
  inputs_same j ns (clip ∷ clips) [] = refl
  inputs_same j ns (clip ∷ clips) (mask ∷ masks) =
      ap (λ (xs : List Input). xs ++ inputs_of (with_edit j i p ns) clips masks) (form_same j ns clip mask)
      ∙ ap (λ (xs : List Input). form_at (node_at ns clip) mask ++ xs) (inputs_same j ns clips masks)

  -- ---- the nodes

  module _ (meaning : E → Meaning) (project : Form) where
    behind : (j : ℕ) (before : List (Shown E)) (form : Form) (work : Does E)
        → IsDoing meaning project before form work → IsDoing meaning project (with_edit j i p before) form work
    behind j before form (does.Source pattern first last hold) h = h
    behind j before form (does.Effect x c clips names optional masks params) h =
        let s = (meaning x).shape in (
          subst (λ (k : ℕ). IsUse s k c clips names optional masks params) (sym (edit_length j before)) h.0,
          h.1 ∙ sym (ap (λ (is : List Input). negotiated is (has_depth s depths.Byte) (has_depth s depths.Short) (has_alpha s) project)
              (inputs_same j before clips masks)),
        )

    doing : (before : List (Shown E)) (form : Form) (work : Does E) → HasParam work i p.def → IsSound p
        → IsDoing meaning project before form work → IsDoing meaning project before form (with_param i p work)
    doing before form (does.Source pattern first last hold) has sound h = h
    doing before form (does.Effect x c clips names optional masks params) has sound h =
        let s = (meaning x).shape in
        let u = h.0 in (
          record {
            supported = u.supported;
            names_are = u.names_are;
            optional_are = u.optional_are;
            masks_are = u.masks_are;
            earlier = u.earlier;
            connected = u.connected;
            defs = set_defs (s.params c) params i p has.0 u.defs has.1 has.2;
            sound = All-set IsSound params i p sound u.sound;
          },
          h.1,
        )

    pub edit_keeps : (j : ℕ) (ns : List (Shown E)) → IsEditOf ns j i p → IsSound p → AreNodes meaning project ns
        → AreNodes meaning project (with_edit j i p ns)
    edit_keeps j ns is sound are k n there =
        subst (λ (before : List (Shown E)). IsNode meaning project before n) (sym (take_edit j k ns))
        (elim (cases_eq j k) [
          | inl s ↦
              let was = was_there j ns n (subst (λ (x : ℕ). slice_get (with_edit j i p ns) x ≡ Some n) (sym s) there) in
              let m = was.0 in
              let same : is.node ≡ m = same_Some is.node m (sym is.there ∙ was.1) in
              let old = are k m (subst (λ (x : ℕ). slice_get ns x ≡ Some m) s was.1) in
              let has = subst (λ (x : Shown E). HasParam x.does i p.def) same is.param in
              subst (λ (x : Shown E). IsNode meaning project (with_edit j i p (take k ns)) x) (sym was.2)
              (behind j (take k ns) (m.depth, m.components) (with_param i p m.does)
              (doing (take k ns) (m.depth, m.components) m.does has sound old))
          | inr d ↦
              behind j (take k ns) (n.depth, n.components) n.does
              (are k n (sym (other_edit j ns k d) ∙ there))
        ])
