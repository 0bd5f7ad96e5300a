-- Edits of parameters leave nodes such as a graph keeps.
use Rattle.std.proofs.Common.{◌≡◌, ℕ, zero, suc, List, [], ◌∷◌, set, Some, slice_get, sym, ap, ◌∙◌, subst, refl, inl, inr}
use Rattle.std.specs.List.{AllByRecursion}
use Rattle.std.proofs.lemmas.Bool.{cases_eq}
use Rattle.std.proofs.lemmas.Option.{none-some, same_Some}
use Rattle.fx_params.specs.Parameter.{Parameter}
use Rattle.fx_params.specs.declared.def.ParamDef.{ParamDef}
use Rattle.fx_effect.specs.Meaning.{Meaning}
use Rattle.fx_graph.specs.Edits.{HasParam, edited, with_edit, with_param}
use Rattle.fx_graph.specs.Shown.{Does, GraphShown, Shown}
use Rattle.fx_graph.specs.Shown as does
use Rattle.fx_graph.specs.Nodes.{Form}
use Rattle.fx_graph.specs.Kept.{AreNodes}
use Rattle.fx_graph.proofs.EditLaws.{edit_keeps}
use Rattle.fx_scene.specs.declared.take.Edit.{Edit}
use Rattle.fx_scene.specs.Takes.{AreEdits, EditsKeep, IsEdit, edited_all, edits_after, nodes_at}
use Rattle.fx_scene.proofs.TakeLemmas.{other_edit}

module _ {E : Type 0} where
  same_edit : (e : Edit) (k : ℕ) (ns : List (Shown E)) (n : Shown E) → slice_get ns k ≡ Some n
      → slice_get (with_edit k e.param e.value ns) k ≡ Some (edited e.param e.value n)
  same_edit e k [] n h = absurd (none-some n h)
  same_edit e zero (m ∷ ns) n h = ap (λ (x : Shown E). Some (edited e.param e.value x)) (same_Some m n h)
  same_edit e (suc k) (m ∷ ns) n h = same_edit e k ns n h

  -- ---- an edit leaves the others what they are

  has_still : (work : Does E) (i j : ℕ) (p : Parameter) (def : ParamDef) → HasParam work j p.def → HasParam work i def
      → HasParam (with_param j p work) i def
  has_still (does.Source pattern first last hold) i j p def of h = h
  has_still (does.Effect x c clips names optional masks params) i j p def of h = by params i j of.0 of.1 of.2 h.0 h.1 h.2
    where
      by : (ps : List Parameter) (i j : ℕ) (q : Parameter) → slice_get ps j ≡ Some q → q.def ≡ p.def → (r : Parameter)
          → slice_get ps i ≡ Some r → r.def ≡ def → (t : Parameter) × (slice_get (set ps j p) i ≡ Some t) × (t.def ≡ def)
      by [] i j q at same r there is = absurd (none-some r there)
      by (x ∷ ps) zero zero q at same r there is =
          let here = same_Some x q at in let too = same_Some x r there in
          (p, refl, sym same ∙ ap (λ (z : Parameter). z.def) (sym here ∙ too) ∙ is)
      by (x ∷ ps) zero (suc j) q at same r there is = (r, there, is)
      by (x ∷ ps) (suc i) zero q at same r there is = (r, there, is)
      by (x ∷ ps) (suc i) (suc j) q at same r there is = by ps i j q at same r there is

  pub still_edit : (d e : Edit) (ns : List (Shown E)) → IsEdit ns d → IsEdit ns e → IsEdit (with_edit d.node d.param d.value ns) e
  still_edit d e ns of h = elim (cases_eq d.node e.node) [
    | inl s ↦
        let here = subst (λ (i : ℕ). slice_get ns i ≡ Some of.node) s of.there in
        let same : of.node ≡ h.node = same_Some of.node h.node (sym here ∙ h.there) in
        record {
          node = edited d.param d.value h.node;
          there = subst (λ (i : ℕ). slice_get (with_edit d.node d.param d.value ns) i ≡ Some (edited d.param d.value h.node)) s
              (same_edit d d.node ns h.node (subst (λ (i : ℕ). slice_get ns i ≡ Some h.node) (sym s) h.there));
          param = has_still h.node.does e.param d.param d.value e.value.def
              (subst (λ (x : Shown E). HasParam x.does d.param d.value.def) same of.param) h.param;
        }
    | inr n ↦ record { node = h.node; there = other_edit d d.node ns e.node n ∙ h.there; param = h.param }
  ]

  pub still_all : (d : Edit) (es : List Edit) (ns : List (Shown E)) → IsEdit ns d → AllByRecursion (IsEdit ns) es
      → AllByRecursion (IsEdit (with_edit d.node d.param d.value ns)) es
  still_all d [] ns of h = tt
  still_all d (e ∷ es) ns of h = (still_edit d e ns of h.0, still_all d es ns of h.1)

  all_keep : (meaning : E → Meaning) (project : Form) (es : List Edit) (ns : List (Shown E))
      → AllByRecursion (IsEdit ns) es → AreNodes meaning project ns → AreNodes meaning project (edited_all es ns)
  all_keep meaning project [] ns of are = are
  all_keep meaning project (e ∷ es) ns of are =
      all_keep meaning project es (with_edit e.node e.param e.value ns) (still_all e es ns of.0 of.1) (edit_keeps e.param e.value meaning project e.node ns of.0 e.sound are)

  -- edits of the nodes are edits of the nodes after other edits
  after_all : (es fs : List Edit) (ns : List (Shown E)) → AllByRecursion (IsEdit ns) es → AllByRecursion (IsEdit ns) fs
      → AllByRecursion (IsEdit (edited_all es ns)) fs
  after_all [] fs ns of h = h
  after_all (e ∷ es) fs ns of h =
      after_all es fs (with_edit e.node e.param e.value ns) (still_all e es ns of.0 of.1) (still_all e fs ns of.0 h)

  pub edits_then : (ns : List (Shown E)) (takes : List (List Edit)) → AreEdits ns takes → (k : ℕ) (fs : List Edit)
      → AllByRecursion (IsEdit ns) fs → AllByRecursion (IsEdit (nodes_at ns takes k)) fs
  edits_then ns takes are zero fs h = h
  edits_then ns takes are (suc k) fs h =
      after_all (edits_after takes k) fs (nodes_at ns takes k)
      (edits_then ns takes are k (edits_after takes k) (are k)) (edits_then ns takes are k fs h)

  pub edits_keep : (meaning : E → Meaning) (g : GraphShown E) (takes : List (List Edit))
      → AreNodes meaning (g.depth, g.components) g.nodes → EditsKeep meaning g takes
  edits_keep meaning g takes kept are zero = kept
  edits_keep meaning g takes kept are (suc k) =
      all_keep meaning (g.depth, g.components) (edits_after takes k) (nodes_at g.nodes takes k)
      (edits_then g.nodes takes are k (edits_after takes k) (are k)) (edits_keep meaning g takes kept are k)
