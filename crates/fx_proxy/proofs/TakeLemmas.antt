-- Scaled takes may be done on the scaled graph.
use Rattle.std.proofs.Common.{◌≡◌, ℕ, zero, suc, ◌+◌, List, [], ◌∷◌, map, Option, Some, slice_get, get_or, sym, ap, subst, ◌∙◌, arith}
use Rattle.std.specs.List.{AllByRecursion}
use Rattle.std.specs.Prelude.{option_map}
use Rattle.std.proofs.lemmas.List.{length-map}
use Rattle.std.proofs.lemmas.Option.{none-some, same_Some, slice_get-get_or, slice_get-map, slice_get_within}
use Rattle.fx_graph.specs.Edits.{HasParam, IsEditOf}
use Rattle.fx_graph.specs.declared.node.Node.{Node as AnyNode}
use Rattle.fx_graph.specs.declared.node.Work.{Work}
use Rattle.fx_graph.specs.Shown.{Does, Effect, Shown, Source, does_of, shown}
use Rattle.fx_params.specs.declared.def.ParamDef.{ParamDef}
use Rattle.fx_params.specs.Parameter.{Parameter}
use Rattle.fx_scene.specs.Takes.{AreEdits, IsEdit, edits_of}
use Rattle.fx_scene.specs.declared.take.Edit.{Edit}
use Rattle.fx_scene.specs.declared.take.Take.{Take}
use Rattle.fx_takes.specs.Shown.{EditShown, TakeShown, edit_shown, take_shown}
use Rattle.fx_proxy.specs.Lengths.{HasLength, scaled_param}
use Rattle.fx_proxy.specs.Scaled.{AreLengths, DoesLengths, IsShownEdit, IsShownTake, scaled_does, scaled_edit, scaled_node, scaled_params, scaled_take, scaled_value, value_for}
use Rattle.fx_proxy.proofs.LengthLemmas.{def_stays}
use Rattle.fx_proxy.proofs.ScaledLemmas.{length_there}

module _ {E : Type 0} (nodes : List (Shown E)) where
  edits_shown : (es : List Edit) → AllByRecursion (IsEdit nodes) es → AllByRecursion (IsShownEdit nodes) (map edit_shown es)
  edits_shown [] are = tt
  edits_shown (e ∷ es) are = (are.0, edits_shown es are.1)

  pub takes_shown : (takes : List Take) → AreEdits nodes (edits_of takes) → AllByRecursion (IsShownTake nodes) (map take_shown takes)
  takes_shown [] are = tt
  takes_shown (t ∷ ts) are = (edits_shown t.edits.items (are 0), takes_shown ts (λ k. are (suc k)))

  edits_hidden : (es : List Edit) → AllByRecursion (IsShownEdit nodes) (map edit_shown es) → AllByRecursion (IsEdit nodes) es
  edits_hidden [] are = tt
  edits_hidden (e ∷ es) are = (are.0, edits_hidden es are.1)

  pub takes_hidden : (takes : List Take) → AllByRecursion (IsShownTake nodes) (map take_shown takes) → AreEdits nodes (edits_of takes)
  takes_hidden [] are k = tt
  takes_hidden (t ∷ ts) are zero = edits_hidden t.edits.items are.0
  takes_hidden (t ∷ ts) are (suc k) = takes_hidden ts are.1 k

module _ {E : Type 0} (number : E → ℕ) (q : ℕ) where
  param_there : (effect place i : ℕ) (params : List Parameter) (p : Parameter) → slice_get params i ≡ Some p
      → slice_get (scaled_params effect place q params) i ≡ Some (scaled_param effect (place + i) q p)
  param_there effect place i [] p there = absurd (none-some p there)
  param_there effect place zero (x ∷ ps) p there =
      let here : place ≡ place + zero = omega arith in
      ap (λ (y : Parameter). Some (scaled_param effect place q y)) (same_Some x p there)
      ∙ ap (λ (n : ℕ). Some (scaled_param effect n q p)) here
  param_there effect place (suc i) (x ∷ ps) p there =
      let next : place + 1 + i ≡ place + suc i = omega arith in
      param_there effect (place + 1) i ps p there ∙ ap (λ (n : ℕ). Some (scaled_param effect n q p)) next

  has_still : (does : Does E) (i : ℕ) (value : Parameter) → HasParam does i value.def
      → HasParam (scaled_does number q does) i (scaled_value number q i value does).def
  has_still (Source pattern first last hold) i value h = h
  has_still (Effect e c clips names optional masks params) i value h = (
    scaled_param (number e) (0 + i) q h.0,
    param_there (number e) 0 i params h.0 h.1,
    def_stays (number e) (0 + i) q h.0 ∙ h.2 ∙ sym (def_stays (number e) i q value),
  )

  edit_still : (nodes : List (Shown E)) (e : EditShown) → IsShownEdit nodes e
      → IsShownEdit (map (scaled_node number q) nodes) (scaled_edit number q nodes e)
  edit_still nodes e h =
      record {
        node = scaled_node number q h.node;
        there = slice_get-map (scaled_node number q) nodes e.node ∙ ap (option_map (scaled_node number q)) h.there;
        param = subst (λ (o : Option (Shown E)). HasParam (scaled_does number q h.node.does) e.param (value_for number q e.param e.value o).def)
            (sym h.there) (has_still h.node.does e.param e.value h.param);
      }

  edits_still : (nodes : List (Shown E)) (es : List EditShown) → AllByRecursion (IsShownEdit nodes) es
      → AllByRecursion (IsShownEdit (map (scaled_node number q) nodes)) (map (scaled_edit number q nodes) es)
  edits_still nodes [] h = tt
  edits_still nodes (e ∷ es) h = (edit_still nodes e h.0, edits_still nodes es h.1)

  pub takes_still : (nodes : List (Shown E)) (ts : List TakeShown) → AllByRecursion (IsShownTake nodes) ts
      → AllByRecursion (IsShownTake (map (scaled_node number q) nodes)) (map (scaled_take number q nodes) ts)
  takes_still nodes [] h = tt
  takes_still nodes (t ∷ ts) h = (edits_still nodes t.edits h.0, takes_still nodes ts h.1)

-- ---- one edit

module _ {E : Type 0} (number : E → ℕ) where
  -- where a length is edited, the value has its definition
  abbrev pub LengthFor : Does E → ℕ → Parameter → Type 0
  LengthFor (Source pattern first last hold) place value = Unit {0}
  LengthFor (Effect e context clips names optional masks params) place value = HasLength (number e) place value

  does_has : (does : Does E) (place : ℕ) (value : Parameter) → DoesLengths number does → HasParam does place value.def
      → LengthFor does place value
  does_has (Source pattern first last hold) place value has of = tt
  does_has (Effect e context clips names optional masks params) place value has of =
      let zero_i : 0 + place ≡ place = omega arith in
      let there : HasLength (number e) place of.0 =
      subst (λ (n : ℕ). HasLength (number e) n of.0) zero_i (length_there (number e) 0 place params of.0 has of.1) in
      λ is. there is ∙ ap (λ (d : ParamDef). Some d) of.2

  node_there : (items : List (AnyNode E)) (k : ℕ) (old : AnyNode E) (node : Shown E) → slice_get (map shown items) k ≡ Some node
      → old ≡ get_or items k old → slice_get (map shown items) k ≡ Some (shown old)
  node_there items k old node there is =
      let low = slice_get_within (map shown items) k node there in
      let long = length-map items shown in
      slice_get-map shown items k ∙ ap (option_map shown) (slice_get-get_or items k old (omega (arith, low, long)) ∙ ap Some (sym is))

  -- what an edit of the node gives the parameter
  pub value_is : (q place : ℕ) (value : Parameter) (items : List (AnyNode E)) (k : ℕ) (old : AnyNode E) (work : Work E)
      → IsEditOf (map shown items) k place value → old ≡ get_or items k old → old.work ≡ work
      → value_for number q place value (slice_get (map shown items) k) ≡ scaled_value number q place value (does_of work)
  value_is q place value items k old work of is does =
      ap (value_for number q place value) (node_there items k old of.node of.there is)
      ∙ ap (λ (w : Work E). scaled_value number q place value (does_of w)) does

  pub edit_has : (place : ℕ) (value : Parameter) (items : List (AnyNode E)) (k : ℕ) (old : AnyNode E) (work : Work E)
      → AreLengths number (map shown items) → IsEditOf (map shown items) k place value → old ≡ get_or items k old → old.work ≡ work
      → LengthFor (does_of work) place value
  edit_has place value items k old work has of is does =
      let there = node_there items k old of.node of.there is in
      let same : of.node ≡ shown old = same_Some of.node (shown old) (sym of.there ∙ there) in
      let param = subst (λ (n : Shown E). HasParam n.does place value.def) same of.param in
      subst (λ (w : Work E). LengthFor (does_of w) place value) does
      (does_has (does_of old.work) place value (has k (shown old) there) param)
