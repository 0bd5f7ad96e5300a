-- An accepted list has the values of its raw nodes.
use Rattle.std.proofs.Common.{◌≡◌, refl, ap, sym, ◌∙◌, ℕ, ◌+◌, arith, Bool, true, false, List, [], ◌∷◌, ◌++◌, length, map, append_assoc, append-nil, Option, Some, None, Result, Ok, Err, slice_get}
use Rattle.std.proofs.lemmas.Bool.{false≢true}
use Rattle.std.specs.Option.{option_map}
use Rattle.fx_text.specs.Fault.{Fault}
use Rattle.fx_text.specs.Json.{after}
use Rattle.fx_text.specs.Raw.{Project}
use Rattle.fx_text.specs.Nodes.{Node as RawNode}
use Rattle.fx_text.specs.declared.raw.RawContext.{RawContext}
use Rattle.fx_text.specs.declared.raw.RawWork.{RawWork}
use Rattle.fx_text.specs.declared.raw.RawWork.TheVariants as raw
use Rattle.fx_text.specs.declared.value.RawClip.{RawClip}
use Rattle.fx_text.specs.declared.value.RawParam.{RawParam}
use Rattle.fx_effect.specs.Meaning.{Meaning}
use Rattle.fx_effect.specs.Shape.{Shape}
use Rattle.fx_graph.specs.Graphs.{extent, form}
use Rattle.fx_graph.specs.Nodes.{Form, effect_of, node_of, nodes_of, place_of, repeated, told_fault, use_in, use_of, work_of, wrong_source}
use Rattle.fx_graph.specs.Refusal.{refused_or}
use Rattle.fx_graph.specs.Shown.{Shown, names_of}
use Rattle.fx_graph.specs.Shown as does
use Rattle.fx_graph.specs.Uses.{chosen, connection, unsupported}
use Rattle.fx_scene.specs.Nodes.{Nodes, Source}
use Rattle.fx_scene.specs.Scenes.{Images, node_in, source_node}
use Rattle.fx_group.specs.Instances.{Values, shown, values_of, with_value}
use Rattle.fx_group.specs.Shades.{NamedImages, Shade, effect_shade, shade_of, use_shade}
use Rattle.fx_group.specs.Shown.{AreNamed, effects_of}
use Rattle.fx_group.proofs.Placed.{at_front, at_seam}
use Rattle.fx_group.proofs.ShadeLaws.{Stand, clips_before, clips_same, effect_same, shade_at, shade_is, shades_from, shades_more}

-- ---- what isn't refused

abbrev ok_or : {A : Type 0} → Result A Fault → A → A
ok_or (Ok a) b = a
ok_or (Err e) b = b

abbrev is_ok : {A : Type 0} → Result A Fault → Bool
is_ok (Ok a) = true
is_ok (Err e) = false

pub ok_same : {A : Type 0} (a b : A) → ◌≡◌ {A = Result A Fault} (Ok a) (Ok b) → a ≡ b
ok_same a b e = ap (λ r. ok_or r a) e

pub not_ok : {A : Type 0} {P : Type 0} (f : Fault) (a : A) → Err f ≡ Ok a → P
not_ok f a e = absurd (false≢true (ap is_ok e))

pub given_ok : {A : Type 0} (row : Option Fault) (given : Result A Fault) (a : A) → refused_or row given ≡ Ok a → given ≡ Ok a
given_ok None given a e = e
given_ok (Some f) given a e = not_ok f a e

-- what comes first was made
pub record Made {A B : Type 0} (r : Result A Fault) (f : A → Result B Fault) (b : B) : Type 0 where
  pub first : A
  pub is : r ≡ Ok first
  pub then_ : f first ≡ Ok b

pub after_ok : {A B : Type 0} (r : Result A Fault) (f : A → Result B Fault) (b : B) → after r f ≡ Ok b → Made r f b
after_ok (Ok a) f b e = record { first = a; is = refl; then_ = e }
after_ok (Err fault) f b e = not_ok fault b e

-- the use of an effect that is accepted is the one that is described
use_is : {E : Type 0} (meaning : E → Meaning) (project : Form) (before : List (Shown E)) (path name : List ℕ) (e : E) (context : Option RawContext) (clips : List RawClip) (params : List RawParam) (made : Shown E)
    → effect_of meaning project before path name (Some e) context clips params ≡ Ok made
    → use_of e (meaning e).shape project before name (chosen (meaning e).shape.contexts context)
    (map (connection (place_of (names_of before)) clips) ((meaning e).shape.clips (chosen (meaning e).shape.contexts context))) params ≡ made
use_is meaning project before path name e context clips params made ok =
    let s : Shape = (meaning e).shape in
    let c = chosen s.contexts context in
    let own = use_of e s project before name c (map (connection (place_of (names_of before)) clips) (s.clips c)) params in
    ok_same own made
    (given_ok (told_fault path (place_of (names_of before)) (s.clips c) (s.params c) clips params) (Ok own) made
    (given_ok (unsupported path s.contexts c) (use_in e s project before path name c clips params) made ok))

-- a node keeps its name
pub name_kept : {E : Type 0} (find : List ℕ → Option E) (meaning : E → Meaning) (project : Form) (before : List (Shown E)) (path name : List ℕ) (w : RawWork) (made : Shown E)
    → work_of find meaning project before path name w ≡ Ok made → name ≡ made.name
name_kept {E} find meaning project before path name (raw.Source pattern first last hold depth components) made ok =
    ap (λ (n : Shown E). n.name) (ok_same _ made (given_ok (wrong_source path pattern first last) _ made ok))
name_kept {E} find meaning project before path name (raw.Effect effect context clips params) made ok = by (find effect) ok
  where
    by : (o : Option E) → effect_of meaning project before path name o context clips params ≡ Ok made → name ≡ made.name
    by None ok = not_ok _ made ok
    by (Some e) ok = ap (λ (n : Shown E). n.name) (use_is meaning project before path name e context clips params made ok)
name_kept find meaning project before path name (raw.GroupUse group clips) made ok = not_ok _ made ok

module _ {E : Type 0} (find : List ℕ → Option E) (meaning : E → Meaning) (project : Project) (named : NamedImages) (images : Images) (nodes : Nodes) (before : List (Shown E)) (stand : Stand meaning (extent project) images before nodes) where
  -- what is shown by the nodes before
  abbrev env : Values Shade
  env = shades_from nodes 0 before

  use_made : (name path : List ℕ) (context : Option RawContext) (clips : List RawClip) (params : List RawParam) (o : Option E) (made : Shown E)
      → effect_of meaning (form project) before path name o context clips params ≡ Ok made → nodes (length before) ≡ node_in meaning (extent project) (images (length before)) (Some made)
      → use_shade project (option_map meaning o) context params (shown env clips) ≡ shade_at nodes (length before)
  use_made name path context clips params None made ok there = not_ok _ made ok
  use_made name path context clips params (Some e) made ok there =
      let s : Shape = (meaning e).shape in
      let c = chosen s.contexts context in
      let places = map (connection (place_of (names_of before)) clips) (s.clips c) in
      let own : Shown E = use_of e s (form project) before name c places params in
      let is : own ≡ made = use_is meaning (form project) before path name e context clips params made ok in
      ap (λ clips. effect_shade (meaning e) project c clips params) (clips_same nodes before clips (s.clips c))
      ∙ effect_same meaning (extent project) images before nodes stand (meaning e) project c places params refl (clips_before nodes before clips (s.clips c))
      ∙ sym (shade_is nodes (length before) _ (there ∙ ap (λ n. node_in meaning (extent project) (images (length before)) (Some n)) (sym is)))

  -- what a node does shows the value of the node that it is accepted as
  work_made : (name path : List ℕ) (w : RawWork) (made : Shown E)
      → work_of find meaning (form project) before path name w ≡ Ok made → nodes (length before) ≡ node_in meaning (extent project) (images (length before)) (Some made)
      → images (length before) ≡ named name
      → with_value (shade_of (effects_of find meaning) project named) env name w ≡ env ++ (name, shade_at nodes (length before)) ∷ []
  work_made name path (raw.Source pattern first last hold depth components) made ok there is_named =
      let own : Shown E = record { name = name; depth = depth; components = components; does = does.Source pattern first last hold } in
      let is : own ≡ made = ok_same own made (given_ok (wrong_source path pattern first last) (Ok own) made ok) in
      let node : nodes (length before) ≡ Source (source_node (named name) depth components first last hold) =
      there ∙ ap (λ n. node_in meaning (extent project) (images (length before)) (Some n)) (sym is)
      ∙ ap (λ frames. Source (source_node frames depth components first last hold)) is_named in
      ap (λ s. env ++ (name, s) ∷ []) (sym (shade_is nodes (length before) (Source (source_node (named name) depth components first last hold)) node))
  work_made name path (raw.Effect effect context clips params) made ok there is_named =
      ap (λ s. env ++ (name, s) ∷ []) (use_made name path context clips params (find effect) made ok there)
  work_made name path (raw.GroupUse group clips) made ok there is_named = not_ok _ made ok

  -- so does a node of the list, under its name
  node_made : (n : RawNode) (made : Shown E) → node_of find meaning (form project) before n ≡ Ok made
      → nodes (length before) ≡ node_in meaning (extent project) (images (length before)) (Some made) → images (length before) ≡ named made.name
      → with_value (shade_of (effects_of find meaning) project named) env n.name n.work ≡ env ++ (made.name, shade_at nodes (length before)) ∷ []
  node_made n made ok there is_named =
      let work = given_ok (repeated before n.path n.name) (work_of find meaning (form project) before n.path n.name n.work) made ok in
      let name = name_kept find meaning (form project) before n.path n.name n.work made work in
      work_made n.name n.path n.work made work there (is_named ∙ ap named (sym name))
      ∙ ap (λ t. env ++ (t, shade_at nodes (length before)) ∷ []) name

-- ---- the list

-- what is made stands behind what was made
front : {E : Type 0} (find : List ℕ → Option E) (meaning : E → Meaning) (project : Project) (before final : List (Shown E)) (ns : List RawNode)
    → nodes_of find meaning (form project) before ns ≡ Ok final → (rest : List (Shown E)) × (final ≡ before ++ rest)
front find meaning project before final [] ok = ([], sym (ok_same before final ok) ∙ sym (append-nil before))
front find meaning project before final (n ∷ ns) ok =
    let made = after_ok (node_of find meaning (form project) before n) (λ made. nodes_of find meaning (form project) (before ++ made ∷ []) ns) final ok in
    let more = front find meaning project (before ++ made.first ∷ []) final ns made.then_ in
    (made.first ∷ more.0, more.1 ∙ append_assoc before (made.first ∷ []) more.0)

module _ {E : Type 0} (find : List ℕ → Option E) (meaning : E → Meaning) (project : Project) (named : NamedImages) (images : Images) (nodes : Nodes) (final : List (Shown E))
    (stand : Stand meaning (extent project) images final nodes) (names : AreNamed final named images) where
  pub values_are : (before : List (Shown E)) (ns : List RawNode) → nodes_of find meaning (form project) before ns ≡ Ok final
      → values_of (shade_of (effects_of find meaning) project named) (shades_from nodes 0 before) ns ≡ shades_from nodes 0 final
  values_are before [] ok = ap (shades_from nodes 0) (ok_same before final ok)
  values_are before (n ∷ ns) ok =
      let step = after_ok (node_of find meaning (form project) before n) (λ made. nodes_of find meaning (form project) (before ++ made ∷ []) ns) final ok in
      let made : Shown E = step.first in
      let more = front find meaning project (before ++ made ∷ []) final ns step.then_ in
      let whole : final ≡ before ++ made ∷ more.0 = more.1 ∙ append_assoc before (made ∷ []) more.0 in
      let at : slice_get final (length before) ≡ Some made = ap (λ xs. slice_get xs (length before)) whole ∙ at_seam before made more.0 in
      let earlier : Stand meaning (extent project) images before nodes =
      λ j m e. stand j m (ap (λ xs. slice_get xs j) whole ∙ at_front before (made ∷ more.0) j m e) in
      let same : 0 + length before ≡ length before = omega arith in
      ap (λ env. values_of (shade_of (effects_of find meaning) project named) env ns)
      (node_made find meaning project named images nodes before earlier n made step.is (stand (length before) made at) (names (length before) made at)
      ∙ sym (shades_more nodes 0 before made ∙ ap (λ j. shades_from nodes 0 before ++ (made.name, shade_at nodes j) ∷ []) same))
      ∙ values_are (before ++ made ∷ []) ns step.then_
