-- The names of accepted nodes differ: each is first found at its own place.
use Rattle.std.proofs.Common.{◌≡◌, refl, ap, sym, ◌∙◌, subst, ℕ, ℤ, zero, suc, List, [], ◌∷◌, ◌++◌, length, codes, Option, Some, None, is_some, Result, Ok, bytes_eq, cond, slice_get}
use Rattle.std.proofs.lemmas.List.{length-map, map-append}
use Rattle.std.proofs.lemmas.Option.{none-some}
use Rattle.std.specs.Option.{option_or}
use Rattle.fx_image.specs.Image.{Image}
use Rattle.fx_text.specs.Fault.{Fault}
use Rattle.fx_text.specs.Nodes.{Graph, Node as RawNode}
use Rattle.fx_text.specs.declared.fault.GraphCode.TheVariants.{NameRepeated}
use Rattle.fx_effect.specs.Meaning.{Meaning}
use Rattle.fx_graph.specs.Graphs.{form}
use Rattle.fx_graph.specs.Nodes.{Form, node_of, nodes_of, place_of, repeated, work_of}
use Rattle.fx_graph.specs.Refusal.{node_path, refused_or}
use Rattle.fx_graph.specs.Shown.{GraphShown, Shown, names_of}
use Rattle.fx_scene.specs.Scenes.{Images}
use Rattle.fx_group.specs.Shades.{NamedImages}
use Rattle.fx_group.specs.Shown.{AreNamed, CanBeNamed}
use Rattle.fx_group.proofs.AcceptedLaws.{after_ok, given_ok, name_kept, not_ok, ok_same}
use Rattle.fx_group.proofs.InstanceLaws.{unless_so}
use Rattle.fx_group.proofs.Placed.{at_front, place_last}
use Rattle.fx_group.proofs.ShownLaws.{some_is, taken}
use Rattle.fx_group.proofs.Texts.{none_is, text_same}

abbrev AreApart : {E : Type 0} → List (Shown E) → Type 0
AreApart {E} nodes = (k : ℕ) (n : Shown E) → slice_get nodes k ≡ Some n → place_of (names_of nodes) n.name ≡ Some k

-- what stands past a list is what is put there
at_end : {A : Type 0} (xs : List A) (y x : A) (k : ℕ) → slice_get xs k ≡ None → slice_get (xs ++ y ∷ []) k ≡ Some x → (k ≡ length xs) × (y ≡ x)
at_end [] y x zero none e = (refl, some_is y x e)
at_end [] y x (suc k) none e = absurd (none-some x e)
at_end (z ∷ xs) y x zero none e = absurd (none-some z (sym none))
at_end (z ∷ xs) y x (suc k) none e =
    let more = at_end xs y x k none e in
    (ap suc more.0, more.1)

apart_more : {E : Type 0} (before : List (Shown E)) (made : Shown E) → AreApart before → place_of (names_of before) made.name ≡ None → AreApart (before ++ made ∷ [])
apart_more {E} before made apart fresh k n at = more ∙ by (slice_get before k) refl
  where
    more : place_of (names_of (before ++ made ∷ [])) n.name ≡ option_or (place_of (names_of before) n.name) (cond (bytes_eq made.name n.name) (Some (length (names_of before))) None)
    more = ap (λ names. place_of names n.name) (map-append (λ (m : Shown E). m.name) before (made ∷ [])) ∙ place_last (names_of before) made.name n.name

    by : (o : Option (Shown E)) → slice_get before k ≡ o → option_or (place_of (names_of before) n.name) (cond (bytes_eq made.name n.name) (Some (length (names_of before))) None) ≡ Some k
    by (Some m) is =
        let same : m ≡ n = some_is m n (sym (at_front before (made ∷ []) k m is) ∙ at) in
        ap (λ o. option_or o (cond (bytes_eq made.name n.name) (Some (length (names_of before))) None)) (apart k n (is ∙ ap (λ m. Some m) same))
    by None is =
        let end = at_end before made n k is at in
        let name : made.name ≡ n.name = ap (λ (m : Shown E). m.name) end.1 in
        ap (λ o. option_or o (cond (bytes_eq made.name n.name) (Some (length (names_of before))) None)) (ap (place_of (names_of before)) (sym name) ∙ fresh)
        ∙ ap (λ b. cond b (Some (length (names_of before))) None) (text_same made.name n.name name)
        ∙ ap (λ j. Some j) (length-map before (λ (m : Shown E). m.name) ∙ sym end.0)

module _ {E : Type 0} (find : List ℕ → Option E) (meaning : E → Meaning) (project : Form) where
  fresh_row : {A : Type 0} (row : Option Fault) (given : Result A Fault) (a : A) → refused_or row given ≡ Ok a → row ≡ None
  fresh_row None given a ok = refl
  fresh_row (Some f) given a ok = not_ok f a ok

  nodes_apart : (before : List (Shown E)) (ns : List RawNode) (final : List (Shown E)) → nodes_of find meaning project before ns ≡ Ok final → AreApart before → AreApart final
  nodes_apart before [] final ok apart = subst AreApart (ok_same before final ok) apart
  nodes_apart before (n ∷ ns) final ok apart =
      let step = after_ok (node_of find meaning project before n) (λ made. nodes_of find meaning project (before ++ made ∷ []) ns) final ok in
      let made : Shown E = step.first in
      let given = work_of find meaning project before n.path n.name n.work in
      let name = name_kept find meaning project before n.path n.name n.work made (given_ok (repeated before n.path n.name) given made step.is) in
      let taken = unless_so (is_some (place_of (names_of before) n.name)) NameRepeated (node_path n.path (codes "name")) (fresh_row (repeated before n.path n.name) given made step.is) in
      let fresh : place_of (names_of before) made.name ≡ None = ap (place_of (names_of before)) (sym name) ∙ none_is (place_of (names_of before) n.name) taken in
      nodes_apart (before ++ made ∷ []) ns final step.then_ (apart_more before made apart fresh)

-- ---- images at places by names

abbrev images_at : Images → Option ℕ → ℤ → Option Image
images_at images None f = None
images_at images (Some k) f = images k f

pub can_be_named : {E : Type 0} (find : List ℕ → Option E) (meaning : E → Meaning) (flat : Graph) → CanBeNamed find meaning flat
can_be_named {E} find meaning flat g images ok =
    let t = taken find meaning flat g ok in
    let apart : AreApart t.nodes = nodes_apart find meaning (form flat.project) [] flat.nodes t.nodes t.nodes_are (λ k n at. absurd (none-some n at)) in
    subst (λ (h : GraphShown E). (named : NamedImages) × AreNamed h.nodes named images) t.graph
    ((λ name. images_at images (place_of (names_of t.nodes) name)), λ k n at. sym (ap (images_at images) (apart k n at)))
