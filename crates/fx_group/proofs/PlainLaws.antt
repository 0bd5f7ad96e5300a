-- A list with no use in it: its nodes are its instances.
use Rattle.std.proofs.Common.{◌≡◌, refl, ap, sym, ◌∙◌, ℕ, List, [], ◌∷◌, ◌++◌, Option, Some, Ok}
use Rattle.std.specs.Option.{option_or}
use Rattle.fx_text.specs.Nodes.{Graph, Node}
use Rattle.fx_text.specs.declared.raw.RawWork.{RawWork}
use Rattle.fx_text.specs.declared.raw.RawWork.TheVariants as work
use Rattle.fx_effect.specs.Meaning.{Meaning}
use Rattle.fx_graph.specs.Nodes.{Form, node_of, nodes_of, repeated, work_of}
use Rattle.fx_graph.specs.Shown.{Shown}
use Rattle.fx_group.specs.Names.{look}
use Rattle.fx_group.specs.Expansion.{latest_first}
use Rattle.fx_group.specs.Instances.{Effect, Given, Giving, Source, instance, instance_values, meaning_of, named, nodes_given, output_value, shown, values_of, with_value, work_given}
use Rattle.fx_group.specs.Instances.{Meaning as Groups}
use Rattle.fx_group.proofs.AcceptedLaws.{after_ok, given_ok, not_ok}
use Rattle.fx_group.proofs.InstanceLaws.{named-append}

-- each name shows the value of the instance of that name alone
abbrev IsPlain : {V : Type 0} → Given V → Type 0
IsPlain given = given.names ≡ named given.all

module _ {E V : Type 0} (find : List ℕ → Option E) (meaning : E → Meaning) (project : Form) (give : Giving V) (groups : Groups V) where
  one_plain : (given : Given V) (name : List ℕ) (v : V) → IsPlain given → given.names ++ (name, v) ∷ [] ≡ named (given.all ++ (instance [] name, v) ∷ [])
  one_plain given name v plain = ap (λ es. es ++ (name, v) ∷ []) plain ∙ sym (named-append given.all ((instance [] name, v) ∷ []))

  work_plain : (before : List (Shown E)) (path name : List ℕ) (w : RawWork) (made : Shown E) (given : Given V) → work_of find meaning project before path name w ≡ Ok made → IsPlain given
      → (with_value give given.names name w ≡ (work_given give groups [] given name w).names) × IsPlain (work_given give groups [] given name w)
  work_plain before path name (work.Source pattern first last hold depth components) made given ok plain =
      (refl, one_plain given name (give name (Source pattern first last hold depth components) []) plain)
  work_plain before path name (work.Effect effect context clips params) made given ok plain =
      (refl, one_plain given name (give name (Effect effect context params) (shown given.names clips)) plain)
  work_plain before path name (work.GroupUse group clips) made given ok plain = not_ok _ made ok

  nodes_plain : (before : List (Shown E)) (ns : List Node) (final : List (Shown E)) (given : Given V) → nodes_of find meaning project before ns ≡ Ok final → IsPlain given
      → (values_of give given.names ns ≡ (nodes_given give groups [] given ns).names) × IsPlain (nodes_given give groups [] given ns)
  nodes_plain before [] final given ok plain = (refl, plain)
  nodes_plain before (n ∷ ns) final given ok plain =
      let step = after_ok (node_of find meaning project before n) (λ made. nodes_of find meaning project (before ++ made ∷ []) ns) final ok in
      let work = given_ok (repeated before n.path n.name) (work_of find meaning project before n.path n.name n.work) step.first step.is in
      let here = work_plain before n.path n.name n.work step.first given work plain in
      let more = nodes_plain (before ++ step.first ∷ []) ns final (work_given give groups [] given n.name n.work) step.then_ here.1 in
      (ap (λ es. values_of give es ns) here.0 ∙ more.0, more.1)

-- so it is of a graph whose nodes are accepted as they stand
pub plain_values : {E V : Type 0} (find : List ℕ → Option E) (meaning : E → Meaning) (project : Form) (give : Giving V) (raw : Graph) (final : List (Shown E))
    → nodes_of find meaning project [] raw.nodes ≡ Ok final → values_of give [] raw.nodes ≡ named (instance_values give raw)
plain_values find meaning project give raw final ok =
    let all = nodes_plain find meaning project give (meaning_of give (latest_first raw.groups)) [] raw.nodes final (record { all = []; names = [] }) ok refl in
    all.0 ∙ all.1

pub plain_output : {E V : Type 0} (find : List ℕ → Option E) (meaning : E → Meaning) (project : Form) (give : Giving V) (raw : Graph) (final : List (Shown E)) (v : V)
    → nodes_of find meaning project [] raw.nodes ≡ Ok final → look (values_of give [] raw.nodes) raw.output.node ≡ Some v → output_value give raw ≡ Some v
plain_output find meaning project give raw final v ok found =
    let all = nodes_plain find meaning project give (meaning_of give (latest_first raw.groups)) [] raw.nodes final (record { all = []; names = [] }) ok refl in
    ap (λ o. option_or o (look (named (instance_values give raw)) raw.output.node))
    (ap (λ es. look es raw.output.node) (sym all.0) ∙ found)
