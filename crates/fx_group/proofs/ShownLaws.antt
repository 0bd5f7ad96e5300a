-- An expanded graph that is accepted shows what the instances show.
use Rattle.std.proofs.Common.{◌≡◌, refl, ap, sym, ◌∙◌, subst, ℕ, suc, ◌+◌, arith, nat_eq, Bool, true, false, List, [], ◌∷◌, length, codes, Option, Some, None, Result, Ok, slice_get, if◌then◌else◌}
use Rattle.std.proofs.lemmas.List.{length-map}
use Rattle.std.proofs.lemmas.Option.{none-some, slice_get-map}
use Rattle.std.specs.Option.{option_map, unwrap_or}
use Rattle.fx_base.specs.Bounds.{Bounds}
use Rattle.fx_text.specs.Fault.{Fault}
use Rattle.fx_text.specs.Json.{after}
use Rattle.fx_text.specs.Nodes.{Graph, Group, Node as RawNode}
use Rattle.fx_text.specs.declared.fault.GraphCode.TheVariants.{UnknownOutput}
use Rattle.fx_effect.specs.Meaning.{Meaning}
use Rattle.fx_graph.specs.Graphs.{extent, form, graph_of, wrong_file}
use Rattle.fx_graph.specs.Nodes.{nodes_of, place_of}
use Rattle.fx_graph.specs.Refusal.{found_or, refused_or}
use Rattle.fx_graph.specs.Shown.{GraphShown, Shown, names_of}
use Rattle.fx_scene.specs.Nodes.{Nodes}
use Rattle.fx_scene.specs.Scenes.{Images, graph_nodes, node_in}
use Rattle.fx_scene.specs.Scenes as scene
use Rattle.fx_group.specs.Names.{look}
use Rattle.fx_group.specs.Expansion.{expanded, flat_of, meant}
use Rattle.fx_group.specs.Faults.{expand_fault}
use Rattle.fx_group.specs.Graph.{expand_of, expanded_graph}
use Rattle.fx_group.specs.Instances.{Giving, Instance, instance_values, name_of, named, output_value, values_of}
use Rattle.fx_group.specs.Shades.{NamedImages, Shade, shade_of}
use Rattle.fx_group.specs.Shown.{AreNamed, AreShown, IsShown, ShowsInstances, effects_of}
use Rattle.fx_group.proofs.AcceptedLaws.{after_ok, given_ok, not_ok, ok_same, values_are}
use Rattle.fx_group.proofs.InstanceLaws.{expanded_are, output_is}
use Rattle.fx_group.proofs.PlainLaws.{plain_output, plain_values}
use Rattle.fx_group.proofs.ShadeLaws.{Stand, form_stands, place_shown, shade_at, shade_of_place, shades_from}

-- ---- the graph

-- a graph by what is accepted of its nodes and its output
abbrev pub accepted : {E : Type 0} → Graph → List (Shown E) → ℕ → GraphShown E
accepted raw nodes output = record {
  project = extent raw.project;
  depth = raw.project.depth;
  components = raw.project.components;
  output = output;
  file = raw.output.file;
  format = raw.output.format;
  first = raw.first;
  last = raw.last;
  nodes = nodes;
}

pub record Taken {E : Type 0} (find : List ℕ → Option E) (meaning : E → Meaning) (raw : Graph) (g : GraphShown E) : Type 0 where
  pub nodes : List (Shown E)
  pub nodes_are : nodes_of find meaning (form raw.project) [] raw.nodes ≡ Ok nodes
  pub output : ℕ
  pub output_at : place_of (names_of nodes) raw.output.node ≡ Some output
  pub graph : accepted raw nodes output ≡ g

found_ok : {A : Type 0} (o : Option A) (a : A) → found_or UnknownOutput (codes "output.node") o ≡ Ok a → o ≡ Some a
found_ok None a e = not_ok _ a e
found_ok (Some b) a e = ap (λ c. Some c) (ok_same b a e)

pub taken : {E : Type 0} (find : List ℕ → Option E) (meaning : E → Meaning) (raw : Graph) (g : GraphShown E) → graph_of find meaning raw ≡ Ok g → Taken find meaning raw g
taken {E} find meaning raw g ok =
    let to_graph : List (Shown E) → ℕ → Result (GraphShown E) Fault = λ nodes output. refused_or (wrong_file raw.output.file) (Ok (accepted raw nodes output)) in
    let to_output : List (Shown E) → Result (GraphShown E) Fault = λ nodes.
    after (found_or UnknownOutput (codes "output.node") (place_of (names_of nodes) raw.output.node)) (to_graph nodes) in
    let nodes = after_ok (nodes_of find meaning (form raw.project) [] raw.nodes) to_output g ok in
    let output = after_ok (found_or UnknownOutput (codes "output.node") (place_of (names_of nodes.first) raw.output.node)) (to_graph nodes.first) g nodes.then_ in
    record {
      nodes = nodes.first;
      nodes_are = nodes.is;
      output = output.first;
      output_at = found_ok (place_of (names_of nodes.first) raw.output.node) output.first output.is;
      graph = ok_same (accepted raw nodes.first output.first) g (given_ok (wrong_file raw.output.file) (Ok (accepted raw nodes.first output.first)) g output.then_);
    }

-- ---- what it shows

stands : {E : Type 0} (meaning : E → Meaning) (project : Bounds) (images : Images) (nodes : List (Shown E)) → Stand meaning project images nodes (scene.nodes_of meaning project nodes images)
unfolding scene.nodes_of
stands meaning project images nodes j n there = ap (node_in meaning project (images j)) there

shades_long : {E : Type 0} (nodes : Nodes) (k : ℕ) (ns : List (Shown E)) → length (shades_from nodes k ns) ≡ length ns
shades_long nodes k [] = refl
shades_long nodes k (n ∷ ns) = ap suc (shades_long nodes (suc k) ns)

pub some_is : {A : Type 0} (a b : A) → Some a ≡ Some b → a ≡ b
some_is a b e = ap (λ o. unwrap_or o a) e

module _ {E : Type 0} (find : List ℕ → Option E) (meaning : E → Meaning) (raw : Graph) (groups : List Group) (ns : List RawNode) (out : List ℕ) (given : NamedImages) (images : Images) where
  -- the same graph with these nodes and this output
  abbrev flat : Graph
  flat = record raw { groups = groups; nodes = ns; output = record raw.output { node = out } }

  abbrev give : Giving Shade
  give = shade_of (effects_of find meaning) raw.project given

  -- its nodes and its output have the values of the instances of the graph
  pub record Same : Type 0 where
    pub values : values_of give [] ns ≡ named (instance_values give raw)
    pub output : (s : Shade) → look (values_of give [] ns) out ≡ Some s → output_value give raw ≡ Some s

  module _ (nodes : List (Shown E)) (output : ℕ) (made : nodes_of find meaning (form raw.project) [] ns ≡ Ok nodes) (at : place_of (names_of nodes) out ≡ Some output) (names : AreNamed nodes given images) (same : Same) where
    abbrev g : GraphShown E
    g = accepted flat nodes output

    abbrev placed : Nodes
    placed = graph_nodes meaning g images

    shades_are : values_of give [] ns ≡ shades_from placed 0 nodes
    shades_are = values_are find meaning raw.project given images placed nodes (stands meaning (extent raw.project) images nodes) names [] ns made

    instances_are : named (instance_values give raw) ≡ shades_from placed 0 nodes
    instances_are = sym same.values ∙ shades_are

    one_shown : (k : ℕ) (i : Instance) (s : Shade) (o : Option (Shown E)) → slice_get nodes k ≡ o → option_map {U = List ℕ × Shade} (λ n. (n.name, shade_at placed (0 + k))) o ≡ Some (name_of i, s) → IsShown meaning g images k i s
    one_shown k i s None there e = absurd (none-some {A = List ℕ × Shade} (name_of i, s) e)
    one_shown k i s (Some n) there e =
        let both : (n.name, shade_at placed (0 + k)) ≡ (name_of i, s) = some_is (n.name, shade_at placed (0 + k)) (name_of i, s) e in
        let here : 0 + k ≡ k = omega arith in
        let is : shade_at placed k ≡ s = ap (shade_at placed) (sym here) ∙ ap (λ p. p.1) both in
        let own = form_stands meaning (extent raw.project) images nodes placed k n (stands meaning (extent raw.project) images nodes) there in
        record {
          node = n;
          there = there;
          name = ap (λ p. p.0) both;
          depth = sym own.0 ∙ ap (λ p. p.depth) is;
          components = sym own.1 ∙ ap (λ p. p.components) is;
          value = λ t x y. ap (λ p. p.pixel t x y) is;
        }

    are_shown : AreShown meaning g images raw give
    are_shown =
        record {
          count = sym (shades_long placed 0 nodes) ∙ ap length (sym instances_are) ∙ length-map (instance_values give raw) _;
          each = λ k i s e. one_shown k i s (slice_get nodes k) refl
              (sym (shade_of_place placed 0 nodes k) ∙ ap (λ es. slice_get es k) (sym instances_are)
              ∙ slice_get-map (λ (p : Instance × Shade). (name_of p.0, p.1)) (instance_values give raw) k
              ∙ ap (option_map (λ (p : Instance × Shade). (name_of p.0, p.1))) e);
          output = record {
            shade = shade_at placed output;
            is = same.output (shade_at placed output) (ap (λ es. look es out) shades_are ∙ place_shown placed nodes out ∙ ap (option_map (shade_at placed)) at);
            pictures = λ t. refl;
          };
        }

  pub flat_shown : (g : GraphShown E) → graph_of find meaning flat ≡ Ok g → AreNamed g.nodes given images → Same → AreShown meaning g images raw give
  flat_shown g ok names same =
      let t = taken find meaning flat g ok in
      let their : AreNamed t.nodes given images = subst (λ (h : GraphShown E). AreNamed h.nodes given images) (sym t.graph) names in
      subst (λ (h : GraphShown E). AreShown meaning h images raw give) t.graph (are_shown t.nodes t.output t.nodes_are t.output_at their same)

-- ---- a graph that is expanded

expands : (raw e : Graph) → expand_of raw ≡ Ok e → (expand_fault raw ≡ None) × (expanded_graph raw ≡ e)
expands raw e ok = by (expand_fault raw) refl ok
  where
    by : (o : Option Fault) → expand_fault raw ≡ o → refused_or o (Ok (expanded_graph raw)) ≡ Ok e → (expand_fault raw ≡ None) × (expanded_graph raw ≡ e)
    by None is ok = (is, ok_same (expanded_graph raw) e ok)
    by (Some f) is ok = not_ok f e ok

pub expanded_shown : {E : Type 0} (find : List ℕ → Option E) (meaning : E → Meaning) (raw e : Graph) → expand_of raw ≡ Ok e → ShowsInstances find meaning raw e
expanded_shown {E} find meaning raw e ok g given images made names = by (nat_eq raw.format 1) refl
  where
    whole : (b : Bool) → nat_eq raw.format 1 ≡ b → (if b then raw else record raw { groups = []; nodes = expanded raw; output = record raw.output { node = meant (flat_of raw).others [] raw.output.node } }) ≡ e
    whole b is = ap (λ c. if c then raw else record raw { groups = []; nodes = expanded raw; output = record raw.output { node = meant (flat_of raw).others [] raw.output.node } }) (sym is) ∙ (expands raw e ok).1

    by : (b : Bool) → nat_eq raw.format 1 ≡ b → AreShown meaning g images raw (shade_of (effects_of find meaning) raw.project given)
    by true one =
        let made_one : graph_of find meaning raw ≡ Ok g = ap (graph_of find meaning) (whole true one) ∙ made in
        let nodes = taken find meaning raw g made_one in
        let give : Giving Shade = shade_of (effects_of find meaning) raw.project given in
        flat_shown find meaning raw raw.groups raw.nodes raw.output.node given images g made_one names (record {
          values = plain_values find meaning (form raw.project) give raw nodes.nodes nodes.nodes_are;
          output = λ s. plain_output find meaning (form raw.project) give raw nodes.nodes s nodes.nodes_are;
        })
    by false two =
        let made_two : graph_of find meaning (record raw { groups = []; nodes = expanded raw; output = record raw.output { node = meant (flat_of raw).others [] raw.output.node } }) ≡ Ok g =
        ap (graph_of find meaning) (whole false two) ∙ made in
        let none = (expands raw e ok).0 in
        let give : Giving Shade = shade_of (effects_of find meaning) raw.project given in
        flat_shown find meaning raw [] (expanded raw) (meant (flat_of raw).others [] raw.output.node) given images g made_two names (record {
          values = expanded_are give raw two none;
          output = λ s. output_is give raw s two none;
        })
