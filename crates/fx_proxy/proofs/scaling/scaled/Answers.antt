use Rattle.std.proofs.Common.{◌≡◌, ◌∙◌, ℕ, length, map, ap, sym, subst}
use Rattle.std.proofs.lemmas.List.{length-map}
use Rattle.fx_base.specs.Bounds.{Bounds}
use Rattle.fx_effect.specs.Shape.{IsProject}
use Rattle.fx_graph.specs.Shown.{shown}
use Rattle.fx_graph.specs.Kept.{AreNodes, HasOutput}
use Rattle.fx_proxy.specs.Scaled.{scaled_node}
use Rattle.fx_proxy.proofs.ScaledLemmas.{nodes_stay, project_stays}
use Rattle.fx_proxy.proofs.scaling.scaled.Goals as goal

pub invariant_of-result : goal.invariant_of-result
invariant_of-result g c =
    let graph = c.args.graph in
    let q = c.args.q in
    let meaning = g.E.ImageEffect.meaning in
    let number = g.E.Catalogue.number_of in
    let some = c.requires.scale.0 in
    let new = c.scale_nodes.new.nodes.items in
    let is = c.scale_nodes.ensures in
    let same : length (map shown new) ≡ length new = length-map new shown in
    let old : length (map shown graph.nodes.items) ≡ length graph.nodes.items = length-map graph.nodes.items shown in
    let mapped = length-map (map shown graph.nodes.items) (scaled_node number q) in
    let long : length graph.nodes.items ≡ length new = sym (sym same ∙ ap length is ∙ mapped ∙ old) in
    record {
      extent = subst (λ (r : Bounds). IsProject r) (sym c.scaled_project.ensures) (project_stays q graph.project some graph.extent);
      named = graph.named;
      range = graph.range;
      rendered = subst (λ (n : ℕ). HasOutput n graph.output) long graph.rendered;
      kept = subst (λ ns. AreNodes meaning (graph.depth, graph.components) ns) (sym is)
          (nodes_stay meaning number q (graph.depth, graph.components) (map shown graph.nodes.items) some c.requires.lengths graph.kept);
    }
