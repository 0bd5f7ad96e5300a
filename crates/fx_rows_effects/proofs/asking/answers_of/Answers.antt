use Rattle.std.proofs.Common.{◌∙◌, ap, pos}
use Rattle.fx_effect.specs.declared.values.Values.{Values}
use Rattle.fx_scene.specs.Scenes.{graph_shown}
use Rattle.fx_scene.proofs.SiteLemmas.{has_names, is_use}
use Rattle.fx_shipped.specs.Shipped.{meaning_of}
use Rattle.fx_rows_effects.proofs.Uses.{few_shown, lawful, regions_right}
use Rattle.fx_rows_effects.proofs.asking.answers_of.Goals as goal

pub region_of_definition-requires-clause-lawful : goal.region_of_definition-requires-clause-lawful
region_of_definition-requires-clause-lawful c =
    let graph = c.args.graph.now in
    lawful (graph_shown graph) (graph.depth, graph.components) graph.kept graph.extent
    (few_shown graph.nodes.items graph.rendered.few) c.args.node.now c.requires.there c.in_ok-values.values
    c.in_ok-values.ensures

pub region_of_definition-requires-clause-optional : goal.region_of_definition-requires-clause-optional
region_of_definition-requires-clause-optional c =
    let graph = c.args.graph.now in
    (is_use meaning_of (graph_shown graph) (graph.depth, graph.components) graph.kept c.args.node.now c.requires.there).optional_are

pub region_of_definition-requires-clause-regions : goal.region_of_definition-requires-clause-regions
region_of_definition-requires-clause-regions c =
    regions_right c.in_ok-values.values _ c.as_slice.result.now (ap (λ (v : Values). v.connected) c.in_ok-values.ensures)
    (c.as_slice.ensures.value ∙ c.in_ok-regions.ensures)

pub regions_of_interest-requires-clause-names : goal.regions_of_interest-requires-clause-names
regions_of_interest-requires-clause-names c =
    let graph = c.args.graph.now in
    has_names meaning_of (graph_shown graph) (graph.depth, graph.components) graph.kept graph.extent c.args.node.now
    c.requires.there (pos 7) c.in_ok-values.values c.in_ok-values.ensures

pub frames_needed-requires-clause-names : goal.frames_needed-requires-clause-names
frames_needed-requires-clause-names c =
    let graph = c.args.graph.now in
    has_names meaning_of (graph_shown graph) (graph.depth, graph.components) graph.kept graph.extent c.args.node.now
    c.requires.there (pos 7) c.in_ok-values.values c.in_ok-values.ensures

pub identity-requires-clause-lawful : goal.identity-requires-clause-lawful
identity-requires-clause-lawful c =
    let graph = c.args.graph.now in
    let there = lawful (graph_shown graph) (graph.depth, graph.components) graph.kept graph.extent (few_shown graph.nodes.items graph.rendered.few) c.args.node.now c.requires.there c.in_ok-values.values c.in_ok-values.ensures in
    record { context = c.args.node.now.context; there = there }
