use Rattle.std.proofs.Common.{rules, ◌∙◌, ap, sym, refl, ℕ, List, Option, map}
use Rattle.fx_params.specs.Parameter.{Parameter}
use Rattle.fx_graph.specs.Shown.{does_of, shown}
use Rattle.fx_graph.specs.Shown as does
use Rattle.fx_scene.proofs.GraphLemmas.{shown_at, source_at}
use Rattle.fx_scene.proofs.site.node_at.Goals as goal

pub returns-in-Source : goal.returns-in-Source
returns-in-Source g c =
    let graph = c.args.graph.now in
    let e = c.in-Source in
    let there = shown_at graph.nodes.items c.args.place c.index-node.result.now c.requires (search rules) in
    record {
      node = shown c.index-node.result.now;
      there = there;
      depth = refl;
      components = refl;
      pattern = e.pattern;
      does = ap does_of e.is;
      order = (source_at g.E.ImageEffect.meaning (graph.depth, graph.components) (map shown graph.nodes.items) c.args.place (shown c.index-node.result.now) e.pattern e.first e.last e.hold
          graph.kept there (ap does_of e.is)).frames.order;
    }

pub returns-in-Effect : goal.returns-in-Effect
returns-in-Effect g c =
    let graph = c.args.graph.now in
    let e = c.in-Effect in (
      refl,
      record {
        node = shown c.index-node.result.now;
        there = shown_at graph.nodes.items c.args.place c.index-node.result.now c.requires (search rules);
        depth = refl;
        components = refl;
        does = ap does_of e.is
            ∙ ap (λ (cs : List (Option ℕ)). does.Effect e.effect e.context cs e.names e.optional e.masks e.params.items) (sym c.as_slice.ensures.value)
            ∙ ap (λ (ps : List Parameter). does.Effect e.effect e.context c.as_slice.result.now e.names e.optional e.masks ps) (sym c.as_slice-in-Effect.ensures.value);
      },
    )
