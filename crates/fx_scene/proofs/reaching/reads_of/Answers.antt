use Rattle.std.proofs.Common.{rules, ap, ◌∙◌, inl, inr}
use Rattle.fx_graph.specs.Shown.{shown}
use Rattle.fx_scene.specs.Rows.{row_in}
use Rattle.fx_scene.specs.Scenes.{graph_shown}
use Rattle.fx_scene.proofs.GraphLemmas.{shown_at}
use Rattle.fx_scene.proofs.RowLemmas.{own_has_row, own_is_row}
use Rattle.fx_scene.proofs.StepLemmas.{none_has}
use Rattle.fx_scene.proofs.reaching.reads_of.Goals as goal

pub open_reads-requires : goal.open_reads-requires
open_reads-requires g c =
    let graph = c.args.graph.now in
    let there = shown_at graph.nodes.items c.args.node_frame.node c.index.result.now c.requires.there (search rules) in
    record {
      place = c.requires;
      row = own_is_row g.E.ImageEffect.meaning (graph_shown graph) c.args.node_frame.node (shown c.index.result.now)
          (row_in c.as_slice.result.now) graph.kept there (ap row_in c.as_slice.ensures.value ∙ c.in_ok-row.ensures);
    }

pub returns-clause-all : goal.returns-clause-all
returns-clause-all g c m f r =
    let graph = c.args.graph.now in
    let there = shown_at graph.nodes.items c.args.node_frame.node c.index.result.now c.requires.there (search rules) in
    (c.in_ok-open_reads.ensures (graph_shown graph) (own_has_row g.E.ImageEffect.meaning (graph_shown graph) c.args.node_frame.node
    (shown c.index.result.now) (row_in c.as_slice.result.now) there (ap row_in c.as_slice.ensures.value ∙ c.in_ok-row.ensures))).all m f r

pub returns-clause-only : goal.returns-clause-only
returns-clause-only g c m f h =
    let graph = c.args.graph.now in
    let there = shown_at graph.nodes.items c.args.node_frame.node c.index.result.now c.requires.there (search rules) in
    elim ((c.in_ok-open_reads.ensures (graph_shown graph) (own_has_row g.E.ImageEffect.meaning (graph_shown graph) c.args.node_frame.node
    (shown c.index.result.now) (row_in c.as_slice.result.now) there (ap row_in c.as_slice.ensures.value ∙ c.in_ok-row.ensures))).only m f h) [
      | inl e ↦ absurd (none_has c.new-reads.result c.new-reads.ensures.empty m f e)
      | inr r ↦ r
    ]
