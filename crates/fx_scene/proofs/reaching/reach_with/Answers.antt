use Rattle.std.proofs.Common.{rules, length, map, refl, ◌∙◌, arith, w64}
use Rattle.std.proofs.lemmas.Int.{to_z-of_z}
use Rattle.std.proofs.lemmas.Bool.{false≢true}
use Rattle.std.proofs.lemmas.List.{length-map}
use mir.Val.{SFits}
use Rattle.fx_graph.specs.Shown.{shown}
use Rattle.fx_scene.specs.Nodes.{AreNodes}
use Rattle.fx_scene.specs.Rows.{graph_with, row_in, rows_in}
use Rattle.fx_scene.specs.Scenes.{graph_nodes, graph_shown, no_images}
use Rattle.fx_scene.proofs.GraphLemmas.{nodes_are}
use Rattle.fx_scene.proofs.ReachLemmas.{adds_one, opening_end, opening_start, opening_step}
use Rattle.fx_scene.proofs.RowLemmas.{has_row, is_row, row_here, row_low, with_rows_long}
use Rattle.fx_scene.proofs.StepLemmas.{fewer, none_has, none_left, one_place, split, start_places, step_places, step_smaller}
use Rattle.fx_scene.proofs.reaching.reach_with.Goals as goal

pub loop-node_frame-init : goal.loop-node_frame-init
loop-node_frame-init g c =
    let graph = c.args.graph.now in
    let over = graph_with (graph_shown graph) (rows_in c.args.rows.now) in
    let nodes = graph_nodes g.E.ImageEffect.meaning over no_images in
    let none = none_has c.new-pending.result c.new-pending.ensures.empty in
    let none_done = none_has c.new-reached.result c.new-reached.ensures.empty in
    let fits : SFits w64 c.args.first = search rules in
    let fits_last : SFits w64 c.args.last = search rules in
    let start = simp to_z-of_z at c.in_ok-open_range.ensures in
    simp to_z-of_z (
      opening_start nodes graph.output c.args.first c.args.last c.new-pending.result c.open_range.new.pending c.new-reached.result none none_done start,
      start_places (length graph.nodes.items) graph.output c.args.first c.args.last c.new-pending.result c.open_range.new.pending graph.rendered.few graph.rendered.there
          c.requires.low c.requires.high none start,
      λ n t h. absurd (none_done n t h),
    )

pub bounds-rows-node_frame : goal.bounds-rows-node_frame
bounds-rows-node_frame g c =
    let graph = c.args.graph.now in
    let node_frame = c.in-Some.node_frame in
    row_low g.E.ImageEffect.meaning (graph_shown graph) c.args.rows.now graph.nodes.items node_frame.node refl c.requires.rows
    (c.loop-node_frame.invariant.1 node_frame.node node_frame.frame c.in-Some.ensures.member).there

pub open_reads-requires : goal.open_reads-requires
open_reads-requires g c =
    let graph = c.args.graph.now in
    let m = g.E.ImageEffect.meaning in
    let node_frame = c.in-Some.node_frame in
    let place = c.loop-node_frame.invariant.1 node_frame.node node_frame.frame c.in-Some.ensures.member in
    record {
      place = place;
      row = is_row m (graph_shown graph) (rows_in c.args.rows.now) node_frame.node (row_in c.as_slice-row.result.now) c.requires.rows
          (row_here c.args.rows.now node_frame.node c.index-rows-node_frame.result c.as_slice-row.result.now
          (row_low m (graph_shown graph) c.args.rows.now graph.nodes.items node_frame.node refl c.requires.rows place.there)
          c.index-rows-node_frame.is c.as_slice-row.ensures.value);
    }

pub loop-node_frame-smaller : goal.loop-node_frame-smaller
loop-node_frame-smaller g c =
    let graph = c.args.graph.now in
    let m = g.E.ImageEffect.meaning in
    let bound = g.met.E.ImageEffect in
    let rows = rows_in c.args.rows.now in
    let over = graph_with (graph_shown graph) rows in
    let nodes = graph_nodes m over no_images in
    let few = graph.rendered.few in
    let long = with_rows_long (map shown graph.nodes.items) rows ∙ length-map graph.nodes.items shown in
    let are : AreNodes nodes = nodes_are m (graph.depth, graph.components) over bound.laws graph.extent (omega (arith, few, long)) c.requires.rows.kept in
    let here = has_row m (graph_shown graph) rows c.in-Some.node_frame.node (row_in c.as_slice-row.result.now) c.requires.rows.long
    (row_here c.args.rows.now c.in-Some.node_frame.node c.index-rows-node_frame.result c.as_slice-row.result.now
    (row_low m (graph_shown graph) c.args.rows.now graph.nodes.items c.in-Some.node_frame.node refl c.requires.rows
    (c.loop-node_frame.invariant.1 c.in-Some.node_frame.node c.in-Some.node_frame.frame c.in-Some.ensures.member).there)
    c.index-rows-node_frame.is c.as_slice-row.ensures.value) in
    step_smaller nodes (length graph.nodes.items) c.loop-node_frame.pending c.pop_last.new.self c.open_reads.new.pending c.in-Some.node_frame are few c.loop-node_frame.invariant.1
    c.in-Some.ensures.member c.in-Some.ensures.updates c.in-Some.ensures.all_below (c.in_ok-open_reads.ensures over here)

pub loop-node_frame-preserved : goal.loop-node_frame-preserved
loop-node_frame-preserved g c =
    let graph = c.args.graph.now in
    let m = g.E.ImageEffect.meaning in
    let bound = g.met.E.ImageEffect in
    let rows = rows_in c.args.rows.now in
    let over = graph_with (graph_shown graph) rows in
    let nodes = graph_nodes m over no_images in
    let few = graph.rendered.few in
    let long = with_rows_long (map shown graph.nodes.items) rows ∙ length-map graph.nodes.items shown in
    let are : AreNodes nodes = nodes_are m (graph.depth, graph.components) over bound.laws graph.extent (omega (arith, few, long)) c.requires.rows.kept in
    let here = has_row m (graph_shown graph) rows c.in-Some.node_frame.node (row_in c.as_slice-row.result.now) c.requires.rows.long
    (row_here c.args.rows.now c.in-Some.node_frame.node c.index-rows-node_frame.result c.as_slice-row.result.now
    (row_low m (graph_shown graph) c.args.rows.now graph.nodes.items c.in-Some.node_frame.node refl c.requires.rows
    (c.loop-node_frame.invariant.1 c.in-Some.node_frame.node c.in-Some.node_frame.frame c.in-Some.ensures.member).there)
    c.index-rows-node_frame.is c.as_slice-row.ensures.value) in
    let fits : SFits w64 c.args.first = search rules in
    let fits_last : SFits w64 c.args.last = search rules in
    let inv = simp to_z-of_z at c.loop-node_frame.invariant in
    let pending = c.loop-node_frame.pending in
    let less = c.pop_last.new.self in
    let node_frame = c.in-Some.node_frame in
    let popped = c.in-Some.ensures in
    let one = adds_one c.loop-node_frame.reached c.insert.new.self node_frame c.in_ok-insert.ensures.updates in
    simp to_z-of_z (
      opening_step nodes graph.output c.args.first c.args.last pending less c.open_reads.new.pending c.loop-node_frame.reached c.insert.new.self node_frame inv.0 popped.member
          (fewer pending less node_frame popped.updates) (split pending less node_frame popped.updates) (c.in_ok-open_reads.ensures over here) one,
      step_places nodes (length graph.nodes.items) pending less c.open_reads.new.pending node_frame are few inv.1 popped.member popped.updates (c.in_ok-open_reads.ensures over here),
      one_place (length graph.nodes.items) c.loop-node_frame.reached c.insert.new.self node_frame (inv.1 node_frame.node node_frame.frame popped.member) inv.2 one,
    )

pub returns-clause-least : goal.returns-clause-least
returns-clause-least g c =
    let graph = c.args.graph.now in
    let over = graph_with (graph_shown graph) (rows_in c.args.rows.now) in
    let nodes = graph_nodes g.E.ImageEffect.meaning over no_images in
    let fits : SFits w64 c.args.first = search rules in
    let fits_last : SFits w64 c.args.last = search rules in
    let inv = simp to_z-of_z at c.loop-node_frame.invariant in
    opening_end nodes graph.output c.args.first c.args.last c.loop-node_frame.pending c.loop-node_frame.reached inv.0
    (none_left c.loop-node_frame.pending (λ some. false≢true (c.in_default.ensures.variant.1 some)))
