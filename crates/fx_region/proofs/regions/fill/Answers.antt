use Rattle.std.proofs.Common.{◌∙◌, ap, sym, subst, List, length}
use Rattle.std.proofs.lemmas.Map.Iter.{rest_all, rest_more}
use Rattle.std.proofs.lemmas.Option.{none-some}
use Rattle.std.specs.Map.Iter.{deref}
use Rattle.std.specs.Option.{option_map}
use Rattle.fx_scene.specs.declared.reaching.NodeFrame.{NodeFrame}
use Rattle.fx_scene.specs.Sites.{site_nodes}
use Rattle.fx_region.specs.declared.regions.Reached.{Reached}
use Rattle.fx_region.specs.declared.regions.Regions.{Regions}
use Rattle.fx_region.proofs.TableLemmas.{IsFilling, asked_step, filling_end, filling_has, filling_reads, filling_start, filling_step, none_in, right_step}
use Rattle.fx_region.proofs.regions.fill.Goals as goal

pub loop-node_frame-init : goal.loop-node_frame-init
loop-node_frame-init g c =
    let node_frames = c.args.node_frames.now in
    let gives = c.into_iter-node_frame-iterator.ensures.into_iter_gives in
    let empty : Regions = record { reached = c.new.result } in
    record {
      right = λ n t r e. absurd (none-some r (sym (ap (option_map (λ (k : Reached). k.area)) (none_in c.new.result c.new.ensures.empty _)) ∙ e));
      asked = λ n t r e. absurd (none-some r (sym (none_in c.new.result c.new.ensures.empty _) ∙ e));
      filling = subst (λ (rest : List NodeFrame). IsFilling node_frames rest empty) (sym gives.0) (filling_start node_frames empty gives.4 c.new.ensures.empty);
    }

pub reached_at-requires-clause-place : goal.reached_at-requires-clause-place
reached_at-requires-clause-place g c =
    let node_frame = c.in-Some.node_frame.now in
    let step = rest_more deref c.loop-node_frame.node_frame-iterator c.next.new.self c.next.result c.in-Some.node_frame c.in-Some.is c.next.ensures.steps in
    let filling = subst (λ (rest : List NodeFrame). IsFilling c.args.node_frames.now rest c.loop-node_frame.regions) step c.loop-node_frame.invariant.filling in
    c.requires.order.places node_frame.node node_frame.frame (filling_has c.args.node_frames.now node_frame c.next.new.self c.loop-node_frame.regions filling)

pub reached_at-requires-clause-reads : goal.reached_at-requires-clause-reads
reached_at-requires-clause-reads g c =
    let site = c.args.site.now in
    let graph = site.graph.now in
    let node_frame = c.in-Some.node_frame.now in
    let step = rest_more deref c.loop-node_frame.node_frame-iterator c.next.new.self c.next.result c.in-Some.node_frame c.in-Some.is c.next.ensures.steps in
    let filling = subst (λ (rest : List NodeFrame). IsFilling c.args.node_frames.now rest c.loop-node_frame.regions) step c.loop-node_frame.invariant.filling in
    filling_reads (site_nodes g.E.ImageEffect.meaning site) (length graph.nodes.items) c.args.node_frames.now node_frame c.next.new.self c.loop-node_frame.regions c.requires.nodes graph.rendered.few c.requires.order filling

pub loop-node_frame-preserved : goal.loop-node_frame-preserved
loop-node_frame-preserved g c =
    let node_frame = c.in-Some.node_frame.now in
    let step = rest_more deref c.loop-node_frame.node_frame-iterator c.next.new.self c.next.result c.in-Some.node_frame c.in-Some.is c.next.ensures.steps in
    let filling = subst (λ (rest : List NodeFrame). IsFilling c.args.node_frames.now rest c.loop-node_frame.regions) step c.loop-node_frame.invariant.filling in
    record {
      right = right_step (site_nodes g.E.ImageEffect.meaning c.args.site.now) node_frame c.in_ok-reached.reached c.loop-node_frame.regions c.put.new.regions c.loop-node_frame.invariant.right c.in_ok-reached.ensures.area c.in_ok-put.ensures;
      asked = asked_step (site_nodes g.E.ImageEffect.meaning c.args.site.now) node_frame c.in_ok-reached.reached c.loop-node_frame.regions c.put.new.regions c.loop-node_frame.invariant.asked c.in_ok-reached.ensures.asked c.in_ok-put.ensures;
      filling = filling_step c.args.node_frames.now node_frame c.next.new.self c.in_ok-reached.reached c.loop-node_frame.regions c.put.new.regions filling c.in_ok-put.ensures;
    }

pub returns : goal.returns
returns g c =
    let step = rest_all deref c.loop-node_frame.node_frame-iterator c.next.new.self c.next.result c.in-None.is c.next.ensures.steps in
    filling_end (site_nodes g.E.ImageEffect.meaning c.args.site.now) c.args.node_frames.now c.loop-node_frame.regions c.loop-node_frame.invariant.right c.loop-node_frame.invariant.asked
    (subst (λ (rest : List NodeFrame). IsFilling c.args.node_frames.now rest c.loop-node_frame.regions) step c.loop-node_frame.invariant.filling)
