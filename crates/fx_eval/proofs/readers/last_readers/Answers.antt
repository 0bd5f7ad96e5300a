use Rattle.std.proofs.Common.{sym, subst, List}
use Rattle.std.proofs.lemmas.Map.Iter.{rest_all, rest_more}
use Rattle.std.specs.Map.Iter.{deref}
use Rattle.fx_scene.specs.declared.reaching.NodeFrame.{NodeFrame}
use Rattle.fx_scene.specs.Scenes.{graph_nodes, graph_shown, no_images}
use Rattle.fx_eval.proofs.ReaderLemmas.{IsMarking, marking_end, marking_has, marking_start, marking_step}
use Rattle.fx_eval.proofs.readers.last_readers.Goals as goal

pub loop-node_frame-init : goal.loop-node_frame-init
loop-node_frame-init g c =
    let nodes = graph_nodes g.E.ImageEffect.meaning (graph_shown c.args.graph.now) no_images in
    let node_frames = c.args.node_frames.now in
    let gives = c.into_iter-node_frame-iterator.ensures.into_iter_gives in
    subst (λ (rest : List NodeFrame). IsMarking nodes node_frames rest c.new-last.result) (sym gives.0)
    (marking_start nodes node_frames c.new-last.result c.new-last.ensures.empty gives.4)

pub mark_reads-requires : goal.mark_reads-requires
mark_reads-requires g c =
    let nodes = graph_nodes g.E.ImageEffect.meaning (graph_shown c.args.graph.now) no_images in
    let node_frame = c.in-Some.node_frame.now in
    let step = rest_more deref c.loop-node_frame.node_frame-iterator c.next.new.self c.next.result c.in-Some.node_frame c.in-Some.is c.next.ensures.steps in
    let front = subst (λ (rest : List NodeFrame). IsMarking nodes c.args.node_frames.now rest c.loop-node_frame.last) step c.loop-node_frame.invariant in
    c.requires node_frame.node node_frame.frame (marking_has nodes c.args.node_frames.now node_frame c.next.new.self c.loop-node_frame.last front)

pub loop-node_frame-preserved : goal.loop-node_frame-preserved
loop-node_frame-preserved g c =
    let nodes = graph_nodes g.E.ImageEffect.meaning (graph_shown c.args.graph.now) no_images in
    let node_frame = c.in-Some.node_frame.now in
    let step = rest_more deref c.loop-node_frame.node_frame-iterator c.next.new.self c.next.result c.in-Some.node_frame c.in-Some.is c.next.ensures.steps in
    let front = subst (λ (rest : List NodeFrame). IsMarking nodes c.args.node_frames.now rest c.loop-node_frame.last) step c.loop-node_frame.invariant in
    marking_step nodes c.args.node_frames.now node_frame c.next.new.self c.loop-node_frame.last c.mark_reads.new.last front c.in_ok-mark_reads.ensures

pub returns : goal.returns
returns g c =
    let nodes = graph_nodes g.E.ImageEffect.meaning (graph_shown c.args.graph.now) no_images in
    let step = rest_all deref c.loop-node_frame.node_frame-iterator c.next.new.self c.next.result c.in-None.is c.next.ensures.steps in
    marking_end nodes c.args.node_frames.now c.loop-node_frame.last
    (subst (λ (rest : List NodeFrame). IsMarking nodes c.args.node_frames.now rest c.loop-node_frame.last) step c.loop-node_frame.invariant)
