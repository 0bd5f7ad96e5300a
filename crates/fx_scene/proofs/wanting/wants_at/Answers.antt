use Rattle.std.proofs.Common.{List, sym, subst, refl, arith, inl}
use Rattle.std.proofs.lemmas.List.{length-map}
use Rattle.std.proofs.lemmas.Map.Iter.{rest_all, rest_more}
use Rattle.std.specs.Map.Iter.{deref}
use Rattle.fx_graph.specs.Shown.{shown}
use Rattle.fx_seq.specs.declared.wanted.Wanted.{Wanted}
use Rattle.fx_scene.specs.declared.reaching.NodeFrame.{NodeFrame}
use Rattle.fx_scene.specs.Scenes.{graph_shown}
use Rattle.fx_scene.specs.Wants.{IsNamedIn}
use Rattle.fx_scene.proofs.GraphLemmas.{some_at}
use Rattle.fx_scene.proofs.Members.{In, all_from}
use Rattle.fx_scene.proofs.WantLemmas.{IsWanting, apart_pairs, wanting_end, wanting_start, wants_step}
use Rattle.fx_scene.proofs.wanting.wants_at.Goals as goal

-- src/wanting.rt:53:5
pub loop-node_frame-init : goal.loop-node_frame-init
loop-node_frame-init g c =
    let m = g.E.ImageEffect.meaning in
    let graph = graph_shown c.args.graph.now in
    let node_frames = c.args.node_frames.now in
    let gives = c.into_iter-node_frame-iterator.ensures.into_iter_gives in
    subst (λ (rest : List NodeFrame). IsWanting m graph node_frames rest c.new-wanted.result.items) (sym gives.0)
    (subst (λ (ws : List Wanted). IsWanting m graph node_frames node_frames.keys ws) (sym c.new-wanted.ensures.items)
    (wanting_start m graph node_frames gives.4))

-- src/wanting.rt:54:9
pub want-requires : goal.want-requires
want-requires g c =
    let node_frame = c.in-Some.node_frame.now in
    let step = rest_more deref c.loop-node_frame.node_frame-iterator c.next.new.self c.next.result c.in-Some.node_frame c.in-Some.is c.next.ensures.steps in
    let within = c.loop-node_frame.invariant.within node_frame (subst (λ (rest : List NodeFrame). In rest node_frame) (sym step) (inl refl)) in
    (c.requires node_frame.node node_frame.frame within).there

-- src/wanting.rt:53:5
pub loop-node_frame-preserved : goal.loop-node_frame-preserved
loop-node_frame-preserved g c =
    let m = g.E.ImageEffect.meaning in
    let graph = graph_shown c.args.graph.now in
    let node_frames = c.args.node_frames.now in
    let node_frame = c.in-Some.node_frame.now in
    let step = rest_more deref c.loop-node_frame.node_frame-iterator c.next.new.self c.next.result c.in-Some.node_frame c.in-Some.is c.next.ensures.steps in
    let inv = subst (λ (rest : List NodeFrame). IsWanting m graph node_frames rest c.loop-node_frame.wanted.items) step c.loop-node_frame.invariant in
    let low = (c.requires node_frame.node node_frame.frame (inv.within node_frame (inl refl))).there in
    let long = length-map c.args.graph.now.nodes.items shown in
    let n = some_at graph.nodes node_frame.node (omega (arith, low, long)) in
    wants_step m graph node_frames node_frame c.next.new.self c.loop-node_frame.wanted.items c.want.new.wanted.items n.0 inv n.1 c.in_ok-want.ensures

-- src/wanting.rt:39:1
pub returns-clause-exact : goal.returns-clause-exact
returns-clause-exact g c = λ nodes same output first last reach.
    let m = g.E.ImageEffect.meaning in
    let graph = graph_shown c.args.graph.now in
    let node_frames = c.args.node_frames.now in
    let step = rest_all deref c.loop-node_frame.node_frame-iterator c.next.new.self c.next.result c.in-None.is c.next.ensures.steps in
    wanting_end m graph nodes same node_frames c.loop-node_frame.wanted.items output first last reach
    (subst (λ (rest : List NodeFrame). IsWanting m graph node_frames rest c.loop-node_frame.wanted.items) step c.loop-node_frame.invariant)

-- src/wanting.rt:39:1
pub returns-clause-names : goal.returns-clause-names
returns-clause-names g c = all_from (IsNamedIn (graph_shown c.args.graph.now)) c.loop-node_frame.wanted.items c.loop-node_frame.invariant.named

-- src/wanting.rt:39:1
pub returns-clause-apart : goal.returns-clause-apart
returns-clause-apart g c = apart_pairs c.loop-node_frame.wanted.items c.loop-node_frame.invariant.rises
