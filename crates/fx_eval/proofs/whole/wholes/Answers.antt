use Rattle.std.proofs.Common.{◌∙◌, refl, sym, subst, List, length}
use Rattle.std.proofs.lemmas.Map.Iter.{rest_all, rest_more}
use Rattle.std.proofs.lemmas.Option.{none-some}
use Rattle.std.specs.Map.Iter.{deref}
use Rattle.fx_gate.specs.Gates.{GateSeatState}
use Rattle.fx_scene.specs.declared.reaching.NodeFrame.{NodeFrame}
use Rattle.fx_scene.specs.Scenes.{graph_shown, images_in, no_images}
use Rattle.fx_eval.specs.Setups.{IsFree, setup_nodes}
use Rattle.fx_eval.proofs.OrderLemmas.{IsFront, front_end, front_has, front_ready, front_start, front_step}
use Rattle.fx_eval.proofs.FlightLemmas.{on_err, drops_none}
use Rattle.fx_eval.proofs.RenderLemmas.{IsRendering, rendering_drop, rendering_end, rendering_idle, rendering_start, rendering_step}
use Rattle.fx_eval.proofs.ReaderLemmas.{lasts_same, none_told}
use Rattle.fx_eval.proofs.whole.wholes.Goals as goal

pub last_readers-requires : goal.last_readers-requires
last_readers-requires g c = c.requires.order.places

pub loop-node_frame-init : goal.loop-node_frame-init
loop-node_frame-init g c =
    let node_frames = c.args.node_frames.now in
    let gives = c.into_iter-node_frame-iterator.ensures.into_iter_gives in
    record {
      whole = λ n t w e. absurd (none-some w (sym (none_told c.new-made.result c.new-made.ensures.empty _) ∙ e));
      front = subst (λ (rest : List NodeFrame). IsFront node_frames c.in_ok-last.last rest c.new-made.result) (sym gives.0)
          (front_start node_frames c.in_ok-last.last c.new-made.result gives.4);
      renders = subst (λ (rest : List NodeFrame). IsRendering (setup_nodes g.E.ImageEffect.meaning c.args.setup.now) node_frames.keys rest c.args.core.now c.args.core.now) (sym gives.0)
          (rendering_start (setup_nodes g.E.ImageEffect.meaning c.args.setup.now) node_frames.keys c.args.core.now);
      seat = refl;
    }

pub make-requires-clause-place : goal.make-requires-clause-place
make-requires-clause-place g c =
    let node_frame = c.in-Some.node_frame.now in
    let step = rest_more deref c.loop-node_frame.node_frame-iterator c.next.new.self c.next.result c.in-Some.node_frame c.in-Some.is c.next.ensures.steps in
    let front = subst (λ (rest : List NodeFrame). IsFront c.args.node_frames.now c.in_ok-last.last rest c.loop-node_frame.made) step c.loop-node_frame.invariant.front in
    c.requires.order.places node_frame.node node_frame.frame (front_has c.args.node_frames.now c.in_ok-last.last node_frame c.next.new.self c.loop-node_frame.made front)

pub make-requires-clause-ready : goal.make-requires-clause-ready
make-requires-clause-ready g c =
    let m = g.E.ImageEffect.meaning in
    let setup = c.args.setup.now in
    let graph = setup.graph.now in
    let node_frame = c.in-Some.node_frame.now in
    let nodes = setup_nodes m setup in
    let step = rest_more deref c.loop-node_frame.node_frame-iterator c.next.new.self c.next.result c.in-Some.node_frame c.in-Some.is c.next.ensures.steps in
    let front = subst (λ (rest : List NodeFrame). IsFront c.args.node_frames.now c.in_ok-last.last rest c.loop-node_frame.made) step c.loop-node_frame.invariant.front in
    let lasts = lasts_same m (graph_shown graph) no_images (images_in setup.store.now) c.args.node_frames.now c.in_ok-last.last c.in_ok-last.ensures in
    front_ready nodes (length graph.nodes.items) c.args.node_frames.now c.in_ok-last.last node_frame c.next.new.self c.loop-node_frame.made c.requires.setup.nodes graph.rendered.few c.requires.order lasts front

pub make-requires-clause-idle : goal.make-requires-clause-idle
make-requires-clause-idle g c =
    rendering_idle (setup_nodes g.E.ImageEffect.meaning c.args.setup.now) c.args.node_frames.now.keys c.args.core.now c.loop-node_frame.node_frame-iterator c.loop-node_frame.core
    c.loop-node_frame.invariant.renders c.requires.idle

pub make-requires-clause-free : goal.make-requires-clause-free
make-requires-clause-free g c =
    subst (λ (s : GateSeatState). IsFree c.args.setup.now s) (sym c.loop-node_frame.invariant.seat) c.requires.free

pub loop-node_frame-preserved : goal.loop-node_frame-preserved
loop-node_frame-preserved g c =
    let nodes = setup_nodes g.E.ImageEffect.meaning c.args.setup.now in
    let node_frame = c.in-Some.node_frame.now in
    let step = rest_more deref c.loop-node_frame.node_frame-iterator c.next.new.self c.next.result c.in-Some.node_frame c.in-Some.is c.next.ensures.steps in
    let front = subst (λ (rest : List NodeFrame). IsFront c.args.node_frames.now c.in_ok-last.last rest c.loop-node_frame.made) step c.loop-node_frame.invariant.front in
    record {
      whole = c.in_ok-make.ensures.whole;
      front = front_step c.args.node_frames.now c.in_ok-last.last node_frame c.next.new.self c.loop-node_frame.made c.make.new.made front c.in_ok-make.ensures.makes;
      renders = rendering_step nodes c.args.node_frames.now.keys c.args.core.now node_frame c.next.new.self c.loop-node_frame.core c.make.new.core
          (subst (λ (rest : List NodeFrame). IsRendering nodes c.args.node_frames.now.keys rest c.args.core.now c.loop-node_frame.core) step c.loop-node_frame.invariant.renders) c.in_ok-make.ensures.lands;
      seat = c.make.ensures.seat ∙ c.loop-node_frame.invariant.seat;
    }

pub returns-clause-kept : goal.returns-clause-kept
returns-clause-kept g c =
    let m = g.E.ImageEffect.meaning in
    let setup = c.args.setup.now in
    let step = rest_all deref c.loop-node_frame.node_frame-iterator c.next.new.self c.next.result c.in-None.is c.next.ensures.steps in
    let lasts = lasts_same m (graph_shown setup.graph.now) no_images (images_in setup.store.now) c.args.node_frames.now c.in_ok-last.last c.in_ok-last.ensures in
    front_end (setup_nodes m setup) c.args.node_frames.now c.in_ok-last.last c.loop-node_frame.made lasts
    (subst (λ (rest : List NodeFrame). IsFront c.args.node_frames.now c.in_ok-last.last rest c.loop-node_frame.made) step c.loop-node_frame.invariant.front)

pub returns-clause-lands : goal.returns-clause-lands
returns-clause-lands g c =
    let nodes = setup_nodes g.E.ImageEffect.meaning c.args.setup.now in
    let step = rest_all deref c.loop-node_frame.node_frame-iterator c.next.new.self c.next.result c.in-None.is c.next.ensures.steps in
    rendering_end nodes c.args.node_frames.now.keys c.args.core.now c.loop-node_frame.core
    (subst (λ (rest : List NodeFrame). IsRendering nodes c.args.node_frames.now.keys rest c.args.core.now c.loop-node_frame.core) step c.loop-node_frame.invariant.renders)

pub returns-clause-once : goal.returns-clause-once
returns-clause-once g c = c.into_iter-node_frame-iterator.ensures.into_iter_gives.4

pub returns-in_err-last-clause-drops : goal.returns-in_err-last-clause-drops
returns-in_err-last-clause-drops g c = on_err c.from_residual.result (drops_none c.args.core.now)

pub returns-in_err-make-clause-drops : goal.returns-in_err-make-clause-drops
returns-in_err-make-clause-drops g c =
    on_err c.from_residual-in_err-make.result
    (rendering_drop (setup_nodes g.E.ImageEffect.meaning c.args.setup.now) c.args.node_frames.now.keys c.args.core.now c.loop-node_frame.node_frame-iterator c.loop-node_frame.core
    c.make.new.core c.loop-node_frame.invariant.renders c.in_err-make.ensures.drops)
