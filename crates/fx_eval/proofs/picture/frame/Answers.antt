use Rattle.std.proofs.Common.{◌≤◌, ◌+◌, sym, subst, w64, to_z, of_z, length, arith}
use Rattle.std.proofs.lemmas.Int.{to_z-of_z, ints}
use Rattle.std.proofs.lemmas.List.{length-map}
use mir.Val.{SFits}
use Rattle.fx_image.specs.Image.{SameImage}
use Rattle.fx_image.specs.Stored.{image_of}
use Rattle.fx_seq.specs.declared.store.Store.{Store}
use Rattle.fx_graph.specs.Shown.{GraphShown, shown}
use Rattle.fx_scene.specs.Scenes.{graph_nodes, graph_shown, images_in, no_images, picture}
use Rattle.fx_scene.proofs.NodesLemmas.{are_nodes}
use Rattle.fx_scene.proofs.StoreLemmas.{store_images}
use Rattle.fx_scene.specs.Reach.{has}
use Rattle.fx_life.specs.Posts.{HasLife}
use Rattle.fx_eval.specs.Renders.{HasRendered}
use Rattle.fx_eval.proofs.FlightLemmas.{drops_none, on_err}
use Rattle.fx_eval.proofs.OrderLemmas.{reach_order, reads_same, unread_output}
use Rattle.fx_eval.proofs.RenderLemmas.{reach_same}
use Rattle.fx_eval.proofs.picture.frame.Goals as goal

pub wholes-requires-clause-setup : goal.wholes-requires-clause-setup
wholes-requires-clause-setup g c =
    let m = g.E.ImageEffect.meaning in
    let graph = c.graph.result.now in
    let store = c.store.result.now in
    let few = graph.rendered.few in
    let long = length-map graph.nodes.items shown in
    let bound = g.met.E.ImageEffect in
    record {
      scene = sym c.graph.ensures.shown;
      nodes = are_nodes m graph.project (graph.depth, graph.components) (graph_shown graph).nodes (images_in store) bound.laws graph.extent (omega (arith, few, long))
          (store_images store store.sound) graph.kept;
      life = subst (λ (s : GraphShown _). HasLife g.E.Catalogue.number_of s c.args.life.now) (sym c.graph.ensures.shown) c.requires.life;
      gates = subst (λ (s : GraphShown _). 64 + length s.nodes ≤ c.args.gates.now.gates) (sym c.graph.ensures.shown) c.requires.gates;
    }

pub wholes-requires-clause-free : goal.wholes-requires-clause-free
wholes-requires-clause-free g c = record { row = c.requires.row; turn = c.requires.free }

pub wholes-requires-clause-order : goal.wholes-requires-clause-order
wholes-requires-clause-order g c =
    let m = g.E.ImageEffect.meaning in
    let graph = c.graph.result.now in
    let shown = graph_shown graph in
    let images = images_in c.store.result.now in
    let fits : SFits w64 c.args.frame = c.ranges.frame in
    let least = simp to_z-of_z at c.in_ok-node_frames.ensures.least in
    reach_order (graph_nodes m shown no_images) (graph_nodes m shown images) graph.output (length graph.nodes.items) c.args.frame c.args.frame c.in_ok-node_frames.node_frames
    (λ n t k f. reads_same m shown images no_images n t k f) least c.in_ok-node_frames.ensures.places

pub show-requires-clause-setup : goal.show-requires-clause-setup
show-requires-clause-setup g c =
    let m = g.E.ImageEffect.meaning in
    let graph = c.graph.result.now in
    let store = c.store.result.now in
    let few = graph.rendered.few in
    let long = length-map graph.nodes.items shown in
    let bound = g.met.E.ImageEffect in
    record {
      scene = sym c.graph.ensures.shown;
      nodes = are_nodes m graph.project (graph.depth, graph.components) (graph_shown graph).nodes (images_in store) bound.laws graph.extent (omega (arith, few, long))
          (store_images store store.sound) graph.kept;
      life = subst (λ (s : GraphShown _). HasLife g.E.Catalogue.number_of s c.args.life.now) (sym c.graph.ensures.shown) c.requires.life;
      gates = subst (λ (s : GraphShown _). 64 + length s.nodes ≤ c.args.gates.now.gates) (sym c.graph.ensures.shown) c.requires.gates;
    }

pub show-requires-clause-made : goal.show-requires-clause-made
show-requires-clause-made g c =
    let m = g.E.ImageEffect.meaning in
    let graph = c.graph.result.now in
    let shown = graph_shown graph in
    let t = to_z w64 (of_z w64 c.args.frame) in
    let node_frames = c.in_ok-node_frames.node_frames in
    let least = c.in_ok-node_frames.ensures.least in
    let setup = show-requires-clause-setup g c in
    c.in_ok-made.ensures.kept graph.output t (least.all graph.output t (λ s closed. closed.start t (omega (arith, ints)) (omega (arith, ints))))
    (λ n u there r. unread_output (graph_nodes m shown no_images) (graph_nodes m shown (images_in c.store.result.now)) graph.output t t node_frames
    setup.nodes (λ k v j f. reads_same m shown no_images (images_in c.store.result.now) k v j f) least n u there t r)

pub returns-in_err-node_frames-clause-drops : goal.returns-in_err-node_frames-clause-drops
returns-in_err-node_frames-clause-drops g c = on_err c.from_residual.result (drops_none c.args.core.now)

pub returns-clause-picture : goal.returns-clause-picture
returns-clause-picture g c =
    let m = g.E.ImageEffect.meaning in
    let fits : SFits w64 c.args.frame = c.ranges.frame in
    let image = image_of c.show.new.image in
    let same = simp to_z-of_z at c.in_ok-show.ensures in
    subst (λ (s : GraphShown _). SameImage image (picture m s (images_in c.args.scene.now.store) c.args.frame)) c.graph.ensures.shown
    (subst (λ (s : Store). SameImage image (picture m (graph_shown c.graph.result.now) (images_in s) c.args.frame)) c.store.ensures same)

pub returns-clause-renders : goal.returns-clause-renders
returns-clause-renders g c =
    let m = g.E.ImageEffect.meaning in
    let graph = c.graph.result.now in
    let shown = graph_shown graph in
    let images = images_in c.store.result.now in
    let fits : SFits w64 c.args.frame = c.ranges.frame in
    let least = simp to_z-of_z at c.in_ok-node_frames.ensures.least in
    let rendered : HasRendered (graph_nodes m shown images) graph.output c.args.frame c.args.core.now c.wholes.new.core = record {
      node_frames = c.in_ok-node_frames.node_frames;
      once = c.in_ok-made.ensures.once;
      reached = reach_same (graph_nodes m shown no_images) (graph_nodes m shown images) graph.output c.args.frame c.args.frame (has c.in_ok-node_frames.node_frames)
          (λ n t k f. reads_same m shown no_images images n t k f) (λ n t k f. reads_same m shown images no_images n t k f) least;
      core = c.in_ok-made.ensures.lands;
    } in
    subst (λ (s : GraphShown _). HasRendered (graph_nodes m s (images_in c.args.scene.now.store)) s.output c.args.frame c.args.core.now c.wholes.new.core) c.graph.ensures.shown
    (subst (λ (s : Store). HasRendered (graph_nodes m shown (images_in s)) graph.output c.args.frame c.args.core.now c.wholes.new.core) c.store.ensures rendered)
