use Rattle.std.proofs.Common.{◌≡◌, ◌++◌, ℤ, pos, List, [], ◌∷◌, All, sym, subst}
use Rattle.std.proofs.lemmas.List.Elements.{All-append, All-cons, All-head, All-nil, All-tail}
use Rattle.std.proofs.lemmas.Map.Iter.{rest_more}
use Rattle.std.specs.BTreeSet.{BTreeSet}
use Rattle.std.specs.Map.Iter.{deref}
use Rattle.fx_effect.specs.Meaning.{Meaning}
use Rattle.fx_graph.specs.Shown.{GraphShown}
use Rattle.fx_scene.specs.Reach.{IsReach, has}
use Rattle.fx_scene.specs.Scenes.{Shot, graph_nodes, graph_shown, images_in, no_images}
use Rattle.fx_scene.specs.declared.reaching.NodeFrame.{NodeFrame}
use Rattle.fx_scene.proofs.Members.{all_from}
use Rattle.fx_scene.proofs.RankLemmas.{has_key}
use Rattle.fx_scene.proofs.SiteLemmas.{reads_same}
use Rattle.fx_region.proofs.TableLemmas.{reached_same}
use Rattle.fx_speed.specs.Reached.{IsReachedAt}
use Rattle.fx_speed.proofs.regions.node_frames_of.Goals as goal

-- what is in the set is reached
all_reached : {E : Type 0} (meaning : E → Meaning) (scene : Shot E) (at : ℤ) (s : BTreeSet NodeFrame)
    → IsReach (graph_nodes meaning scene.graph no_images) scene.graph.output at at (has s)
    → All (IsReachedAt meaning scene at) s.keys
all_reached meaning scene at s reach =
    let images = images_in scene.store in
    let g = scene.graph in
    all_from (IsReachedAt meaning scene at) s.keys (λ m i.
    reached_same (graph_nodes meaning g no_images) (graph_nodes meaning g images) g.output at at m.node m.frame
    (λ n t k f. reads_same meaning g no_images images n t k f) (reach.only m.node m.frame (has_key s m i)))

-- the graph that is reached is that of the scene
shown_reached : {E : Type 0} (meaning : E → Meaning) (scene : Shot E) (g : GraphShown E) (at : ℤ) (s : BTreeSet NodeFrame)
    → g ≡ scene.graph → IsReach (graph_nodes meaning g no_images) g.output at at (has s)
    → All (IsReachedAt meaning scene at) s.keys
shown_reached meaning scene g at s is reach =
    all_reached meaning scene at s
    (subst (λ (k : GraphShown _). IsReach (graph_nodes meaning k no_images) k.output at at (has s)) is reach)

pub loop-node_frame-init : goal.loop-node_frame-init
loop-node_frame-init g c =
    let m = g.E.ImageEffect.meaning in
    let scene = c.args.scene.now in
    let P = IsReachedAt m scene (pos 11) in
    let least = simp c.from-frame.ensures at c.in_ok-reached.ensures.least in
    let graph = graph_shown c.graph.result.now in
    let all = shown_reached m scene graph (pos 11) c.in_ok-reached.reached c.graph.ensures.shown least in
    record {
      listed = subst (All P) (sym c.new-node_frames.ensures.items) (All-nil P);
      left = subst (All P) (sym c.into_iter-node_frame-iterator.ensures.into_iter_gives.0) all;
    }

-- one more of what is left is listed
one_more : {X : Type 0} (P : X → Type 0) (x : X) (left rest xs ys : List X) → left ≡ x ∷ rest → ys ≡ xs ++ x ∷ []
    → All P left → All P xs → All P ys × All P rest
one_more P x left rest xs ys step more all listed =
    let here = subst (All P) step all in (
      subst (All P) (sym more) (All-append P xs (x ∷ []) listed (All-cons P x [] (All-head P x rest here) (All-nil P))),
      All-tail P x rest here,
    )

pub loop-node_frame-preserved : goal.loop-node_frame-preserved
loop-node_frame-preserved g c =
    let node_frame = c.in-Some.node_frame.now in
    let l = c.loop-node_frame in
    let step = rest_more deref l.node_frame-iterator c.next.new.self c.next.result c.in-Some.node_frame c.in-Some.is c.next.ensures.steps in
    let both = one_more (IsReachedAt g.E.ImageEffect.meaning c.args.scene.now (pos 11)) node_frame l.node_frame-iterator
    c.next.new.self l.node_frames.items c.push.new.self.items step c.in_ok-push.ensures.items l.invariant.left l.invariant.listed in
    record { listed = both.0; left = both.1 }
