use Rattle.std.proofs.Common.{◌≡◌, ◌∙◌, ap, sym, subst, refl, w64, to_z, of_z, ℤ, ℕ, length, arith, map, ◌+◌, ◌<◌, IfSome, None, slice_index_or}
use Rattle.std.proofs.lemmas.List.{length-map}
use Rattle.std.proofs.lemmas.Int.{to_z-of_z}
use mathlib.Core.Logic.{◌⊎◌}
use mir.Val.{SFits}
use Rattle.fx_effect.specs.Given.{Given}
use Rattle.fx_graph.specs.Shown.{shown}
use Rattle.fx_scene.specs.Nodes.{clip_node}
use Rattle.fx_scene.specs.Scenes.{graph_shown, images_in}
use Rattle.fx_scene.specs.Sites.{AreReads, effect_at, seen_in}
use Rattle.fx_scene.proofs.SiteLemmas.{clip_below, few_clips, masks_counted}
use Rattle.fx_eval.specs.Setups.{setup_nodes}
use Rattle.fx_eval.specs.Inputs.{Adds, IsSomeOf, Reads, blank}
use Rattle.fx_scene.proofs.ClipLemmas.{reads_at, reads_long}
use Rattle.fx_eval.proofs.WholeLemmas.{clip_made}
use Rattle.fx_eval.proofs.PieceLemmas.{adds_less, adds_more, adds_none, reads_split}
use Rattle.fx_eval.proofs.inputs.inputs_of.Goals as goal

pub loop-c-init : goal.loop-c-init
loop-c-init g c =
    let m = g.E.ImageEffect.meaning in
    let node = c.args.node.now in
    let o = effect_at m c.args.setup.now.graph.now.project node in
    let nodes = setup_nodes m c.args.setup.now in
    let ks = map (seen_in node.components) node.masks.now in
    let t = to_z w64 (of_z w64 c.args.frame) in
    let e : c.in_ok-inputs.inputs ≡ blank node.depth ks = c.in_ok-inputs.ensures ∙ ap (blank node.depth) c.in_ok-components.ensures in
    record {
      count = reads_long o c.args.frame c.args.reads.now c.requires.reads;
      adds = subst (λ (a : Given). Adds nodes (clip_node o) (Reads o t 0) (blank node.depth ks) a) (sym e)
          (adds_none nodes (clip_node o) (Reads o t 0) (blank node.depth ks) (λ k m f r is x y inside. let low = r.0 in absurd (omega (arith, low))));
    }

pub overflow_cast-c : goal.overflow_cast-c
overflow_cast-c g c =
    let setup = c.args.setup.now in
    let graph = setup.graph.now in
    let few = few_clips g.E.ImageEffect.meaning (graph_shown graph) (graph.depth, graph.components) graph.kept (images_in setup.store.now) c.requires.setup.nodes c.args.node.now c.requires.there in
    omega (arith, few, c.loop-c-test.true, c.loop-c.invariant.count)

pub add_clip-requires-clause-there : goal.add_clip-requires-clause-there
add_clip-requires-clause-there g c =
    let setup = c.args.setup.now in
    let graph = setup.graph.now in
    let below = clip_below g.E.ImageEffect.meaning (graph_shown graph) (graph.depth, graph.components) graph.kept (images_in setup.store.now) c.requires.setup.nodes c.args.node.now c.requires.there c.loop-c.c in
    subst (λ (k : ℕ). IfSome (slice_index_or c.args.node.now.clips.now c.loop-c.c None) (λ m. m < k)) (length-map graph.nodes.items shown) below

pub add_clip-requires-clause-made : goal.add_clip-requires-clause-made
add_clip-requires-clause-made g c =
    let o = effect_at g.E.ImageEffect.meaning c.args.setup.now.graph.now.project c.args.node.now in
    let reads = c.args.reads.now in
    let long = reads_long o c.args.frame reads c.requires.reads in
    let frames = c.as_slice-frames.ensures.value ∙ reads_at o c.args.frame reads c.loop-c.c c.index-reads-c.result c.requires.reads (omega (arith, c.loop-c-test.true, c.loop-c.invariant.count)) (omega (arith, long, c.loop-c-test.true, c.loop-c.invariant.count)) c.index-reads-c.is in
    clip_made o c.args.frame c.args.made.now c.loop-c.c _ c.as_slice-frames.result.now c.requires.ready refl frames

pub add_clip-requires-clause-clip : goal.add_clip-requires-clause-clip
add_clip-requires-clause-clip g c =
    let graph = c.args.setup.now.graph.now in
    let counted = masks_counted g.E.ImageEffect.meaning (graph_shown graph) (graph.depth, graph.components) graph.kept c.args.node.now c.requires.there in
    let long = length-map c.args.node.now.masks.now (seen_in c.args.node.now.components) in
    let same = ap (λ (a : Given). length a.components) c.loop-c.invariant.adds.is in
    omega (arith, counted, long, same, c.loop-c-test.true, c.loop-c.invariant.count)

pub loop-c-preserved : goal.loop-c-preserved
loop-c-preserved g c =
    let m = g.E.ImageEffect.meaning in
    let node = c.args.node.now in
    let o = effect_at m c.args.setup.now.graph.now.project node in
    let nodes = setup_nodes m c.args.setup.now in
    let ks = map (seen_in node.components) node.masks.now in
    let reads = c.args.reads.now in
    let k = c.loop-c.c in
    let fits : SFits w64 c.args.frame = c.ranges.frame in
    let t = to_z w64 (of_z w64 c.args.frame) in
    let same : t ≡ c.args.frame = to_z-of_z w64 _ fits in
    let are = subst (λ (z : ℤ). AreReads o z reads) (sym same) c.requires.reads in
    let long = reads_long o c.args.frame reads c.requires.reads in
    let fs = c.as_slice-frames.result.now in
    let frames = c.as_slice-frames.ensures.value ∙ reads_at o t reads k c.index-reads-c.result are (omega (arith, c.loop-c-test.true, c.loop-c.invariant.count)) (omega (arith, long, c.loop-c-test.true, c.loop-c.invariant.count)) c.index-reads-c.is in
    record {
      count = c.loop-c.invariant.count;
      adds = adds_less nodes (clip_node o) (Reads o t (k + 1)) (λ j f. Reads o t k j f ⊎ IsSomeOf k fs j f) (blank node.depth ks) c.add_clip.new.inputs
          (λ j f r. reads_split o t k fs frames j f r)
          (adds_more nodes (clip_node o) (Reads o t k) (IsSomeOf k fs) (blank node.depth ks) c.loop-c.inputs c.add_clip.new.inputs c.loop-c.invariant.adds (c.in_ok-add_clip.ensures (clip_node o) refl));
    }
