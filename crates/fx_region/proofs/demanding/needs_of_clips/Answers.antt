use Rattle.std.proofs.Common.{◌≡◌, ◌<◌, ◌∙◌, ap, refl, sym, subst, map, w64, to_z, of_z, length, arith, ℕ, ℤ}
use Rattle.std.specs.List.{flat_map, range_with_len}
use Rattle.std.proofs.lemmas.Int.{to_z-of_z}
use mir.Val.{SFits}
use Rattle.fx_scene.specs.Areas.{area}
use Rattle.fx_region.specs.Ends.{end_of}
use Rattle.fx_region.specs.Needs.{need_shown, needs_at}
use Rattle.fx_scene.specs.Sites.{AreReads, effect_at, site_nodes}
use Rattle.fx_region.specs.Tables.{IsInterest}
use Rattle.fx_region.proofs.DemandLemmas.{clip_step, interest_at, interest_long}
use Rattle.fx_scene.proofs.ClipLemmas.{reads_at, reads_long}
use Rattle.fx_region.proofs.TableLemmas.{clip_there}
use Rattle.fx_region.proofs.demanding.needs_of_clips.Goals as goal

pub loop-c-init : goal.loop-c-init
loop-c-init g c =
    let o = effect_at g.E.ImageEffect.meaning c.args.site.now.graph.now.project c.args.node.now in
    record {
      count = reads_long o c.args.frame c.args.reads.now c.requires.reads;
      needs = ap (map need_shown) c.in_ok-needs.ensures.items;
    }

pub overflow_cast-c : goal.overflow_cast-c
overflow_cast-c g c = omega (arith, c.loop-c-test.true, c.loop-c.invariant.count, c.requires.few)

pub bounds-node-c : goal.bounds-node-c
bounds-node-c g c = omega (arith, c.loop-c-test.true, c.loop-c.invariant.count)

pub bounds-interest-c : goal.bounds-interest-c
bounds-interest-c g c =
    let o = effect_at g.E.ImageEffect.meaning c.args.site.now.graph.now.project c.args.node.now in
    let long = interest_long o c.args.frame c.args._region c.args.interest.now c.requires.interest in
    omega (arith, long, c.loop-c-test.true, c.loop-c.invariant.count)

pub add_clip-requires-clause-there : goal.add_clip-requires-clause-there
add_clip-requires-clause-there g c =
    let o = effect_at g.E.ImageEffect.meaning c.args.site.now.graph.now.project c.args.node.now in
    let reads = c.args.reads.now in
    let long = reads_long o c.args.frame reads c.requires.reads in
    let frames = c.as_slice-frames.ensures.value ∙ reads_at o c.args.frame reads c.loop-c.c c.index-reads-c.result c.requires.reads (omega (arith, c.loop-c-test.true, c.loop-c.invariant.count)) (omega (arith, long, c.loop-c-test.true, c.loop-c.invariant.count)) c.index-reads-c.is in
    clip_there o c.args.frame c.args.regions.now c.loop-c.c _ c.as_slice-frames.result.now c.requires.there refl frames

pub loop-c-preserved : goal.loop-c-preserved
loop-c-preserved g c =
    let nodes = site_nodes g.E.ImageEffect.meaning c.args.site.now in
    let o = effect_at g.E.ImageEffect.meaning c.args.site.now.graph.now.project c.args.node.now in
    let reads = c.args.reads.now in
    let fits : SFits w64 c.args.frame = c.ranges.frame in
    let t = to_z w64 (of_z w64 c.args.frame) in
    let same : t ≡ c.args.frame = to_z-of_z w64 _ fits in
    let are = subst (λ (z : ℤ). AreReads o z reads) (sym same) c.requires.reads in
    let wants = subst (λ (z : ℤ). IsInterest o z c.args._region c.args.interest.now) (sym same) c.requires.interest in
    let low : c.loop-c.c < length c.args.node.now.clips.now = omega (arith, c.loop-c-test.true, c.loop-c.invariant.count) in
    let long = reads_long o c.args.frame reads c.requires.reads in
    let frames = c.as_slice-frames.ensures.value ∙ reads_at o t reads c.loop-c.c c.index-reads-c.result are low (omega (arith, long, low)) c.index-reads-c.is in
    record {
      count = c.loop-c.invariant.count;
      needs = clip_step nodes c.args.grid o t c.args._region c.loop-c.c c.index-interest-c.result c.as_slice-frames.result.now _ (map need_shown c.loop-c.needs.items) (map need_shown c.add_clip.new.needs.items)
          c.loop-c.invariant.needs c.in_ok-add_clip.ensures (interest_at o t c.args._region c.args.interest.now c.loop-c.c c.index-interest-c.result wants low c.index-interest-c.is) frames refl;
    }

pub returns : goal.returns
returns g c =
    let nodes = site_nodes g.E.ImageEffect.meaning c.args.site.now in
    let o = effect_at g.E.ImageEffect.meaning c.args.site.now.graph.now.project c.args.node.now in
    let fits : SFits w64 c.args.frame = c.ranges.frame in
    let needs = simp to_z-of_z at c.loop-c.invariant.needs in
    let all : c.loop-c.c ≡ length c.args.node.now.clips.now = omega (arith, c.loop-c-test.false, c.loop-c.auto.c-end, c.loop-c.invariant.count) in
    needs ∙ ap (λ (k : ℕ). flat_map (needs_at (end_of nodes) (area nodes) c.args.grid o c.args.frame c.args._region) (range_with_len 0 k)) all
