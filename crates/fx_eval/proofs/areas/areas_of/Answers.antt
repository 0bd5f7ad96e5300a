use Rattle.std.proofs.Common.{◌≡◌, ◌∙◌, ap, refl, sym, subst, w64, to_z, of_z, ℕ, ℤ, length, map, arith}
use Rattle.std.specs.List.{range_with_len}
use Rattle.std.proofs.lemmas.Int.{to_z-of_z}
use mir.Val.{SFits}
use Rattle.fx_scene.specs.Sites.{AreReads, effect_at}
use Rattle.fx_scene.proofs.ClipLemmas.{area_at, areas_more, reads_at, reads_long}
use Rattle.fx_eval.proofs.WholeLemmas.{clip_made}
use Rattle.fx_eval.proofs.areas.areas_of.Goals as goal

pub loop-c-init : goal.loop-c-init
loop-c-init g c =
    let o = effect_at g.E.ImageEffect.meaning c.args._project c.args.node.now in
    record { count = reads_long o c.args.frame c.args.reads.now c.requires.reads; areas = λ nodes right. c.new-areas.ensures.items }

pub area_of-requires : goal.area_of-requires
area_of-requires g c =
    let o = effect_at g.E.ImageEffect.meaning c.args._project c.args.node.now in
    let reads = c.args.reads.now in
    let long = reads_long o c.args.frame reads c.requires.reads in
    let frames = c.as_slice.ensures.value ∙ reads_at o c.args.frame reads c.loop-c.c c.index-reads-c.result c.requires.reads (omega (arith, c.loop-c-test.true, c.loop-c.invariant.count)) (omega (arith, long, c.loop-c-test.true, c.loop-c.invariant.count)) c.index-reads-c.is in
    clip_made o c.args.frame c.args.made.now c.loop-c.c _ c.as_slice.result.now c.requires.ready refl frames

pub loop-c-preserved : goal.loop-c-preserved
loop-c-preserved g c =
    let o = effect_at g.E.ImageEffect.meaning c.args._project c.args.node.now in
    let reads = c.args.reads.now in
    let fits : SFits w64 c.args.frame = c.ranges.frame in
    let t = to_z w64 (of_z w64 c.args.frame) in
    let same : t ≡ c.args.frame = to_z-of_z w64 _ fits in
    let are = subst (λ (z : ℤ). AreReads o z reads) (sym same) c.requires.reads in
    let long = reads_long o c.args.frame reads c.requires.reads in
    let frames = c.as_slice.ensures.value ∙ reads_at o t reads c.loop-c.c c.index-reads-c.result are (omega (arith, c.loop-c-test.true, c.loop-c.invariant.count)) (omega (arith, long, c.loop-c-test.true, c.loop-c.invariant.count)) c.index-reads-c.is in
    record {
      count = c.loop-c.invariant.count;
      areas = λ nodes right.
          areas_more nodes o t c.loop-c.c c.loop-c.areas.items c.push.new.self.items c.area_of.result _ c.in_ok-push.ensures.items (c.loop-c.invariant.areas nodes right)
          (c.area_of.ensures nodes (o.meaning.spans (o.values t) c.loop-c.c) right frames) refl;
    }

pub bounds-node-c : goal.bounds-node-c
bounds-node-c g c = omega (arith, c.loop-c-test.true, c.loop-c.invariant.count)

pub returns : goal.returns
returns g c nodes right =
    let fits : SFits w64 c.args.frame = c.ranges.frame in
    let o = effect_at g.E.ImageEffect.meaning c.args._project c.args.node.now in
    let areas = simp to_z-of_z at (c.loop-c.invariant.areas nodes right) in
    let all : c.loop-c.c ≡ length c.args.node.now.clips.now = omega (arith, c.loop-c-test.false, c.loop-c.auto.c-end, c.loop-c.invariant.count) in
    areas ∙ ap (λ (k : ℕ). map (area_at nodes o c.args.frame) (range_with_len 0 k)) all
