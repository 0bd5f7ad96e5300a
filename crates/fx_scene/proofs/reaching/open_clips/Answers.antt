use Rattle.std.proofs.Common.{rules, map, sym, ap, ◌∙◌, ◌≡◌, [], arith, length, ◌<◌, get_or, ℤ, List}
use Rattle.std.proofs.lemmas.List.{length-map}
use Rattle.fx_scene.specs.Frames.{items_of}
use Rattle.fx_scene.proofs.OpenLemmas.{items_at, one_clip}
use Rattle.fx_scene.proofs.reaching.open_clips.Goals as goal

pub loop-c-preserved : goal.loop-c-preserved
loop-c-preserved c =
    let reads = c.args.reads.now in
    let low : c.loop-c.c < length reads = c.loop-c-test.true in
    let long = length-map reads (items_of {A = ℤ}) in
    one_clip c.args.clips.now (map items_of reads) c.loop-c.c _ c.args.pending.now c.loop-c.pending
    c.open_clip.new.pending (omega (arith, low, long)) (c.as_slice.ensures.value ∙ sym (items_at reads c.loop-c.c c.index-reads-c.result low c.index-reads-c.is)) c.loop-c.invariant c.in_ok-open_clip.ensures
