use Rattle.std.proofs.Common.{rules}
use Rattle.fx_scene.proofs.OpenLemmas.{one_frame}
use Rattle.fx_scene.proofs.reaching.open_frames.Goals as goal

pub loop-frame-preserved : goal.loop-frame-preserved
loop-frame-preserved c =
    one_frame c.args.node c.args.frames.now c.loop-frame.frame-index _ c.args.pending.now c.loop-frame.pending
    c.insert.new.self c.loop-frame-test.true (search rules) c.loop-frame.invariant c.in_ok-insert.ensures.updates
