use Rattle.fx_proxy.proofs.FrameLemmas.{frame_whole, reduced_frame}
use Rattle.fx_proxy.proofs.frames.scale_frame.Goals as goal

pub reduce-requires-clause-whole : goal.reduce-requires-clause-whole
reduce-requires-clause-whole c = frame_whole c.args.frame.image c.args.frame.sound

pub invariant_of-result : goal.invariant_of-result
invariant_of-result c =
    let frame = c.args.frame in
    let made = c.in_ok-image.ensures in
    record {
      sound = reduced_frame c.args.q frame.image c.in_ok-image.image c.requires.0 frame.sound made.value made.narrow c.pixels_fit.ensures;
      few = frame.few;
    }
