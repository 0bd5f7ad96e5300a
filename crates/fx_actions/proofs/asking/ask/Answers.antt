use Rattle.std.proofs.Common.{arith, w64, to_z, of_z}
use Rattle.std.proofs.lemmas.Int.{to_z-of_z}
use Rattle.fx_base.specs.Rect.{IsFrame}
use Rattle.fx_effect.proofs.WindowLaws.{AreFrames-window}
use Rattle.fx_actions.proofs.AskingLemmas.{four_frames}
use Rattle.fx_actions.proofs.asking.ask.Goals as goal

pub renew-requires-2-clause-frames : goal.renew-requires-2-clause-frames
renew-requires-2-clause-frames c =
    let frames = AreFrames-window c.args.r c.requires.window in
    let x1 : IsFrame (to_z w64 (of_z w64 c.r.inside.x1)) = grind (arith, to_z-of_z, frames.left, c.r.view_is) in
    let y1 : IsFrame (to_z w64 (of_z w64 c.r.inside.y1)) = grind (arith, to_z-of_z, frames.bottom, c.r.view_is) in
    let x2 : IsFrame (to_z w64 (of_z w64 c.r.inside.x2)) = grind (arith, to_z-of_z, frames.right, c.r.view_is) in
    let y2 : IsFrame (to_z w64 (of_z w64 c.r.inside.y2)) = grind (arith, to_z-of_z, frames.top, c.r.view_is) in
    four_frames _ _ _ _ x1 y1 x2 y2
