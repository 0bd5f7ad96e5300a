use Rattle.fx_scene.proofs.FrameLaws.{are_frames}
use Rattle.fx_scene.proofs.laws.frames_once_and_rising.Goals as goal

pub returns : goal.returns
returns c spans = are_frames spans
