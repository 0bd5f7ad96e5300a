use Rattle.std.proofs.Common.{All, sym, subst}
use Rattle.fx_base.specs.Rect.{IsFrame}
use Rattle.fx_effect.proofs.WindowLaws.{frames_of_window}
use Rattle.fx_effect.proofs.args.interest_args.Goals as goal

pub wholes_def-requires-2-clause-numbers : goal.wholes_def-requires-2-clause-numbers
wholes_def-requires-2-clause-numbers c =
    subst (λ numbers. All IsFrame numbers) (sym c.corners.ensures) (frames_of_window c.args.region c.requires.region)
