use Rattle.std.proofs.Common.{w64, FitsSigned}
use Rattle.std.proofs.lemmas.Int.{to_z-of_z}
use Rattle.fx_effect.proofs.piece.Placed.row.Goals as goal

pub returns-in-Frame : goal.returns-in-Frame
returns-in-Frame c = let row : FitsSigned w64 c.args.y = c.ranges.y in rw c.in-Frame.is (simp to_z-of_z at c.frame_row.ensures)
