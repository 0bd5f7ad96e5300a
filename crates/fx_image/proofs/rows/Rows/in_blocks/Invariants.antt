use Rattle.fx_image.proofs.RowsMade.{ZeroSoFar}
use Rattle.fx_image.proofs.rows.Rows.in_blocks.Given as goal

abbrev pub invariant-loop-k : goal.invariant-loop-k
invariant-loop-k l = ZeroSoFar l.pitch l.height l.step l.blocks.items l.k
