use Rattle.fx_image.proofs.RowsCut.{JoinSoFar}
use Rattle.fx_image.proofs.rows.Rows.of_bands.Given as goal

abbrev pub invariant-loop-band : goal.invariant-loop-band
invariant-loop-band l = JoinSoFar l.fn.bands.items l.band-iterator.rest.items l.blocks.items
