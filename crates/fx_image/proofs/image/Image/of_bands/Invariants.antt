use Rattle.fx_image.proofs.BandLaws.{JoinImages}
use Rattle.fx_image.proofs.image.Image.of_bands.Given as goal

abbrev pub invariant-loop-band : goal.invariant-loop-band
invariant-loop-band l = JoinImages l.fn.bands.items l.band-iterator.rest.items l.all.items
