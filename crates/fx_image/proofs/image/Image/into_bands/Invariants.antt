use Rattle.fx_image.proofs.BandLaws.{CutImages}
use Rattle.fx_image.proofs.image.Image.into_bands.Given as goal

abbrev pub invariant-loop-own : goal.invariant-loop-own
invariant-loop-own l = CutImages l.fn.self l.initial.own-iterator.rest.items l.own-iterator.rest.items l.bands.items
