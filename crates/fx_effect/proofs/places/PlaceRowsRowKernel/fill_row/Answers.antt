use Rattle.std.proofs.Common.{w64, FitsSigned}
use Rattle.std.proofs.lemmas.Int.{to_z-of_z}
use Rattle.fx_effect.proofs.places.PlaceRowsRowKernel.fill_row.Goals as goal

pub returns-in-Byte-Rgba-clause-shows : goal.returns-in-Byte-Rgba-clause-shows
returns-in-Byte-Rgba-clause-shows g c = let y : FitsSigned w64 c.args.y = c.ranges.y in rw (c.in-Byte-Rgba.is-0, c.in-Byte-Rgba.is-1) (simp to_z-of_z at c.fill_each.ensures)

pub returns-in-Byte-Alpha-clause-shows : goal.returns-in-Byte-Alpha-clause-shows
returns-in-Byte-Alpha-clause-shows g c = let y : FitsSigned w64 c.args.y = c.ranges.y in rw (c.in-Byte-Alpha.is-0, c.in-Byte-Alpha.is-1) (simp to_z-of_z at c.fill_each-in-Byte-Alpha.ensures)

pub returns-in-Short-Rgba-clause-shows : goal.returns-in-Short-Rgba-clause-shows
returns-in-Short-Rgba-clause-shows g c = let y : FitsSigned w64 c.args.y = c.ranges.y in rw (c.in-Short-Rgba.is-0, c.in-Short-Rgba.is-1) (simp to_z-of_z at c.fill_each-in-Short-Rgba.ensures)

pub returns-in-Short-Alpha-clause-shows : goal.returns-in-Short-Alpha-clause-shows
returns-in-Short-Alpha-clause-shows g c = let y : FitsSigned w64 c.args.y = c.ranges.y in rw (c.in-Short-Alpha.is-0, c.in-Short-Alpha.is-1) (simp to_z-of_z at c.fill_each-in-Short-Alpha.ensures)
