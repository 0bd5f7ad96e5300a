use Rattle.std.proofs.Common.{w64, FitsSigned, rules}
use Rattle.std.proofs.lemmas.Int.{to_z-of_z}
use Rattle.fx_effect.proofs.BandLaws.{row_apart}
use Rattle.fx_effect.proofs.bands.Band.has_row.Goals as goal

pub returns : goal.returns
returns c h p is x =
    let band = c.args.self.now in
    let a : FitsSigned w64 band.bottom = search rules in
    let b : FitsSigned w64 band.top = search rules in
    let row : FitsSigned w64 c.args.y = c.ranges.y in
    let frame : FitsSigned w64 c.args.frame = c.ranges.frame in
    let one = simp to_z-of_z at c.is_for.ensures in
    row_apart band p c.args.clip c.args.frame x c.args.y is (simp to_z-of_z at (rw one at h))
