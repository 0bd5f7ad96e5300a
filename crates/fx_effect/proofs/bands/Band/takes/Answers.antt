use Rattle.std.proofs.Common.{w64, FitsSigned, rules, ap, sym, ◌∙◌}
use Rattle.std.proofs.lemmas.Int.{to_z-of_z}
use Rattle.fx_base.specs.Bounds.{Bounds}
use Rattle.fx_effect.proofs.BandLaws.{in_band}
use Rattle.fx_effect.proofs.bands.Band.takes.Goals as goal

pub returns : goal.returns
returns c h p here then is =
    let band = c.args.self.now in
    let a : FitsSigned w64 band.bottom = search rules in
    let b : FitsSigned w64 band.top = search rules in
    let d : FitsSigned w64 c.rect.inside.y1 = search rules in
    let e : FitsSigned w64 c.rect.inside.y2 = search rules in
    let frame : FitsSigned w64 c.args.frame = c.ranges.frame in
    let one = simp to_z-of_z at c.is_for.ensures in
    let same = is ∙ sym c.rect.view_is in
    in_band band p c.args.clip c.args.frame c.rect.inside.y1 c.rect.inside.y2 a b d e (rw one at h) here then (ap (λ (r : Bounds). r.y1) same) (ap (λ (r : Bounds). r.y2) same)
