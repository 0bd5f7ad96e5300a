use Rattle.std.proofs.Common.{w64, FitsSigned, rules, arith, ◌<◌, ◌∙◌}
use Rattle.std.proofs.lemmas.Int.{to_z-of_z, to_z_pos}
use Rattle.fx_pixel.specs.Pixel.{greatest}
use Rattle.fx_gen.proofs.Shades.{shade_of}
use Rattle.fx_gen.proofs.ramp.Shading.shade.Goals as goal

pub returns-clause-value : goal.returns-clause-value
returns-clause-value c =
    let self = c.args.self.now in
    let place = c.ranges.place in
    let near : FitsSigned w64 c.clamp-place.result = search rules in
    let few : self.last < 9223372036854775808 = omega arith in
    let value = rw (c.from.ensures, c.greatest.ensures) at (simp to_z-of_z at c.sample.ensures.value) in
    let brought = simp (to_z-of_z, to_z_pos w64 self.last few) at c.clamp-place.ensures.value in
    value
    ∙ shade_of (greatest c.args.depth) self.last self.mean c.args.place c.clamp-place.result c.requires.count_is brought
