use Rattle.std.proofs.Common.{ℕ, subst, w64, FitsSigned, rules}
use Rattle.std.proofs.lemmas.Int.{to_z-of_z}
use Rattle.fx_image.specs.Part.{IsWritten}
use Rattle.fx_effect.specs.Given.{row_pixel}
use Rattle.fx_trans.specs.Dissolve.{dissolved}
use Rattle.fx_trans.proofs.dissolve.DissolveImageEffect.render.Goals as goal

pub returns-clause-ok : goal.returns-clause-ok
returns-clause-ok c =
    let old = c.args.out.now in
    let of = row_pixel c.args.inputs.now in
    let t = c.args.values.now.frame in
    let fits : FitsSigned w64 c.args.values.now.frame = search rules in
    let written = simp to_z-of_z at c.fill_with.ensures.written in
    subst (λ (n : ℕ). IsWritten old c.fill_with.new.out (λ x y. dissolved n old.image.now.components (of 0 t x y) (of 1 t x y))) c.level.ensures.value written
