use Rattle.std.proofs.Common.{ℤ, subst, w64, FitsSigned, rules}
use Rattle.std.proofs.lemmas.Int.{to_z-of_z}
use Rattle.fx_image.specs.Part.{IsWritten}
use Rattle.fx_effect.specs.Tap.{tap}
use Rattle.fx_effect.specs.Given.{input_pixel}
use Rattle.fx_time.proofs.timeoffset.TimeoffsetImageEffect.render.Goals as goal

pub returns-clause-ok : goal.returns-clause-ok
returns-clause-ok c =
    let moment : FitsSigned w64 c.moment.result = search rules in
    let written = simp to_z-of_z at c.fill_points.ensures.written in
    subst (λ (t : ℤ). IsWritten c.args.out.now c.fill_points.new.out (λ x y. input_pixel c.args.inputs.now (tap 0 t x y))) c.moment.ensures written
