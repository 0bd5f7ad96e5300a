use Rattle.std.proofs.Common.{Bool, w64, FitsSigned, subst, rules, if◌then◌else◌}
use Rattle.std.proofs.lemmas.Int.{to_z-of_z}
use Rattle.fx_pixel.specs.Pixel.{greatest}
use Rattle.fx_image.specs.Part.{IsWritten}
use Rattle.fx_effect.specs.Given.{row_pixel}
use Rattle.fx_merge.specs.Keymix.{keyed}
use Rattle.fx_merge.proofs.keymix.KeymixImageEffect.render.Goals as goal

pub returns-clause-ok : goal.returns-clause-ok
returns-clause-ok c =
    let old = c.args.out.now in
    let v = c.args.values.now in
    let of = row_pixel c.args.inputs.now in
    let frame : FitsSigned w64 v.frame = search rules in
    let written = simp to_z-of_z at c.in_ok-mix.ensures.written in
    subst (λ (b : Bool). IsWritten old c.mix.new.out (λ x y. if b then keyed (greatest old.image.now.depth) (of 0 v.frame x y) (of 1 v.frame x y) (of 2 v.frame x y) else of 0 v.frame x y)) c.masked.ensures written
