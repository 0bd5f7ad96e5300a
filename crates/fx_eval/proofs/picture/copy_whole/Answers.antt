use Rattle.std.proofs.Common.{◌∙◌, w64, subst, rules}
use Rattle.std.proofs.lemmas.Int.{to_z-of_z}
use mir.Val.{SFits}
use Rattle.fx_effect.specs.Given.{row_pixel}
use Rattle.fx_image.specs.Stored.{Stored}
use Rattle.fx_life.specs.Filled.{IsFilled}
use Rattle.fx_life.proofs.Filling.{written_filled}
use Rattle.fx_eval.proofs.picture.copy_whole.Goals as goal

pub returns : goal.returns
returns c =
    let fits : SFits w64 c.args.frame = c.ranges.frame in
    subst (λ (t : Stored). IsFilled c.args.image.now t (row_pixel c.args.inputs.now 0 c.args.frame)) (search rules)
    (written_filled c.args.image.now c.part-part.result c.copy_frame.new.out (row_pixel c.args.inputs.now 0 c.args.frame) c.part-part.ensures.value (c.part-part.ensures.rect ∙ c.rect-window.ensures) (simp to_z-of_z at c.copy_frame.ensures))
