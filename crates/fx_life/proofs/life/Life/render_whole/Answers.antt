use Rattle.std.proofs.Common.{rules, ◌∙◌, subst}
use Rattle.std.proofs.lemmas.Result.{on_ok_weaker}
use Rattle.fx_image.specs.Stored.{Stored}
use Rattle.fx_effect.specs.Meaning.{rendered}
use Rattle.fx_life.specs.Filled.{IsFilled}
use Rattle.fx_life.proofs.Filling.{written_filled}
use Rattle.fx_life.proofs.life.Life.render_whole.Goals as goal

pub returns-clause-filled : goal.returns-clause-filled
returns-clause-filled g c effect plays =
    let image = c.args.image.now in
    let f = rendered (g.E.ImageEffect.meaning effect) c.args.values.now c.args.inputs.now in
    let is = c.part-part.ensures.value in
    let part = c.part-part.result.image.now in
    on_ok_weaker c.render.result (λ written.
    subst (λ (t : Stored). IsFilled image t (f image.depth image.components)) (search rules)
    (subst (λ (s : Stored). IsFilled image c.render.new.out.image.now (f s.depth s.components)) is
    (written_filled image c.part-part.result c.render.new.out (f part.depth part.components) is (c.part-part.ensures.rect ∙ c.rect.ensures) written)))
    (c.render.ensures.ok effect plays)
