use Rattle.std.proofs.Common.{ℕ, suc, map, subst, w64, FitsSigned, rules}
use Rattle.std.proofs.lemmas.Int.{to_z-of_z}
use Rattle.fx_image.specs.Part.{IsWritten}
use Rattle.fx_effect.specs.Given.{input_pixel}
use Rattle.fx_effect.specs.Local.{own_taps}
use Rattle.fx_time.specs.Times.{source_at}
use Rattle.fx_time.specs.Echo.{echoed, moments, count}
use Rattle.fx_time.proofs.echo.EchoImageEffect.render.Goals as goal

pub returns-clause-ok : goal.returns-clause-ok
returns-clause-ok c =
    let old = c.args.out.now in
    let v = c.args.values.now in
    let given = c.args.inputs.now in
    let k = old.image.now.components in
    let fits : FitsSigned w64 v.frame = search rules in
    let written = simp to_z-of_z at c.fill_with.ensures.written in
    subst (λ (n : ℕ). IsWritten old c.fill_with.new.out (λ x y. echoed (count v) k (map (input_pixel given) (own_taps (map source_at (moments v.frame n (suc (count v)))) x y)))) c.gap.ensures.value
    (subst (λ (n : ℕ). IsWritten old c.fill_with.new.out (λ x y. echoed n k (map (input_pixel given) (own_taps (map source_at (moments v.frame c.gap.result (suc n))) x y)))) c.count.ensures.value written)
