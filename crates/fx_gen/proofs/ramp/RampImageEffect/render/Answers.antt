use Rattle.std.proofs.Common.{ap, if◌then◌else◌}
use Rattle.fx_base.specs.Rect.{within}
use Rattle.fx_pixel.specs.Pixel.{greatest, zero as clear}
use Rattle.fx_gen.specs.Grey.{grey}
use Rattle.fx_gen.proofs.Written.{written_as}
use Rattle.fx_gen.proofs.ramp.RampImageEffect.render.Goals as goal

pub returns-clause-ok : goal.returns-clause-ok
returns-clause-ok c =
    let image = c.args.out.now.image.now in
    let m = greatest image.depth in
    written_as c.args.out.now c.fill_places.new.out _ _ c.fill_places.ensures.written
    (λ x y.
    ap (λ n. if within c.args.values.now.project x y then grey image.components m n else clear image.components)
    (c.along.ensures.shade m x y))
