use Rattle.std.proofs.Common.{ap, sym, replicate, ◌∙◌}
use Rattle.fx_image.proofs.ImageLaws.{zeros_shown}
use Rattle.fx_image.proofs.image.Image.in_bands.Goals as goal

pub returns-clause-zero : goal.returns-clause-zero
returns-clause-zero c =
    zeros_shown (record { rect = c.args.layout.now.rect; depth = c.args.layout.now.depth; components = c.args.layout.now.components; raster = c.in_ok-rows.rows })
    (λ y low. c.in_ok-rows.ensures.zero y (rw c.rows_in.ensures.value low) ∙ ap (λ n. replicate n 0) (sym c.in_ok-rows.ensures.pitch))
