use Rattle.std.proofs.Common.{◌≡◌, ◌*◌, take, drop, ap, sym, ◌∙◌}
use Rattle.fx_base.specs.Rect.{columns}
use Rattle.fx_image.specs.Stored.{pixel_size}
use Rattle.fx_image.proofs.ImageLaws.{rows_shown}
use Rattle.fx_image.proofs.image.Image.of_rows.Goals as goal

pub returns-clause-pixels : goal.returns-clause-pixels
returns-clause-pixels c =
    let pitch = c.in_ok-rows.ensures.pitch in
    let wide : c.in_ok-rows.rows.pitch ≡ columns c.args.rect * pixel_size c.args.depth c.args.components = rw (c.columns_in.ensures.value, c.pixel_size.ensures.value) at pitch in
    rows_shown (record { rect = c.args.rect; depth = c.args.depth; components = c.args.components; raster = c.in_ok-rows.rows }) c.args.bytes.items wide
    (λ y low. c.in_ok-rows.ensures.rows y (rw c.rows_in.ensures.value low) ∙ ap (λ p. take p (drop (y * p) c.args.bytes.items)) (sym pitch))
