use Rattle.std.proofs.Common.{subst}
use Rattle.fx_image.specs.Image.{PixelsFit}
use Rattle.fx_image.specs.Stored.{Stored, image_of}
use Rattle.fx_image.proofs.ImageLaws.{all_fit}
use Rattle.fx_image.proofs.image.Image.pixels_fit.Goals as goal

pub returns : goal.returns
returns c =
    subst (λ (s : Stored). PixelsFit (image_of s)) c.self.view_is
    (all_fit (record { rect = c.self.inside.rect; depth = c.self.inside.depth; components = c.self.inside.components; raster = c.self.inside.rows }) c.are_bytes.ensures)
