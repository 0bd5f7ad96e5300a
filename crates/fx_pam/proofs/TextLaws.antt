-- Images that are the same have the same text.
use Rattle.std.proofs.Common.{◌≡◌, ℕ, zero, suc, ◌+◌, ℤ, pos, ◌+ℤ◌, ◌-ℤ◌, ◌++◌, refl, ap, ◌∙◌}
use Rattle.fx_base.specs.Bounds.{Bounds}
use Rattle.fx_base.specs.Rect.{columns, rows}
use Rattle.fx_pixel.specs.declared.Depth.{Depth}
use Rattle.fx_pixel.specs.declared.Format.{Format}
use Rattle.fx_pixel.specs.declared.Pixel.{Pixel}
use Rattle.fx_pixel.specs.Pixel.{greatest}
use Rattle.fx_image.specs.Image.{Image, pixel_at, SameImage}
use Rattle.fx_pam.specs.Text.{samples_of, sample_bytes, header, row_bytes, raster, pam_text}

row-same : (format : Format) (a b : Image) (y : ℤ) (n : ℕ) → SameImage a b → row_bytes format a y n ≡ row_bytes format b y n
row-same format a b y zero is = refl
row-same format a b y (suc n) is =
    ap (λ bytes. bytes ++ sample_bytes a.depth (samples_of format (pixel_at a (a.rect.x1 +ℤ pos n) y))) (row-same format a b y n is)
    ∙ ap (λ (depth : Depth). row_bytes format b y n ++ sample_bytes depth (samples_of format (pixel_at a (a.rect.x1 +ℤ pos n) y))) is.depth
    ∙ ap (λ (p : Pixel). row_bytes format b y n ++ sample_bytes b.depth (samples_of format p)) (is.pixels (a.rect.x1 +ℤ pos n) y)
    ∙ ap (λ (r : Bounds). row_bytes format b y n ++ sample_bytes b.depth (samples_of format (pixel_at b (r.x1 +ℤ pos n) y))) is.rect

raster-same : (format : Format) (a b : Image) (n : ℕ) → SameImage a b → raster format a n ≡ raster format b n
raster-same format a b zero is = refl
raster-same format a b (suc n) is =
    ap (λ bytes. bytes ++ row_bytes format a (a.rect.y2 -ℤ pos (n + 1)) (columns a.rect)) (raster-same format a b n is)
    ∙ ap (λ bytes. raster format b n ++ bytes) (row-same format a b (a.rect.y2 -ℤ pos (n + 1)) (columns a.rect) is)
    ∙ ap (λ (r : Bounds). raster format b n ++ row_bytes format b (r.y2 -ℤ pos (n + 1)) (columns r)) is.rect

pub text-same : (format : Format) (a b : Image) → SameImage a b → pam_text format a ≡ pam_text format b
text-same format a b is =
    ap (λ bytes. header (columns a.rect) (rows a.rect) format (greatest a.depth) ++ bytes) (raster-same format a b (rows a.rect) is)
    ∙ ap (λ (depth : Depth). header (columns a.rect) (rows a.rect) format (greatest depth) ++ raster format b (rows a.rect)) is.depth
    ∙ ap (λ (r : Bounds). header (columns r) (rows r) format (greatest b.depth) ++ raster format b (rows r)) is.rect
