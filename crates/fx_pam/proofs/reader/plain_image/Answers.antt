use Rattle.std.proofs.Common.{◌≡◌, ◌<◌, ℕ, ◌*◌, ◌+◌, pos, List, sym, ap, subst, ◌∙◌, arith}
use Rattle.std.specs.Int.{int_gap}
use Rattle.std.proofs.lemmas.Int.{ints}
use Rattle.fx_base.specs.Bounds.{Bounds}
use Rattle.fx_base.specs.Rect.{Holds, columns, rows}
use Rattle.fx_pixel.specs.declared.Components.TheVariants as components
use Rattle.fx_pixel.specs.declared.Depth.{Depth}
use Rattle.fx_image.specs.Stored.{Stored, image_of, pixel_in, pixel_size}
use Rattle.fx_image.specs.Runs.{ShowsRows}
use Rattle.fx_image.proofs.ImageLaws.{gap_is, place_from}
use Rattle.fx_pam.specs.Reading.{Header, header_with, depth_of}
use Rattle.fx_pam.specs.Raster.{IsPlain, IsImageOf, RiseTo, row_length}
use Rattle.fx_pam.proofs.FileImage.{gap_none}
use Rattle.fx_pam.proofs.RasterLemmas.{plain-row}
use Rattle.fx_pam.proofs.reader.plain_image.Goals as goal

-- the rectangle of a raster's image
abbrev frame : Header → Bounds
frame h = record { x1 = pos 0; y1 = pos 0; x2 = pos h.width; y2 = pos h.height }

long_rows : (h : Header) (rect : Bounds) (depth : Depth) (n : ℕ) → IsPlain h → rect ≡ frame h → depth ≡ depth_of h → n ≡ h.height * row_length h
    → n ≡ rows rect * (columns rect * pixel_size depth components.Rgba)
long_rows h rect depth n plain same deep long =
    long
    ∙ ap (λ k. h.height * k) (plain-row h plain)
    ∙ sym (
    ap (λ r. rows r * (columns r * pixel_size depth components.Rgba)) same
    ∙ ap (λ d. rows (frame h) * (columns (frame h) * pixel_size d components.Rgba)) deep
    ∙ ap (λ k. k * (columns (frame h) * pixel_size (depth_of h) components.Rgba)) (gap_none h.height)
    ∙ ap (λ k. h.height * (k * pixel_size (depth_of h) components.Rgba)) (gap_none h.width)
    )

-- rows that rise are the image's
risen_image : (h : Header) (s : Stored) (bytes : List ℕ) → s.rect ≡ frame h → s.depth ≡ depth_of h → s.components ≡ components.Rgba → ShowsRows s bytes → RiseTo h h.height bytes → IsImageOf h (image_of s)
risen_image h s bytes same deep four shows risen = record {
  rect = same;
  depth = deep;
  components = four;
  pixels = λ x y inside.
      let place = place_from (frame h) x y (subst (λ r. Holds r x y) same inside) in
      let column : int_gap (pos 0) x < h.width = omega (arith, ints, gap_is (pos 0) x place.left, place.right) in
      let row : int_gap (pos 0) y < h.height = omega (arith, ints, gap_is (pos 0) y place.bottom, place.top) in
      shows x y inside
      ∙ ap (λ r. pixel_in s.depth s.components bytes (int_gap r.y1 y * columns r + int_gap r.x1 x)) same
      ∙ ap (λ d. pixel_in d s.components bytes (int_gap (pos 0) y * columns (frame h) + int_gap (pos 0) x)) deep
      ∙ ap (λ k. pixel_in (depth_of h) k bytes (int_gap (pos 0) y * columns (frame h) + int_gap (pos 0) x)) four
      ∙ ap (λ n. pixel_in (depth_of h) components.Rgba bytes (int_gap (pos 0) y * n + int_gap (pos 0) x)) (gap_none h.width)
      ∙ risen (int_gap (pos 0) y) (int_gap (pos 0) x) row column;
}

pub of_rows-requires-clause-long : goal.of_rows-requires-clause-long
of_rows-requires-clause-long c =
    long_rows (header_with c.args.numbers c.args.raster.now) c.rect_of-rect.result c.sample_depth-depth.result _ c.requires.plain c.rect_of-rect.ensures c.sample_depth-depth.ensures c.in_ok-rows.ensures.len

pub returns-clause-image : goal.returns-clause-image
returns-clause-image c =
    risen_image (header_with c.args.numbers c.args.raster.now) c.in_ok-of_rows.field-0 c.in_ok-rows.rows.items
    (c.in_ok-of_rows.ensures.rect ∙ c.rect_of-rect.ensures) (c.in_ok-of_rows.ensures.depth ∙ c.sample_depth-depth.ensures) c.in_ok-of_rows.ensures.components c.in_ok-of_rows.ensures.pixels c.in_ok-rows.ensures.rows
