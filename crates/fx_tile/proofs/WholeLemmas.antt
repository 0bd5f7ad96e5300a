-- The pixels of a picture that is put together from its bands.
use Rattle.std.proofs.Common.{◌≡◌, ℕ, ◌<◌, ℤ, List, length, false, get_or, refl, sym, ap, ◌∙◌, subst, inl, inr}
use Rattle.std.proofs.lemmas.Bool.{cases_Bool}
use Rattle.fx_base.specs.Bounds.{Bounds}
use Rattle.fx_base.specs.Rect.{Holds, within}
use Rattle.fx_pixel.specs.Pixel.{zero}
use Rattle.fx_image.specs.Image.{Image, SameImage, pixel_at}
use Rattle.fx_image.specs.Stored.{Stored, image_of, shown}
use Rattle.fx_image.specs.Bands.{AreWhole, ShowBands, band_rect, layout_of}
use Rattle.fx_image.specs.declared.layout.Layout.{Layout}

zero_outside : (image : Image) (x y : ℤ) → within image.rect x y ≡ false → pixel_at image x y ≡ zero image.components
zero_outside image x y misses = rw misses refl

module _ (l : Layout) (image : Stored) (bands : List Stored) (target : Image) (laid : layout_of image ≡ l) (whole : AreWhole l bands) (show : ShowBands image bands)
    (each : (k : ℕ) → k < length bands → (x y : ℤ) → Holds (band_rect l.rect l.band_rows k) x y → shown (get_or bands k image) x y ≡ pixel_at target x y) where
  place : image.rect ≡ l.rect
  place = ap (λ (m : Layout). m.rect) laid

  there : (x y : ℤ) → Holds l.rect x y → shown image x y ≡ pixel_at target x y
  there x y here =
      let band = whole.together x y here in
      let k = band.0 in
      let inside = subst (λ (m : Layout). Holds (band_rect m.rect m.band_rows k) x y) (sym laid) band.2 in
      sym (show k image band.1 x y inside) ∙ each k band.1 x y band.2

  pub whole_picture : l.rect ≡ target.rect → l.depth ≡ target.depth → l.components ≡ target.components → SameImage (image_of image) target
  whole_picture rect deep samples =
      let at = place ∙ rect in
      let same = ap (λ (m : Layout). m.components) laid ∙ samples in
      record {
        rect = at;
        depth = ap (λ (m : Layout). m.depth) laid ∙ deep;
        components = same;
        pixels = λ x y.
            elim (cases_Bool (within target.rect x y)) [
              | inl holds ↦ there x y (subst (λ (r : Bounds). Holds r x y) (sym rect) holds)
              | inr misses ↦
                  zero_outside (image_of image) x y (ap (λ (r : Bounds). within r x y) at ∙ misses) ∙ ap zero same ∙ sym (zero_outside target x y misses)
            ];
      }
