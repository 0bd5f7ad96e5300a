use Rattle.std.proofs.Common.{◌≡◌, ◌∙◌}
use Rattle.fx_pixel.specs.declared.Components.TheVariants.{Rgba as RgbaSamples}
use Rattle.fx_image.specs.Stored.{pixel_in}
use Rattle.fx_pam.specs.Reading.{header_with, depth_of, pixel_of}
use Rattle.fx_pam.proofs.RasterLemmas.{one-more}
use Rattle.fx_pam.proofs.raster.fill_pixels.Goals as goal

pub loop-c-preserved : goal.loop-c-preserved
loop-c-preserved c =
    let h = header_with c.args.numbers c.args.source.now in
    let there = rw (c.pixel_of.ensures.components, c.sample_depth-depth.ensures) at c.set_pixel.ensures.there in
    let others = rw (c.pixel_of.ensures.components, c.sample_depth-depth.ensures) at c.set_pixel.ensures.others in
    record {
      until = c.loop-c.invariant.until;
      deep = c.loop-c.invariant.deep;
      filled = one-more (λ k. pixel_in (depth_of h) RgbaSamples c.set_pixel.new.row k ≡ pixel_of h 0 k) c.loop-c.c (there ∙ c.pixel_of.ensures.value) (λ k other below. others k other ∙ c.loop-c.invariant.filled k below);
    }
