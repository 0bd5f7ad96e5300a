use Rattle.std.proofs.Common.{◌≡◌, ◌<◌, ℕ}
use Rattle.fx_pixel.specs.declared.Components.TheVariants.{Rgba as RgbaSamples}
use Rattle.fx_image.specs.Stored.{pixel_in}
use Rattle.fx_pam.specs.Reading.{header_with, depth_of, pixel_of}
use Rattle.fx_pam.proofs.raster.fill_pixels.Given as goal

abbrev pub invariant-loop-c : goal.invariant-loop-c
invariant-loop-c l =
    let h = header_with l.numbers l.source in
    record {
      until : l.c-end ≡ l.numbers.width;
      deep : l.depth ≡ depth_of h;
      filled : (k : ℕ) → k < l.c → pixel_in (depth_of h) RgbaSamples l.row k ≡ pixel_of h 0 k;
    }
