-- The frames that are made of a number, as images of 320 by 240 pixels.
use Rattle.std.specs.Prelude.{◌≡◌, ℕ, ◌+◌, ◌-◌, ◌*◌, ◌%◌, pos}
use Rattle.std.specs.Int.{int_gap}
use Rattle.fx_pixel.specs.declared.Depth.TheVariants.{Byte}
use Rattle.fx_pixel.specs.declared.Components.TheVariants as components
use Rattle.fx_pixel.specs.declared.Format.TheVariants.{RgbAlpha}
use Rattle.fx_pixel.specs.declared.Pixel.{Pixel}
use Rattle.fx_pixel.specs.declared.Pixel.TheVariants.{Rgba}
use Rattle.fx_image.specs.Image.{Image}
use Rattle.fx_pam.specs.Text.{pam_text}
use Rattle.fx_pam.specs.Reading.{IsPam}
use Rattle.fx_bench.specs.Generator.{state, draw}
use Rattle.fx_bench.specs.Frames.{frame_samples, frame_text}
use Rattle.fx_base.specs.declared.limits.TheConstants.{MOST_SIDE}

-- sample k of frame f, from 1
abbrev pub made_sample : ℕ → ℕ → ℕ → ℕ
made_sample number f k = draw (state number (f * frame_samples)) k % 256

-- the pixel in column x of the row at y: four samples, in the order of the raster
abbrev pub made_pixel : ℕ → ℕ → ℕ → ℕ → Pixel
made_pixel number f x y =
    let i = (239 - y) * 1280 + 4 * x in
    let s = made_sample number f in
    Rgba (s (i + 1)) (s (i + 2)) (s (i + 3)) (s (i + 4))

abbrev pub made_image : ℕ → ℕ → Image
made_image number f =
    record {
      rect = record { x1 = pos 0; y1 = pos 0; x2 = pos 320; y2 = pos 240 };
      depth = Byte;
      components = components.Rgba;
      pixel = λ x y. made_pixel number f (int_gap (pos 0) x) (int_gap (pos 0) y);
    }

-- each frame is the text of its image, and is read as that image
abbrev pub FramesArePam : Type 0
FramesArePam =
    (number f : ℕ) → (frame_text number f ≡ pam_text RgbAlpha (made_image number f))
    × IsPam (frame_text number f) MOST_SIDE (made_image number f)
