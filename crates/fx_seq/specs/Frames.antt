-- Source frames, and which image each has.
use Rattle.std.specs.Prelude.{◌≡◌, ℕ, ℤ, pos, ◌≤ℤ◌, List, Option, Some, None, Contains}
use Rattle.fx_base.specs.declared.limits.TheConstants.{MOST_SIDE}
use Rattle.std.proofs.Props.{props}
use Rattle.fx_base.specs.Rect.{columns, rows}
use Rattle.fx_pixel.specs.declared.Components.TheVariants as components
use Rattle.fx_pixel.specs.declared.Depth.{Depth}
use Rattle.fx_pixel.specs.declared.Pixel.{Pixel}
use Rattle.fx_pixel.specs.declared.Pixel.TheVariants.{Rgba, Alpha}
use Rattle.fx_pixel.specs.Pixel.{IsOfDepth}
use Rattle.fx_image.specs.Image.{Image, PixelsFit}
use Rattle.fx_image.specs.Stored.{Stored, image_of}
use Rattle.fx_image.specs.Runs.{row_size}
use Rattle.fx_outside.specs.Outside.{Files}
use Rattle.fx_pam.specs.Reading.{IsPam}
use Rattle.fx_seq.specs.declared.wanted.Wanted.{Wanted}
use Rattle.fx_seq.specs.Filling.{frame_size}

-- the images of frames by their nodes and frames
abbrev pub Frames : Type 0
Frames = ℕ → ℤ → Option Stored

-- how many bytes the image's pixels have, with 4 samples each
abbrev pub image_size : Stored → ℕ
image_size image = frame_size (columns image.rect) (rows image.rect) image.depth

-- a side from 0 on, of 1 up to 8192
pub record IsSide (low high : ℤ) : Type 0 where
  pub from_zero : low ≡ pos 0
  pub some : pos 1 ≤ℤ high
  pub most : high ≤ℤ pos MOST_SIDE

-- a source's frame: RGBA from (0, 0) with such sides, its rows no wider than their pixels, and its pixels of its depth
pub record IsSourceFrame (image : Stored) : Type 0 where
  pub wide : IsSide image.rect.x1 image.rect.x2
  pub high : IsSide image.rect.y1 image.rect.y2
  pub components : image.components ≡ components.Rgba
  pub narrow : image.raster.pitch ≡ row_size image image.rect
  pub fit : PixelsFit (image_of image)

-- each frame is a source's frame
abbrev pub AreSound : Frames → Type 0
AreSound frames = (node : ℕ) (frame : ℤ) (image : Stored) → frames node frame ≡ Some image → IsSourceFrame image

-- each frame that the first has, the second has with the same image
abbrev pub AreAmong : Frames → Frames → Type 0
AreAmong these those =
    (node : ℕ) (frame : ℤ) (image : Stored) → these node frame ≡ Some image → those node frame ≡ Some image

-- each of these facts holds in one way
pixel_once : (depth : Depth) (p : Pixel) → IsProp (IsOfDepth depth p)
pixel_once depth (Rgba r g b a) = hlevel props
pixel_once depth (Alpha a) = hlevel props

fit_once : (image : Image) → IsProp (PixelsFit image)
fit_once image = hlevel (props, pixel_once)

pub frame_once : (image : Stored) → IsProp (IsSourceFrame image)
frame_once image = hlevel (props, fit_once)

pub sound_once : (frames : Frames) → IsProp (AreSound frames)
sound_once frames = hlevel (props, frame_once)

pub among_once : (these those : Frames) → IsProp (AreAmong these those)
among_once these those = hlevel props

-- the bytes under a name are a file of this image
pub record IsPicture (files : Files) (side : ℕ) (name : List ℕ) (image : Stored) : Type 0 where
  pub bytes : List ℕ
  pub under : files name ≡ Some bytes
  pub reads : IsPam bytes side (image_of image)

-- each wanted frame has the image of its file
abbrev pub HoldsPictures : Files → ℕ → List Wanted → Frames → Type 0
HoldsPictures files side wanted frames =
    (w : Wanted) → Contains wanted w
    → (image : Stored) × (frames w.node w.frame ≡ Some image) × IsPicture files side w.name image

-- no frame has an image but the wanted ones
abbrev pub HoldsOnly : List Wanted → Frames → Type 0
HoldsOnly wanted frames =
    (node : ℕ) (frame : ℤ) → ((w : Wanted) → Contains wanted w → w.node ≡ node → w.frame ≡ frame → ⊥)
    → frames node frame ≡ None
