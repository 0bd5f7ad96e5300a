-- What an effect may read: pieces that stand for a clip at a frame, all shown at one depth and each clip with its
-- components.
use Rattle.std.specs.Prelude.{◌≡◌, ◌<◌, ℕ, ℤ, Bool, true, false, ◌&&◌, List, [], ◌∷◌, length, nat_eq, slice_index_or, if◌then◌else◌, All}
use Rattle.std.specs.Ordering.{int_eq}
use Rattle.fx_base.specs.Bounds.{Bounds}
use Rattle.fx_base.specs.Rect.{within}
use Rattle.fx_pixel.specs.declared.Depth.{Depth}
use Rattle.fx_pixel.specs.declared.Components.{Components}
use Rattle.fx_pixel.specs.declared.Components.TheVariants as components
use Rattle.fx_pixel.specs.declared.Pixel.{Pixel}
use Rattle.fx_pixel.specs.Pixel.{zero, convert, components_of, IsOfDepth}
use Rattle.fx_image.specs.Stored.{Stored, shown}
use Rattle.fx_effect.specs.declared.steps.Step.{Step}
use Rattle.fx_effect.specs.Tap.{Tap, tap}

-- a rectangle of an image that stands for a clip at a frame, and what its pixels go through
pub record GivenPiece : Type 0 where
  pub clip : ℕ
  pub frame : ℤ
  pub rect : Bounds
  pub image : Stored
  pub through : List Step

-- the depth and the components that the effect sees of each clip, and the pieces
pub record Given : Type 0 where
  pub depth : Depth
  pub components : List Components
  pub pieces : List GivenPiece

-- a pixel after each conversion in order, and a last one
abbrev pub converted : Depth → List Step → Depth → Components → Pixel → Pixel
converted from [] to c p = convert from to c p
converted from (s ∷ steps) to c p = converted s.depth steps to c (convert from s.depth s.components p)

-- each of the conversions leaves pixels of this depth and these components as they are
abbrev pub Keep : Depth → Components → List Step → Type 0
Keep d c steps = All (λ s. (s.depth ≡ d) × (s.components ≡ c)) steps

-- of pixels of this depth and these components, they and a last one make what the last one alone makes
abbrev pub AreOne : Depth → Components → Depth → Components → List Step → Type 0
AreOne from seen to c steps = (p : Pixel) → components_of p ≡ seen → converted from steps to c p ≡ convert from to c p

-- whether the piece stands for this clip at this frame
abbrev pub is_for : GivenPiece → ℕ → ℤ → Bool
is_for s clip frame = nat_eq s.clip clip && int_eq s.frame frame

-- whether the piece has the place that the tap reads
abbrev pub holds_tap : GivenPiece → Tap → Bool
holds_tap s t = is_for s t.clip t.frame && within s.rect t.x t.y

-- the pixel of an image at a place, after these conversions and a last one
abbrev pub image_pixel : Depth → Components → Stored → List Step → ℤ → ℤ → Pixel
image_pixel depth c image through x y = converted image.depth through depth c (shown image x y)

-- the pixel of a piece at a place
abbrev pub piece_pixel : Depth → Components → GivenPiece → ℤ → ℤ → Pixel
piece_pixel depth c s x y = image_pixel depth c s.image s.through x y

-- the pixel of the first piece that has the place, and zero where none has
abbrev pub first_pixel : Depth → Components → List GivenPiece → Tap → Pixel
first_pixel depth c [] t = zero c
first_pixel depth c (s ∷ pieces) t =
    if holds_tap s t then piece_pixel depth c s t.x t.y else first_pixel depth c pieces t

-- the same of a clip at a frame, by the column and the row
abbrev pub pieces_pixel : Depth → Components → List GivenPiece → ℕ → ℤ → ℤ → ℤ → Pixel
pieces_pixel depth c pieces clip frame x y = first_pixel depth c pieces (tap clip frame x y)

-- whether a piece has the place
abbrev pub any_holds : List GivenPiece → Tap → Bool
any_holds [] t = false
any_holds (s ∷ pieces) t = if holds_tap s t then true else any_holds pieces t

-- the pixel of the first piece that has the place, and the one that was there where none has
abbrev pub pixel_over : Depth → Components → List GivenPiece → Tap → Pixel → Pixel
pixel_over depth c [] t was = was
pixel_over depth c (s ∷ pieces) t was =
    if holds_tap s t then piece_pixel depth c s t.x t.y else pixel_over depth c pieces t was

-- the components of a clip
abbrev pub clip_components : Given → ℕ → Components
clip_components given clip = slice_index_or given.components clip components.Rgba

-- the pixel that a tap reads
abbrev pub input_pixel : Given → Tap → Pixel
input_pixel given t = first_pixel given.depth (clip_components given t.clip) given.pieces t

-- the pixel of a clip at a frame, by the column and the row
abbrev pub row_pixel : Given → ℕ → ℤ → ℤ → ℤ → Pixel
row_pixel given clip frame x y = input_pixel given (tap clip frame x y)

-- the clip is there, and seen at this depth and in these components
pub record ShowsClip (given : Given) (clip : ℕ) (depth : Depth) (c : Components) : Type 0 where
  pub there : clip < length given.components
  pub depth_is : given.depth ≡ depth
  pub components_are : clip_components given clip ≡ c

-- every pixel that is read is of the depth, and of the components of its clip
pub record PixelsFit (given : Given) : Type 0 where
  pub depth : (t : Tap) → IsOfDepth given.depth (input_pixel given t)
  pub components : (t : Tap) → components_of (input_pixel given t) ≡ clip_components given t.clip
