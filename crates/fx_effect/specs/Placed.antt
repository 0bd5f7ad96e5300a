-- Pieces, as contracts see them.
use Rattle.std.specs.Prelude.{◌≡◌, ◌&&◌, ℕ, ◌*◌, ℤ, ◌≤ℤ◌, ◌<ℤ◌, List, length}
use Rattle.std.specs.List.{All}
use Rattle.std.specs.Arc.{arc_value}
use Rattle.fx_base.specs.Bounds.{Bounds}
use Rattle.fx_base.specs.Rect.{IsWithin, within, columns}
use Rattle.fx_pixel.specs.declared.Depth.{Depth}
use Rattle.fx_pixel.specs.declared.Components.{Components}
use Rattle.fx_pixel.specs.declared.Pixel.{Pixel}
use Rattle.fx_image.specs.Image.{PixelsFit}
use Rattle.fx_image.specs.Stored.{Stored, image_of, pixel_size}
use Rattle.fx_image.specs.View.{IsView}
use Rattle.fx_effect.specs.Given.{GivenPiece}
use Rattle.fx_effect.specs.Rows.{ShowsRow}
use Rattle.fx_effect.specs.declared.steps.Step.{Step}
use Rattle.fx_effect.specs.declared.piece.Piece.{Piece}
use Rattle.fx_effect.specs.declared.piece.Piece.TheVariants.{Frame, Tile}
use Rattle.fx_effect.specs.declared.piece.Placed.{Placed}

-- of a shared image it is the cut
abbrev pub piece_rect : Piece → Bounds
piece_rect (Frame view through) = view.rect
piece_rect (Tile image cut through) = cut

abbrev pub piece_image : Piece → Stored
piece_image (Frame view through) = view.image.now
piece_image (Tile image cut through) = arc_value image

abbrev pub piece_steps : Piece → List Step
piece_steps (Frame view through) = through
piece_steps (Tile image cut through) = through

-- the cut lies in a shared image, whose pixels are of its depth and components
pub record IsCutOf (image : Stored) (cut : Bounds) : Type 0 where
  pub within : IsWithin cut image.rect
  pub fit : PixelsFit (image_of image)

-- its rectangle lies in its image, whose pixels are of its depth and components
abbrev pub IsPiece : Piece → Type 0
IsPiece (Frame view through) = IsView view
IsPiece (Tile image cut through) = IsCutOf (arc_value image) cut

-- the piece, where it stands for a clip at a frame
abbrev pub piece_at : ℕ → ℤ → Piece → GivenPiece
piece_at clip frame piece =
    record {
      clip = clip;
      frame = frame;
      rect = piece_rect piece;
      image = piece_image piece;
      through = piece_steps piece;
    }

abbrev pub given_piece : Placed → GivenPiece
given_piece p = piece_at p.clip p.frame p.piece

-- the first rectangle has the whole of row y of the second
pub record CoversRow (have rect : Bounds) (y : ℤ) : Type 0 where
  pub left : have.x1 ≤ℤ rect.x1
  pub wide : rect.x1 ≤ℤ rect.x2
  pub right : rect.x2 ≤ℤ have.x2
  pub bottom : have.y1 ≤ℤ y
  pub top : y <ℤ have.y2

-- The first rectangle has the whole of row y of the second, and the bytes show these pixels there.
pub record IsPieceRow (depth : Depth) (c : Components) (have rect : Bounds) (y : ℤ) (f : ℤ → ℤ → Pixel)
    (bytes : List ℕ) : Type 0 where
  pub covers : CoversRow have rect y
  pub long : length bytes ≡ columns rect * pixel_size depth c
  pub pixels : ShowsRow depth c rect y f bytes

-- each of the pieces lies in its image
abbrev pub ArePlaced : List Placed → Type 0
ArePlaced pieces = All (λ p. IsPiece p.piece) pieces

-- Row y of the rectangle that both have: the first covers it, and it lies in the second.
pub record IsBothRow (have rect both : Bounds) (y : ℤ) : Type 0 where
  pub places : (x y' : ℤ) → within both x y' ≡ (within have x y' && within rect x y')
  pub covers : CoversRow have both y
  pub left : rect.x1 ≤ℤ both.x1
  pub wide : both.x1 <ℤ both.x2
  pub right : both.x2 ≤ℤ rect.x2
  pub bottom : both.y1 ≤ℤ y
  pub top : y <ℤ both.y2
