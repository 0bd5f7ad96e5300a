-- Pixels that inputs show are of the depth and the components that are asked for.
use Rattle.std.proofs.Common.{◌≡◌, Bool, true, false, List, [], ◌∷◌, map, suc, refl, arith}
use Rattle.fx_pixel.specs.declared.Depth.{Depth}
use Rattle.fx_pixel.specs.declared.Components.{Components}
use Rattle.fx_pixel.specs.declared.Pixel.{Pixel}
use Rattle.fx_pixel.specs.Pixel.{components_of, IsOfDepth, convert}
use Rattle.fx_pixel.specs.PixelLaws.{convert_form, zero_form}
use Rattle.fx_image.specs.Image.{PixelsFit}
use Rattle.fx_image.specs.Stored.{image_of}
use Rattle.fx_effect.specs.Tap.{Tap}
use Rattle.fx_effect.specs.Given.{converted, first_pixel, holds_tap}
use Rattle.fx_effect.specs.Placed.{given_piece, IsPiece, piece_image, ArePlaced}
use Rattle.fx_effect.specs.declared.steps.Step.{Step}
use Rattle.fx_effect.specs.declared.piece.Piece.{Piece}
use Rattle.fx_effect.specs.declared.piece.Piece.TheVariants.{Frame, Tile}
use Rattle.fx_effect.specs.declared.piece.Placed.{Placed}

abbrev Fits : Depth → Components → Pixel → Type 0
Fits depth c p = IsOfDepth depth p × (components_of p ≡ c)

converted_fits : (from : Depth) (through : List Step) (depth : Depth) (c : Components) (p : Pixel) → IsOfDepth from p → Fits depth c (converted from through depth c p)
converted_fits from [] depth c p is = convert_form from depth c p is
converted_fits from (s ∷ through) depth c p is = converted_fits s.depth through depth c (convert from s.depth s.components p) (convert_form from s.depth s.components p is).0

image_fits : (piece : Piece) → IsPiece piece → PixelsFit (image_of (piece_image piece))
image_fits (Frame view through) is = is.fit
image_fits (Tile image cut through) is = is.fit

first_of : (p : Placed) (pieces : List Placed) (depth : Depth) (c : Components) (t : Tap) → IsPiece p.piece → Fits depth c (first_pixel depth c (map given_piece pieces) t) → (b : Bool) → holds_tap (given_piece p) t ≡ b → Fits depth c (first_pixel depth c (map given_piece (p ∷ pieces)) t)
first_of p pieces depth c t is rest true has = rw has (converted_fits (piece_image p.piece).depth (given_piece p).through depth c _ ((image_fits p.piece is).depth t.x t.y))
first_of p pieces depth c t is rest false has = rw has rest

pub first_fits : (pieces : List Placed) (depth : Depth) (c : Components) (t : Tap) → ArePlaced pieces → Fits depth c (first_pixel depth c (map given_piece pieces) t)
first_fits [] depth c t are = zero_form depth c
first_fits (p ∷ pieces) depth c t are =
    first_of p pieces depth c t (are 0 p (omega arith)) (first_fits pieces depth c t (λ k d low. are (suc k) d (omega arith))) (holds_tap (given_piece p) t) refl
