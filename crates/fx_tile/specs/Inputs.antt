-- What a render reads: pieces that show what its needs are found to be.
use Rattle.std.specs.Prelude.{◌≡◌, ◌++◌, ℕ, ℤ, List, [], ◌∷◌, true}
use Rattle.fx_base.specs.Bounds.{Bounds}
use Rattle.fx_base.specs.Rect.{within}
use Rattle.fx_pixel.specs.declared.Depth.{Depth}
use Rattle.fx_pixel.specs.declared.Components.{Components}
use Rattle.fx_image.specs.Stored.{Stored}
use Rattle.fx_effect.specs.Given.{Given, GivenPiece, piece_pixel}
use Rattle.fx_effect.specs.declared.steps.Step.{Step}
use Rattle.fx_region.specs.declared.ends.Need.{Need}
use Rattle.fx_region.specs.Ends.{end_holds, end_pixel, end_shown}
use Rattle.fx_scene.specs.Nodes.{Nodes}

-- the piece of a region of an image
abbrev pub piece_of : ℕ → ℤ → Bounds → List Step → Stored → GivenPiece
piece_of c f region through image = record { clip = c; frame = f; rect = region; image = image; through = through }

-- the piece has the places of the need, and shows what is found there
pub record IsPieceOf (nodes : Nodes) (need : Need) (p : GivenPiece) : Type 0 where
  pub clip : p.clip ≡ need.clip
  pub frame : p.frame ≡ need.frame
  pub holds : (x y : ℤ) → within p.rect x y ≡ end_holds (end_shown need.end) x y
  pub pixels :
      (to : Depth) (c : Components) (x y : ℤ) → end_holds (end_shown need.end) x y ≡ true
      → piece_pixel to c p x y ≡ end_pixel nodes (end_shown need.end) to c x y

-- one for each need, in their order
abbrev pub ArePiecesOf : Nodes → List Need → List GivenPiece → Type 0
ArePiecesOf nodes [] [] = Unit {0}
ArePiecesOf nodes [] (p ∷ ps) = ⊥
ArePiecesOf nodes (n ∷ ns) [] = ⊥
ArePiecesOf nodes (n ∷ ns) (p ∷ ps) = IsPieceOf nodes n p × ArePiecesOf nodes ns ps

-- the piece of a need is added
pub record AddsPiece (nodes : Nodes) (need : Need) (old new : Given) : Type 0 where
  pub piece : GivenPiece
  pub is : IsPieceOf nodes need piece
  pub added : new ≡ record old { pieces = old.pieces ++ piece ∷ [] }

-- at a depth, with clips in these components, the pieces of these needs
pub record AreInputs (nodes : Nodes) (depth : Depth) (seen : List Components) (needs : List Need) (given : Given)
    : Type 0 where
  pub depth_is : given.depth ≡ depth
  pub seen_is : given.components ≡ seen
  pub pieces : ArePiecesOf nodes needs given.pieces
