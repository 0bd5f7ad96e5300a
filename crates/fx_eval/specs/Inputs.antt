-- What a render reads: pieces that show the nodes of its clips.
use Rattle.std.specs.Prelude.{◌≡◌, ◌<◌, ◌++◌, ◌||◌, ℕ, ℤ, List, [], ◌∷◌, Option, Some, None, Bool, true, false, All}
use Rattle.std.specs.BTreeMap.{BTreeMap}
use Rattle.fx_base.specs.Rect.{Holds}
use Rattle.fx_pixel.specs.declared.Depth.{Depth}
use Rattle.fx_pixel.specs.declared.Components.{Components}
use Rattle.fx_pixel.specs.Pixel.{convert}
use Rattle.fx_image.specs.Stored.{Stored}
use Rattle.fx_effect.specs.Given.{Given, GivenPiece, piece_pixel, holds_tap}
use Rattle.fx_effect.specs.Tap.{tap}
use Rattle.fx_effect.specs.declared.steps.Step.{Step}
use Rattle.fx_scene.specs.Nodes.{Nodes, EffectNode, depth_at}
use Rattle.fx_scene.specs.Value.{value}
use Rattle.fx_scene.specs.declared.reaching.NodeFrame.{NodeFrame}
use Rattle.fx_scene.specs.Areas.{area}
use Rattle.fx_scene.specs.Frames.{clip_frames, has_frame}
use Rattle.fx_eval.specs.Wholes.{IsMade}
use Rattle.fx_eval.specs.declared.whole.Whole.{Whole}

-- the node of a clip is made at these frames
abbrev pub AreMade : BTreeMap NodeFrame Whole → Option ℕ → List ℤ → Type 0
AreMade made None frames = Unit {0}
AreMade made (Some m) frames = All (IsMade made m) frames

-- ---- pieces

-- the piece of a whole image
abbrev pub piece_of : ℕ → ℤ → List Step → Stored → GivenPiece
piece_of c f through image = record { clip = c; frame = f; rect = image.rect; image = image; through = through }

-- the piece shows the node that its clip is
pub record IsTruePiece (nodes : Nodes) (node : ℕ → Option ℕ) (p : GivenPiece) : Type 0 where
  pub m : ℕ
  pub is : node p.clip ≡ Some m
  pub pixels :
      (to : Depth) (k : Components) (x y : ℤ) → Holds p.rect x y
      → piece_pixel to k p x y ≡ convert (depth_at nodes m) to k (value nodes m p.frame x y)

-- whether a piece of that clip and frame has the place
abbrev pub has_piece : List GivenPiece → ℕ → ℤ → ℤ → ℤ → Bool
has_piece [] c f x y = false
has_piece (p ∷ ps) c f x y = holds_tap p (tap c f x y) || has_piece ps c f x y

-- Pieces that show the nodes of the clips are added. For the clips and frames of W they have all of the node's area.
pub record Adds (nodes : Nodes) (node : ℕ → Option ℕ) (W : ℕ → ℤ → Type 0) (old new : Given) : Type 0 where
  pub added : List GivenPiece
  pub is : new ≡ record old { pieces = old.pieces ++ added }
  pub right : All (IsTruePiece nodes node) added
  pub covers :
      (c m : ℕ) (f : ℤ) → W c f → node c ≡ Some m → (x y : ℤ) → Holds (area nodes m f) x y
      → has_piece added c f x y ≡ true

-- no pieces yet
abbrev pub blank : Depth → List Components → Given
blank d seen = record { depth = d; components = seen; pieces = [] }

-- ---- clips and frames

-- one clip at one frame
abbrev pub IsOne : ℕ → ℤ → ℕ → ℤ → Type 0
IsOne c f d g = (d ≡ c) × (g ≡ f)

-- one clip at these frames
abbrev pub IsSomeOf : ℕ → List ℤ → ℕ → ℤ → Type 0
IsSomeOf c fs d g = (d ≡ c) × (has_frame fs g ≡ true)

-- the clips below the count, at the frames that the effect needs of them
abbrev pub Reads : EffectNode → ℤ → ℕ → ℕ → ℤ → Type 0
Reads o t count c f = (c < count) × (has_frame (clip_frames o t c) f ≡ true)
