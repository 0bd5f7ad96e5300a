-- What ends are found in, over a region that was asked for.
use Rattle.std.specs.Prelude.{◌≡◌, ◌⊎◌, ℕ, ℤ, Some, false}
use Rattle.fx_base.specs.Bounds.{Bounds}
use Rattle.fx_base.specs.Rect.{IsWithin}
use Rattle.fx_image.specs.Image.{Image}
use Rattle.fx_effect.specs.Asked.{IsWindow}
use Rattle.fx_scene.specs.Areas.{area}
use Rattle.fx_scene.specs.Nodes.{Effect, EffectNode, Nodes, Source, SourceFrames}
use Rattle.fx_region.specs.Ends.{EndShown, Frame, Render, Void}
use Rattle.fx_tile.specs.Tiles.{IsSmall}

-- a region of an image that a source has of a frame
pub record IsOfFrame (nodes : Nodes) (r : Bounds) (m : ℕ) (f : ℤ) (q : Bounds) : Type 0 where
  pub window : IsWindow q
  pub inside : IsWithin q r
  pub source : SourceFrames
  pub there : nodes m ≡ Source source
  pub image : Image
  pub shown : source.frames f ≡ Some image
  pub within : IsWithin q image.rect

-- a region of an effect at a frame, which lies in the region that was asked for or is no larger than a project may be;
-- where the effect supports no tiles it is its whole area
pub record IsOfEffect (nodes : Nodes) (r : Bounds) (m : ℕ) (f : ℤ) (q : Bounds) : Type 0 where
  pub window : IsWindow q
  pub size : IsWithin q r ⊎ IsSmall q
  pub effect : EffectNode
  pub there : nodes m ≡ Effect effect
  pub whole : effect.meaning.shape.tiles ≡ false → q ≡ area nodes m f

abbrev pub IsFoundIn : Nodes → Bounds → EndShown → Type 0
IsFoundIn nodes r Void = Unit {0}
IsFoundIn nodes r (Frame m f q through) = IsOfFrame nodes r m f q
IsFoundIn nodes r (Render m f q cut through) = IsOfEffect nodes r m f q
