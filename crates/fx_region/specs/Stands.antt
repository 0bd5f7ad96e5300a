-- Where ends stand: at nodes that are reached, in rising order of the list.
use Rattle.std.specs.Prelude.{◌≢◌, ◌<◌, ℕ, ℤ}
use Rattle.fx_base.specs.Bounds.{Bounds, none}
use Rattle.fx_base.specs.Rect.{IsWithin}
use Rattle.fx_scene.specs.Areas.{area}
use Rattle.fx_scene.specs.Nodes.{Nodes}
use Rattle.fx_region.specs.Ends.{EndShown, Frame, Render, Void}
use Rattle.fx_region.specs.Needs.{NeedShown}
use Rattle.fx_region.specs.Tables.{Has}
use Rattle.fx_region.specs.declared.regions.Regions.{Regions}

-- A render of one of the first n nodes, which is reached at the frame. Its region has a place, lies in the node's area
-- and holds the cut.
pub record IsRender (nodes : Nodes) (regions : Regions) (n m : ℕ) (f : ℤ) (r cut : Bounds) : Type 0 where
  pub earlier : m < n
  pub reached : Has regions m f
  pub some : r ≢ none
  pub inside : IsWithin r (area nodes m f)
  pub holds : IsWithin cut r

-- the end stands at one of the first n nodes, where it may be shown or rendered
abbrev pub StandsBelow : Nodes → Regions → ℕ → EndShown → Type 0
StandsBelow nodes regions n Void = Unit {0}
StandsBelow nodes regions n (Frame m f r through) = m < n
StandsBelow nodes regions n (Render m f r cut through) = IsRender nodes regions n m f r cut

abbrev pub NeedStands : Nodes → Regions → ℕ → NeedShown → Type 0
NeedStands nodes regions n need = StandsBelow nodes regions n need.end
