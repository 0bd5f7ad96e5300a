-- How a region is followed, one node at a time.
use Rattle.std.specs.Prelude.{ℕ, ℤ, Option, Some, None}
use Rattle.fx_base.specs.Bounds.{Bounds}
use Rattle.fx_pixel.specs.declared.Depth.{Depth}
use Rattle.fx_pixel.specs.declared.Components.{Components}
use Rattle.fx_scene.specs.Nodes.{Node}
use Rattle.fx_scene.specs.Reach.{IsReadBy}
use Rattle.fx_region.specs.Ends.{EndShown, Ends, end_shown, onward}
use Rattle.fx_region.specs.declared.ends.End.TheVariants.{Void}
use Rattle.fx_region.specs.declared.following.Stand.{Stand}
use Rattle.fx_region.specs.declared.following.Stand.TheVariants.{Here, Onward}

-- the end of a region that stands so
abbrev pub stand_end : Ends → Bounds → Stand → EndShown
stand_end ends r (Here end) = end_shown end
stand_end ends r (Onward m f step) = onward step (ends m f r)

-- it goes on at what the node reads
abbrev pub GoesToRead : Node → ℤ → Stand → Type 0
GoesToRead node t (Here end) = Unit {0}
GoesToRead node t (Onward m f step) = IsReadBy node t m f

-- a clip's node at a frame stands for an effect of this depth and components; nothing where the clip is unconnected
abbrev pub clip_stand : Depth → Components → Option ℕ → ℤ → Stand
clip_stand d c None f = Here Void
clip_stand d c (Some m) f = Onward m f (record { depth = d; components = c })
