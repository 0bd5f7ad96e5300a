-- Regions suffice: where a region ends its value is shown, and what a region needs shows all that its pixels read.
use Rattle.std.specs.Prelude.{◌≡◌, ◌<◌, ◌⊎◌, ℕ, ℤ, true, false, Contains, List}
use Rattle.fx_base.specs.Bounds.{Bounds}
use Rattle.fx_base.specs.Rect.{Holds}
use Rattle.fx_pixel.specs.declared.Depth.{Depth}
use Rattle.fx_pixel.specs.declared.Components.{Components}
use Rattle.fx_pixel.specs.Pixel.{convert, zero}
use Rattle.fx_effect.specs.Tap.{Tap}
use Rattle.fx_scene.specs.Nodes.{EffectNode, Effect, Nodes, components_at, depth_at, seen}
use Rattle.fx_scene.specs.Areas.{area}
use Rattle.fx_scene.specs.Value.{tap_value, value}
use Rattle.fx_region.specs.Ends.{Choice, EndShown, IsChoice, end_by, end_holds, end_pixel}
use Rattle.fx_region.specs.Needs.{NeedShown, need_holds, needs_pixel, node_needs}

-- An end shows a region of a node at a frame: it has places of the region alone; where it has a place it shows the
-- value there, at each depth and components to which both are converted last; and elsewhere in the region the value is
-- zero.
pub record ShowsEnd (nodes : Nodes) (n : ℕ) (t : ℤ) (r : Bounds) (e : EndShown) : Type 0 where
  pub inside : (x y : ℤ) → end_holds e x y ≡ true → Holds r x y
  pub shown : (x y : ℤ) → end_holds e x y ≡ true
      → value nodes n t x y ≡ end_pixel nodes e (depth_at nodes n) (components_at nodes n) x y
  pub pixels : (to : Depth) (c : Components) (x y : ℤ) → end_holds e x y ≡ true
      → end_pixel nodes e to c x y ≡ convert (depth_at nodes n) to c (value nodes n t x y)
  pub zero : (x y : ℤ) → Holds r x y → end_holds e x y ≡ false → value nodes n t x y ≡ zero (components_at nodes n)

-- the end of each region of each node at each frame, whatever region that holds the cut is rendered for it
abbrev pub EndsSuffice : Nodes → Type 0
EndsSuffice nodes =
    (choose : Choice) → IsChoice nodes choose → (n : ℕ) (t : ℤ) (r : Bounds)
    → ShowsEnd nodes n t r (end_by choose nodes n t r)

-- one of the needs has the place that the tap reads
pub record NeedsHold (needs : List NeedShown) (p : Tap) : Type 0 where
  pub need : NeedShown
  pub listed : Contains needs need
  pub holds : need_holds need p ≡ true

-- Needs show the taps of a region of an effect at a frame: for each tap of each pixel there its value is zero or a need
-- has the place that it reads, and the first that has it shows its value, at the depth of the effect and the components
-- of the clip.
pub record ShowsTaps (nodes : Nodes) (o : EffectNode) (t : ℤ) (r : Bounds) (needs : List NeedShown) : Type 0 where
  pub found : (x y : ℤ) (p : Tap) → Holds r x y → Contains (o.meaning.taps (o.values t) x y) p
      → (tap_value (depth_at nodes) (value nodes) o p ≡ zero (seen o p.clip)) ⊎ NeedsHold needs p
  pub first : (x y : ℤ) (p : Tap) → Holds r x y → Contains (o.meaning.taps (o.values t) x y) p
      → needs_pixel nodes o.depth (seen o p.clip) needs p ≡ tap_value (depth_at nodes) (value nodes) o p

-- the needs of each region of each effect at each frame, by each grid, whatever region that holds a cut is rendered
abbrev pub NeedsSuffice : Nodes → Type 0
NeedsSuffice nodes =
    (choose : Choice) → IsChoice nodes choose → (side n : ℕ) (o : EffectNode) (t : ℤ) (r : Bounds) → 0 < side
    → nodes n ≡ Effect o → ShowsTaps nodes o t r (node_needs (end_by choose nodes) (area nodes) side (Effect o) t r)
