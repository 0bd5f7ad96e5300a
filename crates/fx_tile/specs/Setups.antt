-- What renders are made from, and what has to be there before one.
use Rattle.std.specs.Prelude.{◌≡◌, ◌≢◌, ◌<◌, ◌≤◌, ◌+◌, ℕ, ℤ, List, [], ◌∷◌, map, length, All, Option, Some, None, count_by, false}
use Rattle.std.specs.Arc.{arc_value}
use Rattle.std.specs.declared.alloc.Global.{Global}
use Rattle.std.specs.declared.sync.Arc.{Arc}
use Rattle.fx_base.specs.Bounds.{Bounds}
use Rattle.fx_base.specs.Rect.{IsWithin}
use Rattle.fx_image.specs.Stored.{Stored, image_of}
use Rattle.fx_effect.specs.Asked.{IsWindow}
use Rattle.fx_effect.specs.Meaning.{Meaning}
use Rattle.fx_seq.specs.Held.{held}
use Rattle.fx_directory.specs.Seats.{Made}
use Rattle.fx_gate.specs.Gates.{GateSeatState}
use Rattle.fx_scene.specs.Right.{HasWanted, IsTile}
use Rattle.fx_scene.specs.declared.key.Key.{Key}
use Rattle.fx_scene.specs.Areas.{area}
use Rattle.fx_scene.specs.Nodes.{AreNodes, EffectNode, Effect, Nodes, Source, SourceFrames}
use Rattle.fx_life.specs.Posts.{HasLife}
use Rattle.fx_scene.specs.Scenes.{Shot, graph_shown, images_in, node_values}
use Rattle.fx_scene.specs.Scripts.{IsScene, era_of}
use Rattle.fx_scene.specs.Holds.{MadeIsRight, RightIsMade}
use Rattle.fx_region.specs.declared.ends.End.{End}
use Rattle.fx_region.specs.declared.ends.End.TheVariants as code
use Rattle.fx_region.specs.declared.ends.Need.{Need}
use Rattle.fx_region.specs.declared.regions.Regions.{Regions}
use Rattle.fx_region.specs.Counts.{is_asked}
use Rattle.fx_region.specs.Ends.{EndShown, Frame, Render, Void, end_shown}
use Rattle.fx_region.specs.Needs.{need_shown, needs_of}
use Rattle.fx_scene.specs.Sites.{scene_nodes}
use Rattle.fx_region.specs.Suffice.{ShowsTaps}
use Rattle.fx_region.specs.Tables.{Has, IsMadeOf}
use Rattle.fx_tile.specs.declared.share.TileSeat.{TileSeat}
use Rattle.fx_tile.specs.declared.setup.Setup.{Setup}
use Rattle.fx_tile.specs.Counts.{Fetched, IsUnasked}
use Rattle.fx_tile.specs.Kept.{HasRows}
use Rattle.fx_tile.specs.Tiles.{IsRegion}

-- the scene holds what its output wants at a frame
abbrev pub HoldsAt : {E : Type 0} → (E → Meaning) → Shot E → ℤ → Type 0
HoldsAt meaning scene t = HasWanted meaning scene.graph (images_in scene.store) scene.graph.output t

-- what is known of the scene, and of what may be kept of it
pub record KeepsTiles {E : Type 0} (meaning : E → Meaning) (scene : Shot E) : Type 0 where
  pub is : IsScene meaning scene
  pub made : MadeIsRight meaning scene.script.written scene.script.takes
  pub right : RightIsMade meaning scene.script.written scene.script.takes

-- the regions were made of this scene at a frame of which it holds what is wanted
pub record AreHeld {E : Type 0} (meaning : E → Meaning) (scene : Shot E) (regions : Regions) : Type 0 where
  pub made : IsMadeOf meaning scene regions
  pub holds : HoldsAt meaning scene made.at

-- the graph and the frames are the scene's, its effects keep their laws, of it are the instances, the regions and what
-- is kept, it holds what the regions' frame wants, and there are gates for all plug-ins and nodes
pub record IsSetup {E : Type 0} {c e : _} (meaning : E → Meaning) (number : E → ℕ) (setup : Setup E c e) : Type 0 where
  pub graph : setup.scene.now.graph ≡ graph_shown setup.graph.now
  pub store : setup.scene.now.store ≡ setup.store.now
  pub nodes : AreNodes (scene_nodes meaning setup.scene.now)
  pub life : HasLife number setup.scene.now.graph setup.life.now
  pub regions : IsMadeOf meaning setup.scene.now setup.regions.now
  pub holds : HoldsAt meaning setup.scene.now regions.at
  pub keeps : KeepsTiles meaning setup.scene.now
  pub name : setup.shared.now.directory.name.scene.value ≡ setup.scene.now
  pub whole_name : setup.shared.now.wholes.name.scene.value ≡ setup.scene.now
  pub gates : 64 + length setup.scene.now.graph.nodes ≤ setup.shared.now.gates.gates

-- a seat of the gates that holds none
abbrev pub IsGateSeat : {E : Type 0} {c e : _} → Setup E c e → GateSeatState → Type 0
IsGateSeat setup seat = (seat.row ≡ setup.shared.now.gates) × (seat.turn ≡ None)

-- the seat is one of both directories, and one of the gates that holds none
pub record IsSeat {E : Type 0} {c e : _} (setup : Setup E c e) (seat : TileSeat E) : Type 0 where
  pub rows : HasRows setup.shared.now seat
  pub gates : IsGateSeat setup seat.gates

-- the key of a region of a node at a frame
abbrev pub IsKeyOf : {E : Type 0} → Shot E → ℕ → ℤ → Bounds → Key → Type 0
IsKeyOf scene node frame region key =
    key ≡ record {
      node = node;
      frame = frame;
      region = region;
      values = node_values scene.graph node frame;
      era = era_of scene.script node;
    }

-- ---- what has to be there

-- a region of an effect's node within its area, at a frame at which it is reached; the whole area where the effect
-- supports no tiles (OpenFX 1.4, kOfxImageEffectPropSupportsTiles)
pub record IsRenderable {E : Type 0} {c e : _} (meaning : E → Meaning) (setup : Setup E c e) (node : ℕ) (frame : ℤ)
    (region : Bounds) : Type 0 where
  pub effect : EffectNode
  pub there : scene_nodes meaning setup.scene.now node ≡ Effect effect
  pub reached : Has setup.regions.now node frame
  pub region_is : IsRegion region
  pub within : IsWithin region (area (scene_nodes meaning setup.scene.now) node frame)
  pub whole : effect.meaning.shape.tiles ≡ false → region ≡ area (scene_nodes meaning setup.scene.now) node frame

-- a region of a frame of a source that was fetched
pub record IsShown {E : Type 0} {c e : _} (meaning : E → Meaning) (setup : Setup E c e) (node : ℕ) (frame : ℤ)
    (region : Bounds) : Type 0 where
  pub source : SourceFrames
  pub there : scene_nodes meaning setup.scene.now node ≡ Source source
  pub image : Stored
  pub is_held : held setup.store.now node frame ≡ Some image
  pub frame_is : source.frames frame ≡ Some (image_of image)
  pub window : IsWindow region
  pub within : IsWithin region image.rect

-- an end in a frame that was fetched, or in a node before this one that may be rendered there, over a region that holds
-- the cut
abbrev pub IsReady : {E : Type 0} {c e : _} → (E → Meaning) → Setup E c e → ℕ → End → Type 0
IsReady meaning setup n code.Void = Unit {0}
IsReady meaning setup n (code.Frame node frame region through) = IsShown meaning setup node frame region
IsReady meaning setup n (code.Render node frame region cut through) =
    (node < n) × IsRenderable meaning setup node frame region × IsWithin cut region

-- what a region of an effect's node needs, which shows what its pixels read; each of one of its clips, and found
-- somewhere
pub record AreNeeds {E : Type 0} {c e : _} (meaning : E → Meaning) (setup : Setup E c e) (node : ℕ) (frame : ℤ)
    (region : Bounds) (needs : List Need) : Type 0 where
  pub shows :
      (o : EffectNode) → scene_nodes meaning setup.scene.now node ≡ Effect o
      → ShowsTaps (scene_nodes meaning setup.scene.now) o frame region (map need_shown needs)
  pub clips :
      (o : EffectNode) → scene_nodes meaning setup.scene.now node ≡ Effect o
      → All (λ need. need.clip < length o.clips) needs
  pub found : All (λ need. need.end ≢ code.Void) needs

-- ---- the images of ends

-- the image of an end that is a render
abbrev pub IsTileOf : Nodes → End → Option (Arc Stored Global) → Type 0
IsTileOf nodes code.Void tile = Unit {0}
IsTileOf nodes (code.Frame node frame region through) tile = Unit {0}
IsTileOf nodes (code.Render node frame region cut through) None = ⊥
IsTileOf nodes (code.Render node frame region cut through) (Some tile) = IsTile nodes node frame region (arc_value tile)

-- so much of each need's end and what stands beside it
abbrev pub EachTile :
    (End → Option (Arc Stored Global) → Type 0) → List Need → List (Option (Arc Stored Global)) → Type 0
EachTile P [] [] = Unit {0}
EachTile P [] (t ∷ ts) = ⊥
EachTile P (n ∷ ns) [] = ⊥
EachTile P (n ∷ ns) (t ∷ ts) = P n.end t × EachTile P ns ts

-- one for each need
abbrev pub AreTilesOf : Nodes → List Need → List (Option (Arc Stored Global)) → Type 0
AreTilesOf nodes = EachTile (IsTileOf nodes)

-- the image of an end that is a render, where it is there
abbrev pub MayBeTileOf : Nodes → End → Option (Arc Stored Global) → Type 0
MayBeTileOf nodes code.Void tile = tile ≡ None
MayBeTileOf nodes (code.Frame node frame region through) tile = tile ≡ None
MayBeTileOf nodes (code.Render node frame region cut through) None = Unit {0}
MayBeTileOf nodes (code.Render node frame region cut through) (Some tile) =
    IsTile nodes node frame region (arc_value tile)

-- one for each need, as far as they are there
abbrev pub MayBeTilesOf : Nodes → List Need → List (Option (Arc Stored Global)) → Type 0
MayBeTilesOf nodes = EachTile (MayBeTileOf nodes)

-- ---- how many renders

-- how many of the needs are renders
abbrev pub renders_of : List Need → ℕ
renders_of needs = count_by (λ n. is_asked (end_shown n.end)) needs

-- how many renders a region of a node needs
abbrev pub renders_needed : {E : Type 0} {c e : _} → (E → Meaning) → Setup E c e → ℕ → ℤ → Bounds → ℕ
renders_needed meaning setup node frame region =
    let nodes = scene_nodes meaning setup.scene.now in
    count_by (λ n. is_asked n.end) (needs_of nodes setup.shared.now.grid node frame region)

-- what an end that is a render counts in a seat; the others count nothing
abbrev pub IsFound : {E : Type 0} {c e : _} → (E → Meaning) → Setup E c e → End → Made → Made → Type 0
IsFound meaning setup code.Void m n = IsUnasked m n
IsFound meaning setup (code.Frame node frame region through) m n = IsUnasked m n
IsFound meaning setup (code.Render node frame region cut through) m n =
    Fetched (renders_needed meaning setup node frame region) m n

-- how many renders the region of an end needs, where it is a render
abbrev pub end_renders : Nodes → ℕ → EndShown → ℕ
end_renders nodes side Void = 0
end_renders nodes side (Frame node frame region through) = 0
end_renders nodes side (Render node frame region cut through) =
    count_by (λ n. is_asked n.end) (needs_of nodes side node frame region)
