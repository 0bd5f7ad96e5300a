-- The picture of a frame: its tiles are found one by one, and then its bands are written one by one.
use Rattle.std.specs.Prelude.{◌≡◌, ◌<◌, ◌≤◌, ◌*◌, ◌^◌, ◌+◌, ℕ, ℤ, List, [], None, All, drop, length, map, take, count_by, slice_index_or, sum_by, vec_len}
use Rattle.std.specs.Global.{Vec}
use Rattle.std.specs.List.{Contains}
use Rattle.fx_base.specs.Bounds.{Bounds, none}
use Rattle.fx_base.specs.Rect.{Holds, IsWithin, columns}
use Rattle.fx_pixel.specs.declared.Depth.{Depth}
use Rattle.fx_pixel.specs.declared.Format.{Format}
use Rattle.fx_image.specs.Bands.{AreBands, AreWhole, IsLayout}
use Rattle.fx_image.specs.Image.{Image, pixel_at}
use Rattle.fx_image.specs.Stored.{SameFrame, Stored, pixel_size, shown}
use Rattle.fx_image.specs.declared.layout.Layout.{Layout}
use Rattle.fx_directory.specs.Seats.{FindsNone}
use Rattle.fx_effect.specs.Meaning.{Meaning}
use Rattle.fx_pam.specs.Laws.{components_for}
use Rattle.fx_graph.specs.Shown.{GraphShown}
use Rattle.fx_scene.specs.Nodes.{Nodes}
use Rattle.fx_scene.specs.Scenes.{Shot, images_in, picture}
use Rattle.fx_region.specs.Counts.{is_asked, is_passed, is_void, window_tiles}
use Rattle.fx_region.specs.Ends.{EndShown, end_of, end_shown}
use Rattle.fx_region.specs.Suffice.{ShowsEnd}
use Rattle.fx_scene.specs.Sites.{scene_nodes}
use Rattle.fx_region.specs.Tables.{AreRegions, Has}
use Rattle.fx_tile.specs.declared.bands.BandJob.{BandJob}
use Rattle.fx_tile.specs.declared.count.TileCount.{TileCount}
use Rattle.fx_tile.specs.declared.found.FoundTile.{FoundTile}
use Rattle.fx_tile.specs.declared.ground.Ground.{Ground}
use Rattle.fx_tile.specs.declared.job.TileJob.{TileJob}
use Rattle.fx_tile.specs.declared.setup.Setup.{Setup}
use Rattle.fx_tile.specs.declared.share.Shared.{Shared}
use Rattle.fx_tile.specs.declared.share.TileSeat.{TileSeat}
use Rattle.fx_tile.specs.Counts.{CountsEnd, CountsWay}
use Rattle.fx_tile.specs.Kept.{made_of}
use Rattle.fx_tile.specs.Setups.{IsReady, IsSetup, IsTileOf, end_renders}
use Rattle.fx_tile.specs.Tiles.{IsRegion}

-- the seat has so many parts of each directory and of the gates, no flight and no gate; where nothing may be kept in a
-- directory, nothing was found kept there through it
pub record IsIdle {E : Type 0} (shared : Shared E) (parts : ℕ) (seat : TileSeat E) : Type 0 where
  pub row : seat.directory.row ≡ shared.directory
  pub parts_are : seat.directory.parts ≡ parts
  pub aloft : seat.directory.aloft ≡ []
  pub finds_none : FindsNone seat.directory
  pub whole_row : seat.wholes.row ≡ shared.wholes
  pub whole_parts : seat.wholes.parts ≡ parts
  pub whole_aloft : seat.wholes.aloft ≡ []
  pub whole_finds_none : FindsNone seat.wholes
  pub gates : seat.gates.row ≡ shared.gates
  pub gate_parts : seat.gates.parts ≡ parts
  pub no_turn : seat.gates.turn ≡ None

-- a seat of a worker, which has one part
abbrev pub IsFree : {E : Type 0} → Shared E → TileSeat E → Type 0
IsFree shared seat = IsIdle shared 1 seat

-- the seats of those who render a frame, 1 to 64
abbrev pub AreWorkers : {E : Type 0} → Shared E → Vec (TileSeat E) → Type 0
AreWorkers shared seats = ((1 ≤ vec_len seats) × (vec_len seats ≤ 64)) × All (IsFree shared) seats.items

-- as many seats come back, and as free
abbrev pub ComeBack : {E : Type 0} → Shared E → Vec (TileSeat E) → Vec (TileSeat E) → Type 0
ComeBack shared before after = (vec_len after ≡ vec_len before) × All (IsFree shared) after.items

-- what landed and what was found kept through a seat, and by a count
abbrev pub seat_weight : {E : Type 0} → TileSeat E → ℕ × ℕ
seat_weight seat = ((made_of seat).landed, (made_of seat).hits)

abbrev pub count_weight : TileCount → ℕ × ℕ
count_weight count = (count.landed, count.hits)

-- ---- the tiles

-- a tile of the picture, which is a region that may be rendered at once
pub record IsWindowTile (project tile : Bounds) : Type 0 where
  pub region : IsRegion tile
  pub within : IsWithin tile project

-- each place of the rectangle is in a tile
abbrev pub Cover : List Bounds → Bounds → Type 0
Cover tiles rect = (x y : ℤ) → Holds rect x y → (tile : Bounds) × Contains tiles tile × Holds tile x y

-- ---- before a frame is drawn

-- how a picture is laid out in bands as high as a row of the grid
abbrev pub layout_over : Bounds → Depth → Format → ℕ → Layout
layout_over rect depth format side =
    record {
      rect = rect;
      depth = depth;
      components = components_for format;
      row_bytes = columns rect * pixel_size depth (components_for format);
      band_rows = side;
    }

-- the tiles of band k, where each band has so many
abbrev pub tiles_of_band : {T : Type 0} → ℕ → List T → ℕ → List T
tiles_of_band columns tiles k = take columns (drop (k * columns) tiles)

-- the window tiles go band by band, so many to each
pub record AreInBands (layout : Layout) (columns : ℕ) (tiles : List Bounds) (bands : List Stored) : Type 0 where
  pub are : AreBands layout bands
  pub whole : AreWhole layout bands
  pub many : length bands * columns ≡ length tiles
  pub cover :
      (k : ℕ) (d : Stored) → k < length bands
      → Cover (tiles_of_band columns tiles k) (slice_index_or bands k d).rect

-- What is there before a frame is drawn: the regions of its nodes, its window tiles, and the bands of an image like its
-- picture
pub record IsGround {E : Type 0} (meaning : E → Meaning) (scene : Shot E) (side : ℕ) (frame : ℤ) (ground : Ground)
    : Type 0 where
  pub regions :
      let g = scene.graph in AreRegions (scene_nodes meaning scene) (length g.nodes) g.output frame ground.regions
  pub tiles : ground.tiles.items ≡ window_tiles side scene.graph.project
  pub few : vec_len ground.tiles ≤ 2 ^ 32
  pub each : All (IsWindowTile scene.graph.project) ground.tiles.items
  pub layout : let g = scene.graph in ground.layout ≡ layout_over g.project g.depth g.format side
  pub laid : IsLayout ground.layout
  pub in_bands : AreInBands ground.layout ground.columns ground.tiles.items ground.bands.items
  pub few_bands : vec_len ground.bands ≤ 2 ^ 32

-- ---- one tile

-- where a tile of the picture is found, so that it can be shown, and what became of it
pub record IsFoundTile {E : Type 0} {c e : _} (meaning : E → Meaning) (setup : Setup E c e) (frame : ℤ)
    (found : FoundTile) : Type 0 where
  pub clip : found.need.clip ≡ 0
  pub frame_is : found.need.frame ≡ frame
  pub ready : IsReady meaning setup (setup.graph.now.output + 1) found.need.end
  pub image : IsTileOf (scene_nodes meaning setup.scene.now) found.need.end found.image
  pub shows :
      ShowsEnd (scene_nodes meaning setup.scene.now) setup.scene.now.graph.output frame found.tile
      (end_shown found.need.end)
  pub count :
      CountsEnd (end_of (scene_nodes meaning setup.scene.now) setup.scene.now.graph.output frame found.tile) found.count
  pub way :
      let nodes = scene_nodes meaning setup.scene.now in
      let end = end_of nodes setup.scene.now.graph.output frame found.tile in
      CountsWay (end_renders nodes setup.shared.now.grid end) found.count

-- the tile of a number
abbrev pub job_tile : {E : Type 0} {c e : _} → TileJob E c e → ℕ → Bounds
job_tile job index = slice_index_or job.tiles.now index none

-- the frame is one of the setup's, and these are tiles of its picture, at most 2^32
pub record AreTilesAt {E : Type 0} {c e : _} (meaning : E → Meaning) (number : E → ℕ) (setup : Setup E c e) (frame : ℤ)
    (tiles : List Bounds) : Type 0 where
  pub setup_is : IsSetup meaning number setup
  pub reached : Has setup.regions.now setup.scene.now.graph.output frame
  pub each : All (IsWindowTile setup.scene.now.graph.project) tiles
  pub few : length tiles ≤ 2 ^ 32

-- the window tiles of the frame may be drawn, and this is the number of one
pub record MayDraw {E : Type 0} {c e : _} (meaning : E → Meaning) (number : E → ℕ) (job : TileJob E c e) (index : ℕ)
    : Type 0 where
  pub setup : IsSetup meaning number job.setup.now
  pub reached : Has job.setup.now.regions.now job.setup.now.scene.now.graph.output job.frame
  pub below : index < length job.tiles.now
  pub tile : IsWindowTile job.setup.now.scene.now.graph.project (job_tile job index)

-- the tile of a number was found
pub record IsDrawn {E : Type 0} {c e : _} (meaning : E → Meaning) (job : TileJob E c e) (index : ℕ) (found : FoundTile)
    : Type 0 where
  pub tile : found.tile ≡ job_tile job index
  pub is : IsFoundTile meaning job.setup.now job.frame found

-- ---- one band

abbrev pub rects_of : List (ℕ × FoundTile) → List Bounds
rects_of found = map (λ f. f.1.tile) found

-- the picture of the frame
abbrev pub picture_at : {E : Type 0} {c e : _} → (E → Meaning) → Setup E c e → ℤ → Image
picture_at meaning setup frame =
    let scene = setup.scene.now in picture meaning scene.graph (images_in scene.store) frame

-- the picture of the frame of these tiles
abbrev pub job_picture : {E : Type 0} {c e : _} → (E → Meaning) → BandJob E c e → Image
job_picture meaning job = picture_at meaning job.setup.now job.frame

-- a band of an image like the picture
pub record IsBand {E : Type 0} (graph : GraphShown E) (band : Stored) : Type 0 where
  pub within : IsWithin band.rect graph.project
  pub depth : band.depth ≡ graph.depth
  pub components : band.components ≡ components_for graph.format

-- bands of the picture, and the tiles that cover them band by band, so many to each
pub record AreBandsOf {E : Type 0} (graph : GraphShown E) (columns : ℕ) (tiles : List Bounds) (bands : List Stored)
    : Type 0 where
  pub many : length bands * columns ≡ length tiles
  pub cover :
      (k : ℕ) (d : Stored) → k < length bands
      → Cover (tiles_of_band columns tiles k) (slice_index_or bands k d).rect
  pub each : All (IsBand graph) bands

-- the tiles were found, and this is a band that the tiles of its row cover
pub record MayWrite {E : Type 0} {c e : _} (meaning : E → Meaning) (job : BandJob E c e) (index : ℕ) (band : Stored)
    : Type 0 where
  pub found : All (λ f. IsFoundTile meaning job.setup.now job.frame f.1) job.found.now
  pub row : index * job.columns + job.columns ≤ length job.found.now
  pub cover : Cover (tiles_of_band job.columns (rects_of job.found.now) index) band.rect
  pub is : IsBand job.setup.now.scene.now.graph band

-- where the tile and the band overlap the band shows the picture now, and elsewhere what it did
pub record WritesTile (picture : Image) (tile : Bounds) (old new : Stored) : Type 0 where
  pub inside : (x y : ℤ) → Holds tile x y → Holds old.rect x y → shown new x y ≡ pixel_at picture x y
  pub outside : (x y : ℤ) → (Holds tile x y → ⊥) → shown new x y ≡ shown old x y

-- where these tiles and the band overlap it shows the picture
abbrev pub ShowsTiles : Image → List Bounds → Stored → Type 0
ShowsTiles picture tiles band =
    (tile : Bounds) → Contains tiles tile → (x y : ℤ) → Holds tile x y → Holds band.rect x y
    → shown band x y ≡ pixel_at picture x y

-- the band shows the picture at each of its places
pub record ShowsPicture (picture : Image) (old new : Stored) : Type 0 where
  pub frame : SameFrame old new
  pub pixels : (x y : ℤ) → Holds old.rect x y → shown new x y ≡ pixel_at picture x y

-- each band that was drawn, in place of the one before
abbrev pub ShowEach : Image → List Stored → List Stored → Type 0
ShowEach picture before after =
    (k : ℕ) (d : Stored) → k < length after
    → ShowsPicture picture (slice_index_or before k d) (slice_index_or after k d)

-- ---- the count

-- the counts of all tiles together
abbrev pub count_of_all : List (ℕ × FoundTile) → TileCount
count_of_all found =
    record {
      void_tiles = sum_by (λ f. f.1.count.void_tiles) found;
      passed = sum_by (λ f. f.1.count.passed) found;
      asked = sum_by (λ f. f.1.count.asked) found;
      landed = sum_by (λ f. f.1.count.landed) found;
      hits = sum_by (λ f. f.1.count.hits) found;
    }

-- how many renders the regions of these ends need, where they are renders
abbrev pub renders_for : Nodes → ℕ → List EndShown → ℕ
renders_for nodes side ends = sum_by (end_renders nodes side) ends

-- So many tiles of each kind, by where they are found. Each that is asked landed, or was found kept; and where none was
-- found kept, each that is asked landed, and so did each render that it needs.
pub record CountsTiles (nodes : Nodes) (side : ℕ) (ends : List EndShown) (count : TileCount) : Type 0 where
  pub void_tiles : count.void_tiles ≡ count_by is_void ends
  pub passed : count.passed ≡ count_by is_passed ends
  pub asked : count.asked ≡ count_by is_asked ends
  pub enough : count.asked ≤ count.landed + count.hits
  pub none_kept : count.hits ≡ 0 → count.asked + renders_for nodes side ends ≤ count.landed

-- the first of the bands were drawn, and these are the counts of their tiles together
pub record AreDrawn {E : Type 0} {c e : _} (meaning : E → Meaning) (setup : Setup E c e) (frame : ℤ) (columns : ℕ)
    (tiles : List Bounds) (bands drawn : List Stored) (count : TileCount) : Type 0 where
  pub few : length drawn ≤ length bands
  pub show : ShowEach (picture_at meaning setup frame) bands drawn
  pub counts :
      let nodes = scene_nodes meaning setup.scene.now in
      let end = end_of nodes setup.scene.now.graph.output frame in
      CountsTiles nodes setup.shared.now.grid (map end (take (length drawn * columns) tiles)) count
