-- What stands between two moments of a run.
use Rattle.std.specs.Prelude.{◌≡◌, ◌<◌, ◌≤◌, ◌+◌, ◌-◌, ◌*◌, ℕ, suc, pos, List, [], ◌∷◌, filter, length, Option, Some, None}
use Rattle.std.specs.List.{AllZip, flat_map}
use Rattle.std.specs.Prelude.{Vec}
use Rattle.std.specs.declared.alloc.Global.{Global}
use Rattle.fx_base.specs.declared.limits.TheConstants.{LAST_FRAME}
use Rattle.fx_seq.specs.declared.kept.Kept.{Kept}
use Rattle.fx_seq.specs.declared.source.SourceFrame.{SourceFrame}
use Rattle.fx_seq.specs.declared.used.Use.{Use}
use Rattle.fx_seq.specs.declared.store.Store.{Store}
use Rattle.fx_seq.specs.Held.{got_frames, held_frames}
use Rattle.fx_seq.specs.Lists.{AreFramesOf, is_used_frame}
use Rattle.fx_seq.specs.Moments.{due_at, due_until}
use Rattle.fx_text.specs.declared.raw.TheConstants.{MOST_TAKES}
use Rattle.fx_region.specs.Counts.{window_ends}
use Rattle.fx_proxy.specs.Proxy.{IsScaledFrame}
use Rattle.fx_proxy.specs.Reduced.{IsScale}
use Rattle.fx_region.specs.Held.{EndsReached, EndsStay}
use Rattle.fx_scene.specs.Scenes.{Shot}
use Rattle.fx_scene.specs.Sites.{scene_nodes}
use Rattle.fx_scene.specs.Takes.{edits_after, graph_of_take}
use Rattle.fx_scene.specs.declared.take.Take.{Take}
use Rattle.fx_shipped.specs.declared.shipped.Shipped.{Shipped}
use Rattle.fx_shipped.specs.Shipped.{meaning_of}
use Rattle.fx_tile.specs.declared.count.TileCount.{TileCount}
use Rattle.fx_tile.specs.Counts.{both_counts}
use Rattle.fx_tile.specs.Moments.{CountsTiles, count_weight, seat_weight}
use Rattle.fx_modes.specs.declared.making.Making.{Making}
use Rattle.fx_modes.specs.declared.crew.Crew.{Crew}
use Rattle.fx_modes.specs.Crews.{IsCrew, KeepsCrew, KnewScene}
use Rattle.fx_modes.specs.Files.{AreUsesOf}
use Rattle.fx_modes.specs.Moments.{images_of}
use Rattle.fx_modes.specs.Reels.{Reel, graph_in, moments_in, pattern_at, scaled_in, takes_in}
use Rattle.fx_modes.specs.Tiles.{HasCounted}

-- what a run renders, whose moments use these source frames, over tiles of a side, with a directory of as many
pub record Plan : Type 0 where
  pub reel : Reel
  pub uses : List Use
  pub side : ℕ
  pub cache : ℕ

pub record IsPlan (p : Plan) : Type 0 where
  pub are : AreUsesOf p.reel p.uses
  pub few : p.reel.first + p.reel.count ≤ LAST_FRAME + 1
  pub some : 1 ≤ p.reel.count
  pub few_takes : takes_in p.reel ≤ MOST_TAKES + 1
  pub size : IsScale p.reel.scale

-- ---- which moment is next

-- the pattern of the files of the take that is rendered
abbrev pub pattern_in : Option (List ℕ) → List ℕ → List ℕ
pattern_in None graph = graph
pattern_in (Some file) graph = file

-- the take has the edits and the pattern of the take behind take k
pub record IsTakeOf (r : Reel) (k : ℕ) (take : Take) : Type 0 where
  pub edits : edits_after r.edits k ≡ take.edits.items
  pub file : pattern_at r (suc k) ≡ take.file

-- these takes are those behind take k
abbrev pub AreTakesFrom : Reel → ℕ → List Take → Type 0
AreTakesFrom r k [] = length r.edits ≡ k
AreTakesFrom r k (take ∷ more) = IsTakeOf r k take × AreTakesFrom r (suc k) more

-- The scene is at a take of the reel, behind which these are left. The moments before the next one are all those of the
-- takes before, and those of this take before the frame.
pub record IsAt (p : Plan) (m : Making) : Type 0 where
  pub scale : m.scale ≡ p.reel.scale
  pub written : m.scene.script.written ≡ p.reel.graph
  pub takes : m.scene.script.takes ≡ p.reel.edits
  pub graph : m.scene.graph ≡ graph_of_take p.reel.graph p.reel.edits m.scene.script.take
  pub left : AreTakesFrom p.reel m.scene.script.take m.takes.items
  pub file : pattern_in m.file p.reel.graph.file ≡ pattern_at p.reel m.scene.script.take
  pub first : m.first ≡ p.reel.first
  pub last : m.last + 1 ≡ p.reel.first + p.reel.count
  pub from : m.first ≤ m.frame
  pub to : m.frame ≤ m.last + 1
  pub next : m.next + m.first ≡ m.scene.script.take * p.reel.count + m.frame

-- ---- what stands there

-- over tiles of the side, with a directory of as many, and no whole image may be kept where no tile is; through them
-- landed and was found kept what was counted
pub record IsCrewOf (p : Plan) (m : Making) (crew : Crew) : Type 0 where
  pub there : m.crew ≡ Some crew
  pub side : crew.shared.grid ≡ p.side
  pub capacity : crew.shared.directory.capacity ≡ p.cache
  pub wholes : p.cache ≡ 0 → crew.shared.wholes.capacity ≡ 0
  pub weight : seat_weight crew.seat ≡ count_weight m.sum

-- more source frames change no end of the moments that were rendered
abbrev pub EndsHold : Reel → ℕ → Type 0
EndsHold r n =
    (j : ℕ) → j < n → EndsStay meaning_of (graph_in r j) × EndsReached meaning_of (graph_in r j)

-- the source frames that were handed in, moment by moment
abbrev pub handed_in : List (Kept (Vec SourceFrame Global)) → List SourceFrame
handed_in moments = flat_map (λ frames. frames.value.items) moments

abbrev pub seen_by : Making → List SourceFrame
seen_by m = handed_in m.seen.items

-- These are the frames of the moments before m. The store got them at 1/q of their size, and holds those of them that the
-- last of these moments uses, or a later one
pub record HoldsScaled (q : ℕ) (uses : List Use) (m : ℕ) (seen : List SourceFrame) (store : Store) : Type 0 where
  pub seen_are : AreFramesOf (due_until uses m) seen
  pub got : AllZip (IsScaledFrame q) seen (got_frames store)
  pub held : held_frames store ≡ filter (is_used_frame uses (m - 1)) (got_frames store)

-- The store has read the frames of the moments before at the reel's size, and what became of their window tiles is
-- counted; those who render knew a scene of which this one has grown
pub record IsMaking (p : Plan) (m : Making) : Type 0 where
  pub at : IsAt p m
  pub read : HoldsScaled p.reel.scale p.uses m.next (seen_by m) m.scene.store
  pub crew : Crew
  pub crew_is : IsCrewOf p m crew
  pub knew : KnewScene m.scene crew
  pub hold : EndsHold p.reel m.next
  pub counted : HasCounted p.reel (scaled_in p.reel (images_of (seen_by m))) p.side p.cache m.next m.sum

-- it is one of the plan, and so many moments are left at least
pub record MayMake (p : Plan) (uses : List Use) (more : ℕ) (m : Making) : Type 0 where
  pub plan : IsPlan p
  pub uses_are : p.uses ≡ uses
  pub few : m.next + more ≤ moments_in p.reel
  pub making : IsMaking p m

-- the frames of the moments from m on are those that are due there
abbrev pub AreDue : List Use → ℕ → List (List SourceFrame) → Type 0
AreDue uses m [] = Unit {0}
AreDue uses m (f ∷ fs) = AreFramesOf (due_at uses m) f × AreDue uses (m + 1) fs

-- the number of the next moment
abbrev pub next_of : Making → ℕ
next_of m = m.next

-- what became of the window tiles of one frame of a scene, over a grid of this side
abbrev pub CountsFrame : Shot Shipped → ℕ → ℕ → TileCount → Type 0
CountsFrame scene side t count =
    let g = scene.graph in
    let nodes = scene_nodes meaning_of scene in
    CountsTiles nodes side (window_ends nodes g.output side g.project (pos t)) count

-- one frame more was rendered by those who were there, over the frames that are held, and counted
pub record HasDrawn (frame : ℕ) (crew : Crew) (old new : Making) : Type 0 where
  pub count : TileCount
  pub tiles : CountsFrame old.scene crew.shared.grid frame count
  pub none_kept : crew.shared.directory.capacity ≡ 0 → crew.shared.wholes.capacity ≡ 0 → count.hits ≡ 0
  pub sum : new.sum ≡ both_counts old.sum count
  pub after : Crew
  pub there : new.crew ≡ Some after
  pub is : IsCrew new.scene after
  pub keeps : KeepsCrew crew after count
