-- Those who render a scene.
use Rattle.std.specs.Prelude.{◌≡◌, ◌≤◌, ◌+◌, [], length}
use Rattle.fx_pool.specs.Weights.{plus}
use Rattle.fx_scene.specs.Scenes.{Shot}
use Rattle.fx_scene.specs.Scripts.{HasGrownTo}
use Rattle.fx_shipped.specs.declared.shipped.Shipped.{Shipped}
use Rattle.fx_tile.specs.declared.count.TileCount.{TileCount}
use Rattle.fx_tile.specs.Moments.{count_weight, seat_weight}
use Rattle.fx_tile.specs.Seats.{AreAll, IsLeft}
use Rattle.fx_whole.specs.Capacity.{capacity}
use Rattle.fx_words.specs.Ordered.{Ordered}
use Rattle.fx_modes.specs.declared.crew.Crew.{Crew}

-- what is shared is of the scene, with gates for 64 plug-ins and each node; the seat has all parts of it, no flight and
-- no gate; and there are 1 to 64 workers
pub record IsCrew (scene : Shot Shipped) (crew : Crew) : Type 0 where
  pub name : crew.shared.directory.name.scene.value ≡ scene
  pub whole_name : crew.shared.wholes.name.scene.value ≡ scene
  pub gates : 64 + length scene.graph.nodes ≤ crew.shared.gates.gates
  pub some : 1 ≤ crew.workers
  pub few : crew.workers ≤ 64
  pub all : AreAll crew.shared crew.seat []

-- it has rendered nothing yet, and is as it was ordered for the scene: whole images may be kept for the tiles of as many
-- projects as are ordered
pub record IsNewCrew (order : Ordered) (scene : Shot Shipped) (crew : Crew) : Type 0 where
  pub side : crew.shared.grid ≡ order.tile
  pub wholes : crew.shared.wholes.capacity ≡ capacity order.cache scene.graph.project order.tile
  pub capacity : crew.shared.directory.capacity ≡ order.cache
  pub nothing : seat_weight crew.seat ≡ (0, 0)

-- the same is shared, and what landed and what was found kept is more by that of a count
pub record KeepsCrew (old new : Crew) (count : TileCount) : Type 0 where
  pub shared : new.shared ≡ old.shared
  pub weight : seat_weight new.seat ≡ plus (seat_weight old.seat) (count_weight count)

-- those who rendered a scene of which this one has grown, with as many nodes
pub record KnewScene (scene : Shot Shipped) (crew : Crew) : Type 0 where
  pub was : Shot Shipped
  pub is : IsCrew was crew
  pub nodes : length scene.graph.nodes ≡ length was.graph.nodes
  pub grown : HasGrownTo was scene

-- they render this scene over the same grid, with directories of as many, and what landed and was found kept through
-- them is as before
pub record IsRenewed (scene : Shot Shipped) (old new : Crew) : Type 0 where
  pub is : IsCrew scene new
  pub grid : new.shared.grid ≡ old.shared.grid
  pub capacity : new.shared.directory.capacity ≡ old.shared.directory.capacity
  pub whole_capacity : new.shared.wholes.capacity ≡ old.shared.wholes.capacity
  pub weight : seat_weight new.seat ≡ seat_weight old.seat

-- those who could not get the name of the scene are as before, but that their whole images may have it already
pub record IsLeftAlone (scene : Shot Shipped) (old new : Crew) : Type 0 where
  pub left : IsLeft scene old.shared new.shared old.seat new.seat
  pub workers : new.workers ≡ old.workers
