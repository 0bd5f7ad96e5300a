-- An order, and the ranges of its numbers.
use Rattle.std.specs.Prelude.{◌≡◌, ℕ, ◌*◌, ◌≤◌, ◌^◌, ◌==◌, ◌||◌, Bool, true, List}
use Rattle.fx_base.specs.declared.limits.TheConstants.{LAST_FRAME, MOST_TILE_SIDE}
use Rattle.fx_words.specs.declared.order.TheConstants.{MOST_AHEAD, MOST_CACHE, MOST_SCALE, MOST_WORKERS}
use Rattle.fx_words.specs.declared.order.Mode.{Mode}

pub record Ordered : Type 0 where
  pub mode : Mode
  pub graph : List ℕ
  pub first : ℕ
  pub last : ℕ
  pub tile : ℕ
  pub cache : ℕ
  pub workers : ℕ
  pub ahead : ℕ
  pub scale : ℕ

-- the whole size, a half, a quarter or an eighth
abbrev pub is_scale : ℕ → Bool
is_scale q = q == 1 || q == 2 || q == 4 || q == 8

-- frames up to 999,999, a side from 1 to 1,024, up to 65,536 tiles of 2^31 bytes together, 1 to 64 threads,
-- blocks of up to 4 moments, and one of the four scales
pub record AreInRange (first last tile cache workers ahead scale : ℕ) : Type 0 where
  pub first_end : first ≤ LAST_FRAME
  pub last_end : last ≤ LAST_FRAME
  pub some_side : 1 ≤ tile
  pub side_end : tile ≤ MOST_TILE_SIDE
  pub cache_end : cache ≤ MOST_CACHE
  pub memory : cache * tile * tile * 8 ≤ 2 ^ 31
  pub some_workers : 1 ≤ workers
  pub workers_end : workers ≤ MOST_WORKERS
  pub ahead_end : ahead ≤ MOST_AHEAD
  pub some_scale : 1 ≤ scale
  pub scale_end : scale ≤ MOST_SCALE
  pub one_of_four : is_scale scale ≡ true
