-- What renders count in a seat.
use Rattle.std.specs.Prelude.{◌≡◌, ◌<◌, ◌≤◌, ◌+◌, ◌^◌, ◌⊎◌, ℕ, Option, None, Some}
use Rattle.fx_directory.specs.Seats.{Made}
use Rattle.fx_region.specs.Ends.{EndShown, Frame, Render, Void}
use Rattle.fx_tile.specs.declared.count.RenderCount.{RenderCount}
use Rattle.fx_tile.specs.declared.count.TileCount.{TileCount}

-- the count rose as the seat's counts did
pub record Follows (old new : RenderCount) (m n : Made) : Type 0 where
  pub landed : new.landed + m.landed ≡ old.landed + n.landed
  pub hits : new.hits + m.hits ≡ old.hits + n.hits

-- nothing was dropped, and of what landed and was found kept there were so many at least
pub record Met (r : ℕ) (m n : Made) : Type 0 where
  pub dropped : n.dropped ≡ m.dropped
  pub landed : m.landed ≤ n.landed
  pub hits : m.hits ≤ n.hits
  pub enough : m.landed + m.hits + r ≤ n.landed + n.hits

-- one more was found kept
pub record IsHit (m n : Made) : Type 0 where
  pub dropped : n.dropped ≡ m.dropped
  pub landed : n.landed ≡ m.landed
  pub hits : n.hits ≡ m.hits + 1

-- one more landed
pub record Lands (m n : Made) : Type 0 where
  pub dropped : n.dropped ≡ m.dropped
  pub landed : n.landed ≡ m.landed + 1
  pub hits : n.hits ≡ m.hits

-- A render was found kept, or it landed after the r renders that it needs. Nothing was dropped.
pub record Fetched (r : ℕ) (m n : Made) : Type 0 where
  pub dropped : n.dropped ≡ m.dropped
  pub landed : m.landed ≤ n.landed
  pub hits : m.hits ≤ n.hits
  pub way :
      ((n.landed ≡ m.landed) × (n.hits ≡ m.hits + 1))
      ⊎ ((m.landed < n.landed) × (m.landed + m.hits + 1 + r ≤ n.landed + n.hits))

-- nothing was asked
pub record IsUnasked (m n : Made) : Type 0 where
  pub dropped : n.dropped ≡ m.dropped
  pub landed : n.landed ≡ m.landed
  pub hits : n.hits ≡ m.hits

-- a render was asked for once: nothing was counted where another renders it
abbrev pub AskedOnce : {A : Type 0} → Option A → ℕ → Made → Made → Type 0
AskedOnce None r m n = IsUnasked m n
AskedOnce (Some image) r m n = Fetched r m n

-- 1 where there is something
abbrev pub one_if_some : {A : Type 0} → Option A → ℕ
one_if_some None = 0
one_if_some (Some x) = 1

-- ---- a tile of the picture

-- one of the three is 1, by where the tile is found
abbrev pub CountsEnd : EndShown → TileCount → Type 0
CountsEnd Void n = (n.void_tiles ≡ 1) × (n.passed ≡ 0) × (n.asked ≡ 0)
CountsEnd (Frame node frame region through) n = (n.void_tiles ≡ 0) × (n.passed ≡ 1) × (n.asked ≡ 0)
CountsEnd (Render node frame region cut through) n = (n.void_tiles ≡ 0) × (n.passed ≡ 0) × (n.asked ≡ 1)

-- where the tile is asked, it was found kept, or it landed after the r renders that it needs
abbrev pub CountsWay : ℕ → TileCount → Type 0
CountsWay r c = c.asked ≡ 1 → ((c.landed ≡ 0) × (c.hits ≡ 1)) ⊎ ((1 ≤ c.landed) × (1 + r ≤ c.landed + c.hits))

-- the count has what landed and was found kept through the seat, and nothing was dropped
pub record CountsRises (r : ℕ) (m n : Made) (c : TileCount) : Type 0 where
  pub dropped : n.dropped ≡ m.dropped
  pub landed : n.landed ≡ m.landed + c.landed
  pub hits : n.hits ≡ m.hits + c.hits
  pub way : CountsWay r c

-- ---- sums of counts

abbrev pub no_count : TileCount
no_count = record { void_tiles = 0; passed = 0; asked = 0; landed = 0; hits = 0 }

-- both counts together
abbrev pub both_counts : TileCount → TileCount → TileCount
both_counts a b =
    record {
      void_tiles = a.void_tiles + b.void_tiles;
      passed = a.passed + b.passed;
      asked = a.asked + b.asked;
      landed = a.landed + b.landed;
      hits = a.hits + b.hits;
    }

-- no number of a count is past the greatest that it can be
pub record CanCount (count : TileCount) : Type 0 where
  pub void_tiles : count.void_tiles < 2 ^ 64
  pub passed : count.passed < 2 ^ 64
  pub asked : count.asked < 2 ^ 64
  pub landed : count.landed < 2 ^ 64
  pub hits : count.hits < 2 ^ 64
