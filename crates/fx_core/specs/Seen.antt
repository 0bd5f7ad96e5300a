-- How contracts see a core and its parts: of each shared key and value what it holds.
use Rattle.std.specs.Prelude.{ℕ, List, [], map, Option, Some, None}
use Rattle.std.specs.Arc.{arc_value}
use Rattle.std.specs.declared.sync.Arc.{Arc}
use Rattle.std.specs.declared.alloc.Global.{Global}
use Rattle.lru.specs.LruCache.{LruCache}
use Rattle.fx_core.specs.declared.totals.Totals.{Totals}
use Rattle.fx_core.specs.State.{State}
use Rattle.fx_core.specs.Shelf.{Shelf}

module _ {K V : Type 0} where
  -- with no cache nothing is kept, at capacity 0
  abbrev pub shelf_of : Option (LruCache (Arc K Global) (Arc V Global)) → Shelf K V
  shelf_of None = record { entries = []; capacity = 0 }
  shelf_of (Some cache) =
      record { entries = map (λ e. (arc_value e.0, arc_value e.1)) cache.entries; capacity = cache.cap }

  -- the flights are numbered from 0 on
  abbrev pub state_of : ℕ → Shelf K V → List (ℕ × K) → Totals → State K V
  state_of scene shelf flying totals =
      record {
        scene = scene;
        kept = shelf.entries;
        flying = flying;
        capacity = shelf.capacity;
        next = totals.flights;
        totals = totals;
      }

-- the number and the key of each flight
abbrev pub flying_of : {K : Type 0} → List (ℕ × Arc K Global) → List (ℕ × K)
flying_of flights = map (λ f. (f.0, arc_value f.1)) flights
