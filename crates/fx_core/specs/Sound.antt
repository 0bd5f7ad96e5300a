-- What holds of a core at every moment.
use Rattle.std.specs.Prelude.{◌≡◌, ◌+◌, ◌-◌, ◌<◌, ◌≤◌, nat_eq, Bool, false, [], length, min, All, IsSome}
use Rattle.std.specs.Map.{lookup, keys_of, values_of}
use Rattle.std.specs.List.{IsDistinct}
use Rattle.fx_core.specs.State.{State}
use Rattle.fx_core.specs.Step.{is_flying}

-- `eq` tells whether two keys are equal. The keys of `flying` are the flights' numbers, and its values the flying keys.
pub record IsSound {K V : Type 0} (eq : K → K → Bool) (s : State K V) : Type 0 where
  -- kept keys differ, and there are at most as many as the capacity
  pub kept_differ : IsDistinct eq (keys_of s.kept)
  pub kept_fit : length s.kept ≤ s.capacity
  -- flying keys differ, and the flights' numbers differ and are below the next one
  pub flying_differ : IsDistinct eq (values_of s.flying)
  pub numbers_differ : IsDistinct nat_eq (keys_of s.flying)
  pub numbers_below : All (λ n. n < s.next) (keys_of s.flying)
  -- no key is both kept and flying
  pub not_both : (k : K) → IsSome (lookup (eq k) s.kept) → is_flying eq s k ≡ false
  -- each ask had one answer, and each flight landed, was dropped or flies still
  pub asks : s.totals.asks ≡ s.totals.hits + s.totals.busies + s.totals.flights
  pub flights : s.totals.flights ≡ s.totals.landed + s.totals.dropped + length s.flying
  -- with a capacity, what landed is kept up to the capacity, and the rest was evicted
  pub kept_count : 0 < s.capacity → length s.kept ≡ min s.totals.landed s.capacity
  pub evicted_count : 0 < s.capacity → s.totals.evicted ≡ s.totals.landed - length s.kept
  -- with none, nothing is kept and nothing was evicted
  pub none_kept : s.capacity ≡ 0 → s.kept ≡ []
  pub none_evicted : s.capacity ≡ 0 → s.totals.evicted ≡ 0
