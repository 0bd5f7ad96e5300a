-- What each event does to a core, and how it is answered.
use Rattle.std.specs.Prelude.{ℕ, zero, suc, ◌+◌, ◌==◌, Bool, true, false, List, [], ◌∷◌, ◌++◌, length, take, if◌then◌else◌, Option, Some, None, option_map}
use Rattle.std.specs.Option.{option_map_or}
use Rattle.std.specs.Map.{lookup, lookup_entry, remove_entry}
use Rattle.std.specs.List.{list_any}
use Rattle.fx_core.specs.State.{State}

-- A caller asks for a key, lands a value under the number of its flight, or drops that flight.
pub data Event (K V : Type 0) : Type 0 where
  Ask : K → Event K V
  Land : ℕ → V → Event K V
  Drop : ℕ → Event K V

-- An ask is answered by the kept value, by word that the key is flying, or by the number of a new flight.
pub data Reply (V : Type 0) : Type 0 where
  Here : V → Reply V
  Busy : Reply V
  Fly : ℕ → Reply V
  Done : Reply V

module _ {K V : Type 0} where
  -- the entry whose key passes goes to the front
  abbrev pub with_front : (K → Bool) → List (K × V) → List (K × V)
  with_front test kept = option_map_or (λ e. e ∷ remove_entry test kept) (lookup_entry test kept) kept

  -- whether as many entries are kept as may be; where none may be, none has to go
  abbrev pub is_full : ℕ → List (K × V) → Bool
  is_full zero kept = false
  is_full (suc c) kept = length kept == suc c

  -- of a full list the last entry goes, and then the new one comes in front. Where none may be kept, none comes
  abbrev pub with_new : ℕ → List (K × V) → K × V → List (K × V)
  with_new zero kept new = kept
  with_new (suc c) kept new = new ∷ (if is_full (suc c) kept then take c kept else kept)

  -- the key that is flying under a number
  abbrev pub key_of : State K V → ℕ → Option K
  key_of s n = lookup (λ m. m == n) s.flying

  -- the entry of the key goes to the front
  abbrev pub after_hit : State K V → (K → Bool) → State K V
  after_hit s test =
      let t = s.totals in
      record s { kept = with_front test s.kept; totals = record t { asks = t.asks + 1; hits = t.hits + 1 } }

  abbrev pub after_busy : State K V → State K V
  after_busy s = record s { totals = record s.totals { asks = s.totals.asks + 1; busies = s.totals.busies + 1 } }

  -- the key flies under the next number
  abbrev pub after_flight : State K V → K → State K V
  after_flight s k =
      let t = s.totals in
      record s {
        flying = s.flying ++ (s.next, k) ∷ [];
        next = s.next + 1;
        totals = record t { asks = t.asks + 1; flights = t.flights + 1 };
      }

  -- the flight ends, and the value is kept under its key
  abbrev pub after_landing : State K V → ℕ → K → V → State K V
  after_landing s n k v =
      let t = s.totals in
      let evicted = t.evicted + (if is_full s.capacity s.kept then 1 else 0) in
      record s {
        kept = with_new s.capacity s.kept (k, v);
        flying = remove_entry (λ m. m == n) s.flying;
        totals = record t { landed = t.landed + 1; evicted = evicted };
      }

  -- the flight ends
  abbrev pub after_drop : State K V → ℕ → State K V
  after_drop s n =
      let t = s.totals in
      record s { flying = remove_entry (λ m. m == n) s.flying; totals = record t { dropped = t.dropped + 1 } }

  -- `eq` tells whether two keys are equal
  module _ (eq : K → K → Bool) where
    abbrev pub is_flying : State K V → K → Bool
    is_flying s k = list_any (λ f. eq k f.1) s.flying

    -- The answer to an ask and the state after it, by the value that is kept under the key and by whether the key is
    -- flying
    abbrev pub ask_step : State K V → K → Option V → Bool → Reply V × State K V
    ask_step s k (Some v) flying = (Here v, after_hit s (eq k))
    ask_step s k None true = (Busy, after_busy s)
    ask_step s k None false = (Fly s.next, after_flight s k)

    -- The answer to an event and the state after it. Nothing lands and nothing is dropped under a number that isn't
    -- flying
    abbrev pub step : State K V → Event K V → Option (Reply V × State K V)
    step s (Ask k) = Some (ask_step s k (lookup (eq k) s.kept) (is_flying s k))
    step s (Land n v) = option_map (λ k. (Done, after_landing s n k v)) (key_of s n)
    step s (Drop n) = option_map (λ k. (Done, after_drop s n)) (key_of s n)
