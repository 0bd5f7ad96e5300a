-- Whole runs of a core: what its callers did, in whatever order, and what they were answered.
use Rattle.std.specs.Prelude.{◌≡◌, ℕ, ◌≤◌, ◌<◌, ◌==◌, nat_eq, Bool, true, false, List, [], ◌∷◌, count_by, Contains, Option, Some, None, option_map}
use Rattle.std.specs.Map.{lookup, keys_of}
use Rattle.std.specs.List.{filter_map, cons_option, IsDistinct}
use Rattle.fx_core.specs.State.{State, no_totals}
use Rattle.fx_core.specs.Step.{Event, Ask, Land, Drop, Reply, Here, Busy, Fly, Done, step}
use Rattle.fx_core.specs.declared.totals.Totals.{Totals}

-- what a caller did, and what it was answered
pub record Answered (K V : Type 0) : Type 0 where
  pub event : Event K V
  pub reply : Reply V

module _ {K V : Type 0} where
  -- nothing is kept or flying, and nothing was counted
  abbrev pub IsStart : State K V → Type 0
  IsStart s = (s.kept ≡ []) × (s.flying ≡ []) × (s.totals ≡ no_totals)

  -- The events, the latest first, lead from a start to the state: each is a step from the state to which the
  -- earlier ones lead.
  abbrev pub IsRun : (K → K → Bool) → List (Answered K V) → State K V → Type 0
  IsRun eq [] s = IsStart s
  IsRun eq (m ∷ earlier) s =
      (before : State K V) × IsRun eq earlier before × (step eq before m.event ≡ Some (m.reply, s))

  -- the flight that the event began: its number and its key
  abbrev pub flight_of : Event K V → Reply V → Option (ℕ × K)
  flight_of (Ask k) (Fly n) = Some (n, k)
  flight_of (Ask k) (Here v) = None
  flight_of (Ask k) Busy = None
  flight_of (Ask k) Done = None
  flight_of (Land n v) r = None
  flight_of (Drop n) r = None

  -- the flights that were begun, the latest first
  abbrev pub flights_of : List (Answered K V) → List (ℕ × K)
  flights_of events = filter_map (λ m. flight_of m.event m.reply) events

  -- the number under which the event landed something or dropped it
  abbrev pub ending_of : Event K V → Option ℕ
  ending_of (Ask k) = None
  ending_of (Land n v) = Some n
  ending_of (Drop n) = Some n

  -- the numbers under which something landed or was dropped, the latest first
  abbrev pub endings_of : List (Answered K V) → List ℕ
  endings_of events = filter_map (λ m. ending_of m.event) events

  -- the value that the event landed, under the key of its flight
  abbrev pub landing_of : Event K V → List (ℕ × K) → Option (K × V)
  landing_of (Ask k) flights = None
  landing_of (Land n v) flights = option_map (λ k. (k, v)) (lookup (λ m. m == n) flights)
  landing_of (Drop n) flights = None

  -- the keys and values that landed, the latest first
  abbrev pub landings_of : List (Answered K V) → List (K × V)
  landings_of [] = []
  landings_of (m ∷ earlier) = cons_option (landing_of m.event (flights_of earlier)) (landings_of earlier)

  -- the value that landed last under the key
  abbrev pub last_landed : (K → K → Bool) → K → List (Answered K V) → Option V
  last_landed eq k events = lookup (eq k) (landings_of events)

  abbrev pub is_ask : Event K V → Bool
  is_ask (Ask k) = true
  is_ask (Land n v) = false
  is_ask (Drop n) = false

  abbrev pub is_land : Event K V → Bool
  is_land (Ask k) = false
  is_land (Land n v) = true
  is_land (Drop n) = false

  abbrev pub is_drop : Event K V → Bool
  is_drop (Ask k) = false
  is_drop (Land n v) = false
  is_drop (Drop n) = true

  -- no number comes twice
  abbrev pub NumbersDiffer : List (Answered K V) → Type 0
  NumbersDiffer events = IsDistinct nat_eq (keys_of (flights_of events))

module _ {V : Type 0} where
  abbrev pub is_here : Reply V → Bool
  is_here (Here v) = true
  is_here Busy = false
  is_here (Fly n) = false
  is_here Done = false

  abbrev pub is_busy : Reply V → Bool
  is_busy (Here v) = false
  is_busy Busy = true
  is_busy (Fly n) = false
  is_busy Done = false

  abbrev pub is_fly : Reply V → Bool
  is_fly (Here v) = false
  is_fly Busy = false
  is_fly (Fly n) = true
  is_fly Done = false

-- the totals count what was done and what was answered
pub record CountsRun {K V : Type 0} (events : List (Answered K V)) (t : Totals) : Type 0 where
  pub asks : t.asks ≡ count_by (λ m. is_ask m.event) events
  pub hits : t.hits ≡ count_by (λ m. is_here m.reply) events
  pub busies : t.busies ≡ count_by (λ m. is_busy m.reply) events
  pub flights : t.flights ≡ count_by (λ m. is_fly m.reply) events
  pub landed : t.landed ≡ count_by (λ m. is_land m.event) events
  pub dropped : t.dropped ≡ count_by (λ m. is_drop m.event) events

module _ {K V : Type 0} (eq : K → K → Bool) where
  -- A value that is here is the one that landed last under the key.
  abbrev pub IsLastLanded : List (Answered K V) → Answered K V → Type 0
  IsLastLanded earlier m = (k : K) (v : V) → m.event ≡ Ask k → m.reply ≡ Here v → last_landed eq k earlier ≡ Some v

  -- Where an ask is answered by a flight, every earlier flight of the key has landed or was dropped.
  abbrev pub IsOnlyFlight : List (Answered K V) → Answered K V → Type 0
  IsOnlyFlight earlier m =
      (k : K) (n : ℕ) (f : ℕ × K) → m.event ≡ Ask k → m.reply ≡ Fly n
      → Contains (flights_of earlier) f → eq k f.1 ≡ true → Contains (endings_of earlier) f.0

  -- Where values are kept, and none was dropped or evicted, each key was answered by one flight at most.
  abbrev pub FliesOnce : List (Answered K V) → State K V → Type 0
  FliesOnce events s =
      0 < s.capacity → s.totals.dropped ≡ 0 → s.totals.evicted ≡ 0
      → (k : K) → count_by (λ f. eq k f.1) (flights_of events) ≤ 1
