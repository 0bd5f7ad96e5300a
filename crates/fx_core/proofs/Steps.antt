-- What the code does to a core's parts is a step, so it keeps the core sound.
use Rattle.std.proofs.Common.{◌≡◌, ℕ, ◌+◌, ◌==◌, Bool, true, false, cond, List, [], ◌∷◌, ◌++◌, Some, None, sym, refl, arith}
use mir.Val.{bool_byte}
use Rattle.std.specs.Cmp.{IsEquivalence}
use Rattle.std.specs.Map.{lookup, remove_entry}
use Rattle.std.specs.List.{list_any}
use Rattle.fx_core.specs.declared.totals.Totals.{Totals}
use Rattle.fx_core.specs.State.{State}
use Rattle.fx_core.specs.Shelf.{Shelf}
use Rattle.fx_core.specs.Step.{with_front, is_full, with_new, step, Ask, Land, Drop, Here, Busy, Fly, Done}
use Rattle.fx_core.specs.Sound.{IsSound}
use Rattle.fx_core.specs.Run.{IsStart}
use Rattle.fx_core.specs.Seen.{state_of}
use Rattle.fx_core.proofs.Soundness.{sound, sound_step}

pub as_number : (b : Bool) → bool_byte b ≡ cond {A = ℕ} b 1 0
as_number true = refl
as_number false = refl

module _ {K V : Type 0} (eq : K → K → Bool) (laws : IsEquivalence eq) where
  pub sound_start : (s : State K V) → IsStart s → IsSound eq s
  sound_start s e = sound eq laws s record {
    once = λ k. rw (e.0, e.1) (omega arith);
    numbers = λ n. rw (e.1) (omega arith);
    below = λ n h. rw (e.1) refl;
    asks = rw (e.2) refl;
    flights = rw (e.1, e.2) refl;
    fit = rw (e.0) (omega arith);
    kept_is = λ h. rw (e.0, e.2) refl;
    full = λ h. absurd (let h' = rw (e.2) at h in omega arith);
    none_evicted = λ h. rw (e.2) refl;
  }

  module _ (scene : ℕ) (old : Shelf K V) (fs : List (ℕ × K)) (t : Totals) (r : IsSound eq (state_of scene old fs t)) where
    pub sound_hit : (new : Shelf K V) (k : K) (v : V) → Some v ≡ lookup (eq k) old.entries → new.entries ≡ with_front (eq k) old.entries → new.capacity ≡ old.capacity
        → IsSound eq (state_of scene new fs (record t { asks = t.asks + 1; hits = t.hits + 1 }))
    sound_hit new k v f entries capacity =
        let totals : Totals = record t { asks = t.asks + 1; hits = t.hits + 1 } in
        sound_step eq laws (state_of scene old fs t) (state_of scene new fs totals) (Ask k) (Here v) r
        (rw (sym f) (λ i. Some (Here v, record { scene = scene; kept = sym entries i; flying = fs; capacity = sym capacity i; next = t.flights; totals = totals })))

    pub sound_busy : (k : K) → None ≡ lookup (eq k) old.entries → list_any (λ f. eq k f.1) fs ≡ true
        → IsSound eq (state_of scene old fs (record t { asks = t.asks + 1; busies = t.busies + 1 }))
    sound_busy k gone flies =
        let totals : Totals = record t { asks = t.asks + 1; busies = t.busies + 1 } in
        sound_step eq laws (state_of scene old fs t) (state_of scene old fs totals) (Ask k) Busy r (rw (sym gone, flies) refl)

    pub sound_fly : (new : List (ℕ × K)) (k : K) → None ≡ lookup (eq k) old.entries → list_any (λ f. eq k f.1) fs ≡ false → new ≡ fs ++ (t.flights, k) ∷ []
        → IsSound eq (state_of scene old new (record t { asks = t.asks + 1; flights = t.flights + 1 }))
    sound_fly new k gone still flying =
        let totals : Totals = record t { asks = t.asks + 1; flights = t.flights + 1 } in
        sound_step eq laws (state_of scene old fs t) (state_of scene old new totals) (Ask k) (Fly t.flights) r
        (rw (sym gone, still) (λ i. Some (Fly t.flights, record { scene = scene; kept = old.entries; flying = sym flying i; capacity = old.capacity; next = t.flights + 1; totals = totals })))

    -- what a landing does to the parts
    pub land_step : (new : Shelf K V) (left : List (ℕ × K)) (n : ℕ) (k : K) (v : V) (evicted : ℕ) → lookup (λ m. m == n) fs ≡ Some k → new.entries ≡ with_new old.capacity old.entries (k, v) → new.capacity ≡ old.capacity
        → left ≡ remove_entry (λ m. m == n) fs → evicted ≡ t.evicted + cond (is_full old.capacity old.entries) 1 0
        → step eq (state_of scene old fs t) (Land n v) ≡ Some (Done, state_of scene new left (record t { landed = t.landed + 1; evicted = evicted }))
    land_step new left n k v evicted f entries capacity flying out =
        rw f (λ i. Some (Done, record { scene = scene; kept = sym entries i; flying = sym flying i; capacity = sym capacity i; next = t.flights; totals = record t { landed = t.landed + 1; evicted = sym out i } }))

    pub drop_step : (left : List (ℕ × K)) (n : ℕ) (k : K) → lookup (λ m. m == n) fs ≡ Some k → left ≡ remove_entry (λ m. m == n) fs
        → step eq (state_of scene old fs t) (Drop n) ≡ Some (Done, state_of scene old left (record t { dropped = t.dropped + 1 }))
    drop_step left n k f flying =
        rw f (λ i. Some (Done, record { scene = scene; kept = old.entries; flying = sym flying i; capacity = old.capacity; next = t.flights; totals = record t { dropped = t.dropped + 1 } }))
