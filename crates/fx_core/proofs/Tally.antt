-- The totals of a run count what was done and what was answered.
use Rattle.std.proofs.Common.{◌≡◌, ℕ, ◌+◌, Bool, true, false, cond, List, [], ◌∷◌, Option, Some, None, refl, subst, arith}
use Rattle.std.specs.Prelude.{count_by}
use Rattle.std.specs.Map.{lookup}
use Rattle.std.specs.Option.{option_map}
use Rattle.fx_core.specs.declared.totals.Totals.{Totals}
use Rattle.fx_core.specs.State.{State}
use Rattle.fx_core.specs.Step.{Event, Ask, Land, Drop, Reply, Done, key_of, after_landing, after_drop, is_flying, ask_step, step}
use Rattle.fx_core.specs.Run.{Answered, IsRun, CountsRun, is_ask, is_land, is_drop, is_here, is_busy, is_fly}
use Rattle.fx_core.proofs.Counting.{count, count_by-is}

-- a count of a longer list
one_more : {A : Type 0} (t : A → Bool) (x : A) (xs : List A) (old new : ℕ) → old ≡ count_by t xs → new ≡ (cond (t x) (old + 1) old) → new ≡ count_by t (x ∷ xs)
one_more t x xs old new h e = by (t x) refl where
  by : (b : Bool) → t x ≡ b → new ≡ count_by t (x ∷ xs)
  by true is =
      let rises : new ≡ old + 1 = rw is at e in
      let one : cond {A = ℕ} (t x) 1 0 ≡ 1 = rw is refl in
      let all : count_by t (x ∷ xs) ≡ cond {A = ℕ} (t x) 1 0 + count t xs = count_by-is t (x ∷ xs) in
      let rest = count_by-is t xs in omega arith
  by false is =
      let stays : new ≡ old = rw is at e in
      let none : cond {A = ℕ} (t x) 1 0 ≡ 0 = rw is refl in
      let all : count_by t (x ∷ xs) ≡ cond {A = ℕ} (t x) 1 0 + count t xs = count_by-is t (x ∷ xs) in
      let rest = count_by-is t xs in omega arith

module _ {K V : Type 0} where
  -- what a answered adds to the totals
  record Rises (m : Answered K V) (old new : Totals) : Type 0 where
    asks : new.asks ≡ cond (is_ask m.event) (old.asks + 1) old.asks
    hits : new.hits ≡ cond (is_here m.reply) (old.hits + 1) old.hits
    busies : new.busies ≡ cond (is_busy m.reply) (old.busies + 1) old.busies
    flights : new.flights ≡ cond (is_fly m.reply) (old.flights + 1) old.flights
    landed : new.landed ≡ cond (is_land m.event) (old.landed + 1) old.landed
    dropped : new.dropped ≡ cond (is_drop m.event) (old.dropped + 1) old.dropped

  counts_more : (m : Answered K V) (ms : List (Answered K V)) (old new : Totals) → CountsRun ms old → Rises m old new → CountsRun (m ∷ ms) new
  counts_more m ms old new c r = record {
    asks = one_more (λ m. is_ask m.event) m ms old.asks new.asks c.asks r.asks;
    hits = one_more (λ m. is_here m.reply) m ms old.hits new.hits c.hits r.hits;
    busies = one_more (λ m. is_busy m.reply) m ms old.busies new.busies c.busies r.busies;
    flights = one_more (λ m. is_fly m.reply) m ms old.flights new.flights c.flights r.flights;
    landed = one_more (λ m. is_land m.event) m ms old.landed new.landed c.landed r.landed;
    dropped = one_more (λ m. is_drop m.event) m ms old.dropped new.dropped c.dropped r.dropped;
  }

  abbrev answered : Event K V → Reply V → Answered K V
  answered e r = record { event = e; reply = r }

module _ {K V : Type 0} (eq : K → K → Bool) where
  rises_ask : (s : State K V) (k : K) (o : Option V) (b : Bool) → Rises {K = K} {V = V} (answered (Ask k) (ask_step eq s k o b).0) s.totals (ask_step eq s k o b).1.totals
  rises_ask s k (Some v) b = record { asks = refl; hits = refl; busies = refl; flights = refl; landed = refl; dropped = refl }
  rises_ask s k None true = record { asks = refl; hits = refl; busies = refl; flights = refl; landed = refl; dropped = refl }
  rises_ask s k None false = record { asks = refl; hits = refl; busies = refl; flights = refl; landed = refl; dropped = refl }

  rises_land : (s : State K V) (n : ℕ) (k : K) (v : V) → Rises {K = K} {V = V} (answered (Land n v) Done) s.totals (after_landing s n k v).totals
  rises_land s n k v = record { asks = refl; hits = refl; busies = refl; flights = refl; landed = refl; dropped = refl }

  rises_drop : (s : State K V) (n : ℕ) → Rises {K = K} {V = V} (answered (Drop n) Done) s.totals (after_drop s n).totals
  rises_drop s n = record { asks = refl; hits = refl; busies = refl; flights = refl; landed = refl; dropped = refl }

  rises_after : (e : Event K V) (r : Reply V) (old : Totals) (s : State K V) (p : Reply V × State K V) → Rises {K = K} {V = V} (answered e p.0) old p.1.totals → Some p ≡ Some (r, s) → Rises {K = K} {V = V} (answered e r) old s.totals
  rises_after e r old s p t h = let same : p ≡ (r, s) = cc in subst (λ (q : Reply V × State K V). Rises {K = K} {V = V} (answered e q.0) old q.1.totals) same t

  rises_landing : (b s : State K V) (n : ℕ) (v : V) (r : Reply V) (o : Option K) → option_map {U = Reply V × State K V} (λ k. (Done, after_landing b n k v)) o ≡ Some (r, s) → Rises {K = K} {V = V} (answered (Land n v) r) b.totals s.totals
  rises_landing b s n v r None h = cc
  rises_landing b s n v r (Some k) h = rises_after (Land n v) r b.totals s (Done, after_landing b n k v) (rises_land b n k v) h

  rises_dropping : (b s : State K V) (n : ℕ) (r : Reply V) (o : Option K) → option_map {U = Reply V × State K V} (λ (k : K). (Done, after_drop b n)) o ≡ Some (r, s) → Rises {K = K} {V = V} (answered (Drop n) r) b.totals s.totals
  rises_dropping b s n r None h = cc
  rises_dropping b s n r (Some k) h = rises_after (Drop n) r b.totals s (Done, after_drop b n) (rises_drop b n) h

  rises_step : (b s : State K V) (e : Event K V) (r : Reply V) → step eq b e ≡ Some (r, s) → Rises {K = K} {V = V} (answered e r) b.totals s.totals
  rises_step b s (Ask k) r h = rises_after (Ask k) r b.totals s (ask_step eq b k (lookup (eq k) b.kept) (is_flying eq b k)) (rises_ask b k (lookup (eq k) b.kept) (is_flying eq b k)) h
  rises_step b s (Land n v) r h = rises_landing b s n v r (key_of b n) h
  rises_step b s (Drop n) r h = rises_dropping b s n r (key_of b n) h

  pub counts_run : (ms : List (Answered K V)) (s : State K V) → IsRun eq ms s → CountsRun ms s.totals
  counts_run [] s run = rw (run.2) record { asks = refl; hits = refl; busies = refl; flights = refl; landed = refl; dropped = refl }
  counts_run (m ∷ ms) s run = counts_more m ms run.0.totals s.totals (counts_run ms run.0 run.1) (rises_step run.0 s m.event m.reply run.2)
