-- What the last seat has, and what the core counted.
use Rattle.std.proofs.Common.{◌≡◌, ℕ, ◌+◌, ◌-◌, ◌<◌, ◌==◌, Bool, cond, min, List, [], ◌∷◌, ◌++◌, length, All, sym, ap, ◌∙◌, subst, arith, append-nil, eq-eqb, ne_eqb}
use Rattle.std.specs.Prelude.{flat_map}
use Rattle.std.proofs.lemmas.List.Elements.{All-head}
use mathlib.Core.Logic.{dite}
use native.Mathlib.Decide.{ℕ_discrete}
use Rattle.fx_core.specs.State.{State}
use Rattle.fx_core.specs.Sound.{IsSound}
use Rattle.fx_core.specs.declared.totals.Totals.{Totals}
use Rattle.fx_turn.specs.Tallies.{tally_of_all}
use Rattle.fx_turn.specs.Claims.{SameClaims}
use Rattle.fx_turn.proofs.CallerLemmas.{same_as_none}
use Rattle.fx_directory.specs.declared.home.Home.{Home}
use Rattle.fx_directory.specs.Keeps.{AtHome}
use Rattle.fx_directory.specs.Seats.{Made, AddsUp, totals_of}
use Rattle.fx_directory.specs.Sitting.{counts_in, flights_in, made_of}

abbrev pub made_in : Totals → Made
made_in t = record { asks = t.asks; hits = t.hits; busies = t.busies; flights = t.flights; landed = t.landed; dropped = t.dropped }

made_ext : (m n : Made) → m.asks ≡ n.asks → m.hits ≡ n.hits → m.busies ≡ n.busies → m.flights ≡ n.flights → m.landed ≡ n.landed → m.dropped ≡ n.dropped → m ≡ n
made_ext m n a b c d e f = λ i. record { asks = a i; hits = b i; busies = c i; flights = d i; landed = e i; dropped = f i }

up : (n : ℕ) → n ≡ 0 + n
up n = omega arith

module _ {N K V : Type 0} (eq : K → K → Bool) (suits : N → K → V → Type 0) (home : Home N) where
  pub record Ended (s : State K V) (m : Made) : Type 0 where
    pub fit : AtHome eq suits home s
    pub flying : s.flying ≡ []
    pub made : made_in s.totals ≡ m

  -- the values of a row that is closed are one core
  pub ended : (cores : List (State K V)) (core : State K V) (tally : List ℕ) (claims : List (ℕ × K)) → cores ≡ core ∷ [] → All (λ g. AtHome eq suits home g) cores
      → tally_of_all counts_in cores ≡ tally → SameClaims (flat_map flights_in cores) claims → claims ≡ [] → Ended core (made_of tally)
  ended cores core tally claims one fit tallies same none =
      let same' = subst (λ (l : List (ℕ × K)). SameClaims (flat_map flights_in cores) l) none same in
      let nothing = same_as_none _ same' in
      let flat : flat_map flights_in cores ≡ core.flying ++ [] = ap (λ (l : List (State K V)). flat_map flights_in l) one in
      let t : tally_of_all counts_in (core ∷ []) ≡ tally = subst (λ (l : List (State K V)). tally_of_all counts_in l ≡ tally) one tallies in
      record {
        fit = All-head (λ (g : State K V). AtHome eq suits home g) core [] (subst (λ (l : List (State K V)). All (λ g. AtHome eq suits home g) l) one fit);
        flying = sym (append-nil core.flying) ∙ (sym flat ∙ nothing);
        made = made_ext (made_in core.totals) _ (up _) (up _) (up _) (up _) (up _) (up _) ∙ ap made_of t;
      }

  evicted : (s : State K V) → IsSound eq s → s.totals.evicted ≡ cond (s.capacity == 0) 0 (s.totals.landed - min s.totals.landed s.capacity)
  evicted s sound = dite (ℕ_discrete s.capacity 0)
      (λ none. sound.none_evicted none ∙ sym (ap (λ (b : Bool). cond b 0 (s.totals.landed - min s.totals.landed s.capacity)) (eq-eqb s.capacity 0 none)))
      (λ some. let more : 0 < s.capacity = omega arith in
      sound.evicted_count more ∙ (ap (λ n. s.totals.landed - n) (sound.kept_count more) ∙ sym (ap (λ (b : Bool). cond b 0 (s.totals.landed - min s.totals.landed s.capacity)) (ne_eqb s.capacity 0 some))))

  pub totals_are : (s : State K V) (m : Made) → Ended s m → s.totals ≡ totals_of home.capacity m
  totals_are s m e =
      let a : s.totals ≡ totals_of s.capacity (made_in s.totals) = λ i. record { asks = s.totals.asks; hits = s.totals.hits; busies = s.totals.busies; flights = s.totals.flights; landed = s.totals.landed; dropped = s.totals.dropped; evicted = evicted s e.fit.sound i } in
      a ∙ (ap (λ n. totals_of n (made_in s.totals)) e.fit.capacity ∙ ap (totals_of home.capacity) e.made)

  pub sums : (s : State K V) (m : Made) → Ended s m → AddsUp m
  sums s m e =
      let n : length s.flying ≡ 0 = ap length e.flying in
      let g = e.fit.sound.flights in
      subst AddsUp e.made (record { asks = e.fit.sound.asks; flights = omega arith })
