-- A core while no seat has its turn.
use Rattle.std.specs.Prelude.{◌≡◌, ℕ, Bool, List, [], ◌∷◌, Contains}
use Rattle.std.proofs.Common.{sym, ◌∙◌}
use Rattle.fx_core.specs.State.{State}
use Rattle.fx_core.specs.Sound.{IsSound}
use Rattle.fx_core.specs.declared.totals.Totals.{Totals}
use Rattle.fx_core.proofs.CallerLemmas.{numbers_once}
use Rattle.fx_turn.specs.Claims.{NumbersDiffer}
use Rattle.fx_directory.specs.declared.home.Home.{Home}
use Rattle.fx_directory.specs.Rows.{HasGrown}

-- all counts but the evictions
abbrev pub tally_of : Totals → List ℕ
tally_of t = t.asks ∷ t.hits ∷ t.busies ∷ t.flights ∷ t.landed ∷ t.dropped ∷ []

-- it is sound and of the row's scene and capacity, and each kept value suits the name under its key
pub record AtHome {N K V : Type 0} (eq : K → K → Bool) (suits : N → K → V → Type 0) (home : Home N) (s : State K V)
    : Type 0 where
  pub sound : IsSound eq s
  pub scene : s.scene ≡ home.scene
  pub capacity : s.capacity ≡ home.capacity
  pub each : (e : K × V) → Contains s.kept e → suits home.name e.0 e.1

module _ {N K V : Type 0} (eq : K → K → Bool) (suits : N → K → V → Type 0) where
  pub at_home_differ : (home : Home N) (s : State K V) → AtHome eq suits home s → NumbersDiffer s.flying
  at_home_differ home s h = numbers_once s.flying h.sound.numbers_differ

  pub still_at_home : (grown : N → N → Type 0)
      → ((old new : N) (k : K) (v : V) → grown old new → suits old k v → suits new k v)
      → (old new : Home N) (s : State K V) → HasGrown grown old new → AtHome eq suits old s → AtHome eq suits new s
  still_at_home grown still old new s g h =
      record {
        sound = h.sound;
        scene = h.scene ∙ sym g.1;
        capacity = h.capacity ∙ sym g.2;
        each = λ e there. still old.name new.name e.0 e.1 g.0 (h.each e there);
      }
