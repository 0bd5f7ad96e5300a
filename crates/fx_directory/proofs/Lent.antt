-- A core that was taken and is lent to a call.
use Rattle.std.proofs.Common.{◌≡◌, Bool, Contains, ℕ, sym, subst}
use Rattle.fx_turn.specs.Claims.{NumbersDiffer}
use Rattle.fx_turn.specs.Seats.{SeatState, Agrees}
use Rattle.fx_directory.specs.declared.home.Home.{Home}
use Rattle.fx_core.specs.State.{State}
use Rattle.fx_directory.specs.Keeps.{AtHome, at_home_differ}
use Rattle.fx_directory.specs.Sitting.{counts_in, flights_in}
use Rattle.fx_directory.proofs.Flown.{stands}

-- it is the row's, and has what the seat has
pub record IsLent {N K V : Type 0} (eq : K → K → Bool) (suits : N → K → V → Type 0) (home : Home N) (s : SeatState (Home N) (State K V) K) (v : State K V) : Type 0 where
  pub fit : AtHome eq suits home v
  pub agrees : Agrees counts_in flights_in s v
  pub differ : NumbersDiffer v.flying

module _ {N K V : Type 0} (eq : K → K → Bool) (suits : N → K → V → Type 0) (home : Home N) (s : SeatState (Home N) (State K V) K) (v : State K V) where
  -- it is lent as it was taken
  pub is_lent : (taken : State K V) → v ≡ taken → AtHome eq suits home taken → Agrees counts_in flights_in s taken → IsLent eq suits home s v
  is_lent taken same fit agrees =
      let fit' = subst (λ (z : State K V). AtHome eq suits home z) (sym same) fit in
      record { fit = fit'; agrees = subst (Agrees counts_in flights_in s) (sym same) agrees; differ = at_home_differ eq suits home v fit' }

  -- a flight of the seat stands in it
  pub own_stands : IsLent eq suits home s v → (f : ℕ × K) → Contains s.claims f → Contains v.flying f
  own_stands lent f there = stands s.claims v.flying f lent.agrees.2 lent.agrees.1 there
