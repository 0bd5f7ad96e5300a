-- What a landing leaves to the row and to the seat.
use Rattle.std.proofs.Common.{◌≡◌, ℕ, List, ◌∷◌, ◌++◌, Ok, Err, Contains, inl, ap, ◌∙◌}
use Rattle.std.specs.declared.result.Result.{Result}
use Rattle.std.specs.Result.{OnOk, OnErr}
use Rattle.fx_core.specs.State.{State}
use Rattle.fx_turn.specs.Claims.{mark_of, NumbersDiffer, AreAmong, OnlyOwnLeft, claims_after}
use Rattle.fx_directory.proofs.Flown.{Without, only_own, claims_left}

module _ {K V : Type 0} (s t : State K V) (mine : List (ℕ × K)) (f : ℕ × K) (differ : NumbersDiffer s.flying) (among : AreAmong mine s.flying) (own : NumbersDiffer mine) (there : Contains mine f) where
  -- the flight left, or none did
  pub own_left : {A E : Type 0} (r : Result A E)
      → OnOk r ((before : List (ℕ × K)) × (after : List (ℕ × K)) × (s.flying ≡ before ++ f ∷ after) × (t.flying ≡ before ++ after)) → OnErr r (t ≡ s) → OnlyOwnLeft mine s.flying t.flying
  own_left (Ok a) left err = only_own s.flying t.flying mine f differ among own there left
  own_left (Err e) left err = λ n m h. inl (ap (λ (z : State K V). mark_of n z.flying) err ∙ h)

  pub left_at_ok : {A E : Type 0} (r : Result A E)
      → OnOk r ((before : List (ℕ × K)) × (after : List (ℕ × K)) × (s.flying ≡ before ++ f ∷ after) × (t.flying ≡ before ++ after)) → OnOk r (Without mine f (claims_after s.flying t.flying mine))
  left_at_ok (Ok a) left = claims_left s.flying t.flying mine f differ among own there left
  left_at_ok (Err e) left = tt
