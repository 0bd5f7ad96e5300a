-- The six numbers of a tally.
use Rattle.std.proofs.Common.{◌≡◌, ℕ, zero, suc, ◌<◌, List, [], ◌∷◌, length, get_or, refl, sym, ◌∙◌, arith}
use Rattle.fx_turn.specs.Tallies.{six}

pub six_at : (f : ℕ → ℕ) (i : ℕ) → i < 6 → get_or (six f) i 0 ≡ f i
six_at f zero h = refl
six_at f (suc zero) h = refl
six_at f (suc (suc zero)) h = refl
six_at f (suc (suc (suc zero))) h = refl
six_at f (suc (suc (suc (suc zero)))) h = refl
six_at f (suc (suc (suc (suc (suc zero))))) h = refl
six_at f (suc (suc (suc (suc (suc (suc i)))))) h = absurd (omega arith)

-- a list of six numbers is told by them
pub six_again : (t : List ℕ) → length t ≡ 6 → six (λ i. get_or t i 0) ≡ t
six_again [] h = absurd (omega arith)
six_again (a ∷ []) h = absurd (omega arith)
six_again (a ∷ b ∷ []) h = absurd (omega arith)
six_again (a ∷ b ∷ c ∷ []) h = absurd (omega arith)
six_again (a ∷ b ∷ c ∷ d ∷ []) h = absurd (omega arith)
six_again (a ∷ b ∷ c ∷ d ∷ e ∷ []) h = absurd (omega arith)
six_again (a ∷ b ∷ c ∷ d ∷ e ∷ f ∷ []) h = refl
six_again (a ∷ b ∷ c ∷ d ∷ e ∷ f ∷ g ∷ t) h = absurd (omega arith)

six_same : (f g : ℕ → ℕ) → ((i : ℕ) → i < 6 → f i ≡ g i) → six f ≡ six g
six_same f g h = let a = h 0 (omega arith) in let b = h 1 (omega arith) in let c = h 2 (omega arith) in let d = h 3 (omega arith) in let e = h 4 (omega arith) in let z = h 5 (omega arith) in
    λ q. a q ∷ b q ∷ c q ∷ d q ∷ e q ∷ z q ∷ []

-- a list of six numbers is the tally that has them
pub six_is : (t : List ℕ) (f : ℕ → ℕ) → length t ≡ 6 → ((i : ℕ) → i < 6 → get_or t i 0 ≡ f i) → t ≡ six f
six_is t f long each = sym (six_again t long) ∙ six_same (λ i. get_or t i 0) f each
