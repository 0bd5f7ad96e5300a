-- Induction on the place in a list.
use Rattle.std.proofs.Common.{ℕ, zero, suc, ◌<◌, arith}

upto : (P : ℕ → Type 0) → ((n : ℕ) → ((m : ℕ) → m < n → P m) → P n) → (k m : ℕ) → m < k → P m
upto P step zero m h = absurd (omega arith)
upto P step (suc k) m h = step m (λ j l. upto P step k j (omega arith))

-- what follows for a place from those before it holds everywhere
pub by_place : (P : ℕ → Type 0) → ((n : ℕ) → ((m : ℕ) → m < n → P m) → P n) → (n : ℕ) → P n
by_place P step n = step n (λ m h. upto P step n m h)
