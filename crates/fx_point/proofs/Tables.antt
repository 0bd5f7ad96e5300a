-- Tables that are filled in order.
use Rattle.std.proofs.Common.{◌≡◌, ℕ, ◌+◌, ◌<◌, List, length, length-set, get_or, set, below_more, arith, ◌∙◌}
use Rattle.std.proofs.lemmas.List.{get_or-set_same, get_or-set_other}

-- one more place
pub one_more : (table : List ℕ) (i v : ℕ) (f : ℕ → ℕ) → i < length table → v ≡ f i
    → ((k : ℕ) → k < i → get_or table k 0 ≡ f k) → (k : ℕ) → k < i + 1 → get_or (set table i v) k 0 ≡ f k
one_more table i v f low is below =
    below_more _ _ (λ k few. get_or-set_other table i k v 0 (λ same. omega arith) ∙ below k few)
    (get_or-set_same table i v 0 low ∙ is)

pub stays_long : (table : List ℕ) (i v : ℕ) → length table ≡ 256 → length (set table i v) ≡ 256
stays_long table i v long = length-set table i v ∙ long
