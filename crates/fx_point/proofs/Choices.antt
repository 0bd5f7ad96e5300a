-- Tests of numbers that are kept in 64 bits.
use Rattle.std.proofs.Common.{◌≡◌, ℕ, ◌<◌, ◌==◌, ℤ, pos, ap, arith, w64, FitsSigned, of_z}
use Rattle.std.specs.Bool.{one_answer}
use Rattle.std.specs.Cmp.{signed_Decides, unsigned_Decides}
use Rattle.std.specs.Ordering.{int_eq}
use Rattle.std.proofs.lemmas.Int.{ints}

pub is_number : (z : ℤ) (k : ℕ) → FitsSigned w64 z → k < 1000 → (of_z w64 z == k) ≡ int_eq z (pos k)
is_number z k fits few =
    one_answer (of_z w64 z == k) (int_eq z (pos k)) (
      λ is. there ((unsigned_Decides (of_z w64 z) k).0 is),
      λ same. (unsigned_Decides (of_z w64 z) k).1 (ap (of_z w64) same),
    )
    (signed_Decides z (pos k))
  where
    there : of_z w64 z ≡ k → z ≡ pos k
    there is = omega (arith, ints)
