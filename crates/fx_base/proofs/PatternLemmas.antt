-- A text that does not begin with a sign.
use Rattle.std.proofs.Common.{◌≡◌, ◌≢◌, refl, ap, ℕ, List, [], ◌∷◌}
use Rattle.std.proofs.lemmas.Bool.{cond-false, false_from_ne_true}
use Rattle.std.proofs.lemmas.Bool.Decides.{Decides-eqb}
use Rattle.fx_base.specs.Pattern.{without_signs, is_sign}

pub without_signs-none : (bs : List ℕ) → ((rest : List ℕ) → bs ≢ 35 ∷ rest) → without_signs bs ≡ bs
without_signs-none [] h = refl
without_signs-none (b ∷ bs) h =
    cond-false (is_sign b) _ _ (false_from_ne_true _ (λ t. h bs (ap (λ d. d ∷ bs) ((Decides-eqb b 35).0 t))))
