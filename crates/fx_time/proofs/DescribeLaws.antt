-- What an effect described.
use Rattle.std.proofs.Common.{◌≡◌, ◌∙◌, List, [], ◌∷◌, ◌++◌, ap, sym, subst}
use Rattle.std.specs.List.{AllZip}

-- the one clip
pub one_clip : {A B : Type 0} (R : A → B → Type 0) (clip : A) (set : B) (old new : List B) → new ≡ old ++ set ∷ []
    → old ≡ [] → R clip set → AllZip R (clip ∷ []) new
one_clip R clip set old new more none is =
    subst (AllZip R (clip ∷ [])) (sym (more ∙ ap (λ l. l ++ set ∷ []) none)) (is, _)
