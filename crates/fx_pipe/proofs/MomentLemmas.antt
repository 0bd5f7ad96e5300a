-- Moments that follow one another: their frames, what was made of them, and the files that were put.
use Rattle.std.proofs.Common.{◌≡◌, ℕ, ◌+◌, List, [], ◌∷◌, ◌++◌, length, refl, sym, ap, ◌∙◌, subst, arith, append_assoc, append-nil}
use mathlib.Core.Path.{fun_ext}
use Rattle.fx_outside.specs.Outside.{Files, SameFiles, SameBut}
use Rattle.fx_seq.specs.declared.source.SourceFrame.{SourceFrame}
use Rattle.fx_pipe.specs.declared.made.Made.{Made}
use Rattle.fx_pipe.specs.Moments.{AreMade, all_of, with_all}

pub all-append : (fs gs : List (List SourceFrame)) → all_of (fs ++ gs) ≡ all_of fs ++ all_of gs
all-append [] gs = refl
all-append (f ∷ fs) gs = ap (λ xs. f ++ xs) (all-append fs gs) ∙ sym (append_assoc f (all_of fs) (all_of gs))

pub all-one : (fs : List (List SourceFrame)) (f : List SourceFrame) → all_of (fs ++ f ∷ []) ≡ all_of fs ++ f
all-one fs f = all-append fs (f ∷ []) ∙ ap (λ xs. all_of fs ++ xs) (append-nil f)

-- what was made of some moments, and then of others
pub made_more : (right : List SourceFrame → ℕ → Made → Type 0) (seen : List SourceFrame) (m : ℕ) (fs gs : List (List SourceFrame)) (ds es : List Made)
    → AreMade right seen m fs ds → AreMade right (seen ++ all_of fs) (m + length fs) gs es → AreMade right seen m (fs ++ gs) (ds ++ es)
made_more right seen m [] gs [] es made more =
    let at : m + length {A = List SourceFrame} [] ≡ m = omega arith in
    subst (λ (xs : List SourceFrame). AreMade right xs m gs es) (append-nil seen)
    (subst (λ (n : ℕ). AreMade right (seen ++ []) n gs es) at more)
made_more right seen m [] gs (d ∷ ds) es made more = absurd made
made_more right seen m (f ∷ fs) gs [] es made more = absurd made
made_more right seen m (f ∷ fs) gs (d ∷ ds) es made more =
    let at : m + length (f ∷ fs) ≡ m + 1 + length fs = omega arith in
    let rest : AreMade right (seen ++ f ++ all_of fs) (m + 1 + length fs) gs es =
    subst (λ (xs : List SourceFrame). AreMade right xs (m + 1 + length fs) gs es) (sym (append_assoc seen f (all_of fs)))
    (subst (λ (n : ℕ). AreMade right (seen ++ (f ++ all_of fs)) n gs es) at more) in
    (made.0, made_more right (seen ++ f) (m + 1) fs gs ds es made.1 rest)

-- as many as there are moments
pub made_few : (right : List SourceFrame → ℕ → Made → Type 0) (seen : List SourceFrame) (m : ℕ) (fs : List (List SourceFrame)) (ds : List Made)
    → AreMade right seen m fs ds → length ds ≡ length fs
made_few right seen m [] [] made = refl
made_few right seen m [] (d ∷ ds) made = absurd made
made_few right seen m (f ∷ fs) [] made = absurd made
made_few right seen m (f ∷ fs) (d ∷ ds) made =
    let e : length ds ≡ length fs = made_few right (seen ++ f) (m + 1) fs ds made.1 in
    omega (arith, e)

-- files that are put one after the other
pub all_put : (ds es : List Made) (files : Files) → with_all (ds ++ es) files ≡ with_all es (with_all ds files)
all_put [] es files = refl
all_put (d ∷ ds) es files = all_put ds es _

pub put_more : (ds es : List Made) (a b c : Files) → SameFiles (with_all ds a) b → SameFiles (with_all es b) c → SameFiles (with_all (ds ++ es) a) c
put_more ds es a b c p q name =
    q name ∙ ap (λ (files : Files). with_all es files name) (fun_ext p) ∙ ap (λ (files : Files). files name) (sym (all_put ds es a))

pub put_but_more : (name : List ℕ) (ds es : List Made) (a b c : Files) → SameFiles (with_all ds a) b → SameBut name (with_all es b) c → SameBut name (with_all (ds ++ es) a) c
put_but_more name ds es a b c p q other apart =
    q other apart ∙ ap (λ (files : Files). with_all es files other) (fun_ext p) ∙ ap (λ (files : Files). files other) (sym (all_put ds es a))
