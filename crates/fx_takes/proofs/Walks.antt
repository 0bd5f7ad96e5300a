-- Items that are accepted one by one.
use Rattle.std.proofs.Common.{◌≡◌, refl, ap, sym, ◌∙◌, ℕ, ◌+◌, ◌<◌, ◌≤◌, List, [], ◌∷◌, ◌++◌, length, drop, get_or, append_assoc, append-nil, Result, Ok, Err}
use Rattle.std.proofs.lemmas.List.{at_drop_more, at_drop_all}
use Rattle.fx_text.specs.Fault.{Fault, told}
use Rattle.std.specs.Prelude.{codes, decimal}
use Rattle.fx_text.specs.Paths.{inside}
use Rattle.fx_graph.specs.Refusal.{node_path}
use Rattle.fx_text.specs.Json.{after}
use Rattle.fx_text.specs.declared.fault.GraphFault.{GraphFault}
use Rattle.fx_text.specs.declared.fault.GraphFault.TheVariants as fault
use Rattle.fx_graph.specs.Refusal.{TellsErr}
use Rattle.fx_takes.specs.Accepted.{each_of}

-- what was made before, and then this
abbrev pub before : {B : Type 0} → List B → Result (List B) Fault → Result (List B) Fault
before done (Ok bs) = Ok (done ++ bs)
before done (Err e) = Err e

module _ {A B : Type 0} (f : ℕ → A → Result B Fault) (xs : List A) (k : ℕ) (x : A) (within : k < length xs) (is : x ≡ get_or xs k x) where
  rest_is : (done : List B) → before done (each_of f k (drop k xs)) ≡ before done (each_of f k (x ∷ drop (k + 1) xs))
  rest_is done = at_drop_more (λ ys. before done (each_of f k ys)) xs k x within ∙ ap (λ y. before done (each_of f k (y ∷ drop (k + 1) xs))) (sym is)

  put : (done : List B) (b : B) (r : Result (List B) Fault) → before done (after r (λ bs. Ok (b ∷ bs))) ≡ before (done ++ b ∷ []) r
  put done b (Ok bs) = ap Ok (sym (append_assoc done (b ∷ []) bs))
  put done b (Err e) = refl

  -- one more is made
  pub next_made : (done : List B) (b : B) (whole : Result (List B) Fault) → f k x ≡ Ok b → before done (each_of f k (drop k xs)) ≡ whole
      → before (done ++ b ∷ []) (each_of f (k + 1) (drop (k + 1) xs)) ≡ whole
  next_made done b whole made inv =
      sym (rest_is done
      ∙ ap (λ r. before done (after r (λ c. after (each_of f (k + 1) (drop (k + 1) xs)) (λ bs. Ok (c ∷ bs))))) made
      ∙ put done b (each_of f (k + 1) (drop (k + 1) xs))) ∙ inv

  -- the next one is refused
  pub next_told : (done : List B) (whole : Result (List B) Fault) (e : GraphFault) → TellsErr (f k x) e → before done (each_of f k (drop k xs)) ≡ whole
      → TellsErr whole e
  next_told done whole fault.Memory h inv = tt
  next_told done whole (fault.Refused code path) h inv =
      sym inv ∙ rest_is done ∙ ap (λ r. before done (after r (λ c. after (each_of f (k + 1) (drop (k + 1) xs)) (λ bs. Ok (c ∷ bs))))) h

pub all_made : {A B : Type 0} (f : ℕ → A → Result B Fault) (xs : List A) (k : ℕ) (done : List B) (whole : Result (List B) Fault)
    → length xs ≤ k → before done (each_of f k (drop k xs)) ≡ whole → whole ≡ Ok done
all_made f xs k done whole past inv =
    sym inv ∙ at_drop_all (λ ys. before done (each_of f k ys)) xs k past ∙ ap Ok (append-nil done)

pub refuses : {A : Type 0} (given : Result A Fault) (e : GraphFault) → TellsErr given e → (e ≡ fault.Memory → ⊥) → given ≡ Err (told e)
refuses given fault.Memory h other = absurd (other refl)
refuses given (fault.Refused code path) h other = h

-- ---- paths

pub inside_is : (path : List ℕ) (k : ℕ) → path ++ (91 ∷ (decimal k ++ 93 ∷ [])) ≡ inside path k
inside_is path k =
    sym (ap (λ t. t ++ codes "]") (append_assoc path (codes "[") (decimal k)) ∙ append_assoc path (codes "[" ++ decimal k) (codes "]"))

pub under_is : (path member : List ℕ) → path ++ (46 ∷ member) ≡ node_path path member
under_is path member = sym (append_assoc path (codes ".") member)
