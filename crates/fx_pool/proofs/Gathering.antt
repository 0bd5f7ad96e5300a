-- Workers that are set up one by one, and taken apart one by one, from the end of a list.
use Rattle.std.proofs.Common.{◌≡◌, ℕ, List, [], ◌∷◌, ◌++◌, length, map, reverse, sym, ap, ◌∙◌, append_assoc, arith}
use Rattle.std.proofs.lemmas.List.{reverse-append, reverse-reverse, map-append, append-nil}
use Rattle.fx_pool.specs.declared.worker.Worker.{Worker}
use Rattle.fx_pool.specs.Working.{seats_of, outs_of}

module _ {A : Type 0} where
  -- one more from the end of what remains
  pub moved_on : (done more : List A) (x : A) (all : List A) → done ++ reverse (more ++ x ∷ []) ≡ all → (done ++ x ∷ []) ++ reverse more ≡ all
  moved_on done more x all e = append_assoc done (x ∷ []) (reverse more) ∙ (ap (λ l. done ++ l) (sym (reverse-append more (x ∷ []))) ∙ e)

  pub empty : (xs : List A) → length xs ≡ 0 → xs ≡ []
  empty [] e = λ k. []
  empty (x ∷ xs) e = absurd (omega arith)

module _ {A B : Type 0} where
  -- the same, of what f makes of what remains
  pub mapped_on : (f : A → B) (done : List B) (more : List A) (x : A) (all : List B) → done ++ map f (reverse (more ++ x ∷ [])) ≡ all → (done ++ f x ∷ []) ++ map f (reverse more) ≡ all
  mapped_on f done more x all e = append_assoc done (f x ∷ []) (map f (reverse more)) ∙ (ap (λ (l : List A). done ++ map f l) (sym (reverse-append more (x ∷ []))) ∙ e)

  -- nothing remains of a list that was turned round
  pub mapped_all : (f : A → B) (done : List B) (xs none all : List A) → none ≡ [] → xs ≡ reverse all → done ++ map f (reverse none) ≡ map f (reverse xs) → done ≡ map f all
  mapped_all f done xs none all n t e =
      sym (append-nil done)
      ∙ (ap (λ (l : List A). done ++ map f (reverse l)) (sym n)
      ∙ (e ∙ (ap (λ (l : List A). map f (reverse l)) t ∙ ap (map f) (reverse-reverse all))))

module _ {S D T : Type 0} where
  pub seat_moved_on : (done : List S) (more : List (Worker S D T)) (w : Worker S D T) (all : List S) → done ++ reverse (seats_of (more ++ w ∷ [])) ≡ all → (done ++ w.seat ∷ []) ++ reverse (seats_of more) ≡ all
  seat_moved_on done more w all e = moved_on done (seats_of more) w.seat all (ap (λ l. done ++ reverse l) (sym (map-append {A = Worker S D T} {B = S} (λ v. v.seat) more (w ∷ []))) ∙ e)

  pub outs_moved_on : (done : List (ℕ × T)) (more : List (Worker S D T)) (w : Worker S D T) (all : List (ℕ × T)) → done ++ outs_of (reverse (more ++ w ∷ [])) ≡ all → (done ++ w.outs.items) ++ outs_of (reverse more) ≡ all
  outs_moved_on done more w all e = append_assoc done w.outs.items (outs_of (reverse more)) ∙ (ap (λ (l : List (Worker S D T)). done ++ outs_of l) (sym (reverse-append more (w ∷ []))) ∙ e)

  pub one_seated : (ws : List (Worker S D T)) (w : Worker S D T) (rest : List S) (all : List S) → seats_of ws ++ reverse (rest ++ w.seat ∷ []) ≡ all → seats_of (ws ++ w ∷ []) ++ reverse rest ≡ all
  one_seated ws w rest all e = ap (λ l. l ++ reverse rest) (map-append {A = Worker S D T} {B = S} (λ v. v.seat) ws (w ∷ [])) ∙ moved_on (seats_of ws) rest w.seat all e
