-- What an ask leaves to the row and to the seat.
use Rattle.std.proofs.Common.{◌≡◌, ℕ, ◌≤◌, Bool, true, false, ◌⊎◌, List, [], ◌∷◌, ◌++◌, Some, None, Ok, Err, Contains, refl, ap, ◌∙◌, inl, inr, subst, arith}
use Rattle.std.specs.Arc.{arc_value}
use Rattle.std.specs.declared.result.Result.{Result}
use Rattle.std.specs.Result.{IfOk, OnErr}
use Rattle.std.specs.Cmp.{IsEquivalence}
use Rattle.fx_core.specs.State.{State, SameMake}
use Rattle.fx_core.specs.Sound.{IsSound}
use Rattle.fx_core.specs.Answer.{Joins, IsKeptFor}
use Rattle.fx_core.specs.declared.flight.Answer.{Answer}
use Rattle.fx_core.specs.declared.flight.Answer.TheVariants as answer
use Rattle.fx_turn.specs.Claims.{times, mark_of, NumbersDiffer, AreAmong, OnlyOwnLeft, claims_after}
use Rattle.fx_turn.proofs.CallerLemmas.{times-here, times-append, none_marked, mark-append, claims_after-same, claims_after-more}
use Rattle.fx_directory.specs.declared.home.Home.{Home}
use Rattle.fx_directory.specs.Keeps.{AtHome}
use Rattle.fx_directory.specs.Seats.{IfHere, IfFly}
use Rattle.fx_directory.proofs.Flown.{stands}
use Rattle.std.specs.List.{list_any}
use Rattle.std.proofs.lemmas.List.Folds.{list_any_at}
use Rattle.fx_core.proofs.CallerLemmas.{first, later}

module _ {N K V : Type 0} (eq : K → K → Bool) (suits : N → K → V → Type 0) (home : Home N) where
  -- a core that kept nothing but what suits is fit to go home
  pub at_home_after : (s t : State K V) → AtHome eq suits home s → SameMake s t → IsSound eq t → ((e : K × V) → Contains t.kept e → Contains s.kept e ⊎ suits home.name e.0 e.1) → AtHome eq suits home t
  at_home_after s t h same sound kept = record {
    sound = sound;
    scene = same.0 ∙ h.scene;
    capacity = same.1 ∙ h.capacity;
    each = λ e there. elim (kept e there) [ inl old ↦ h.each e old | inr new ↦ new ];
  }

  -- what is kept under an equal key suits the key that was asked for
  pub here_suits : {E : Type 0} (laws : IsEquivalence eq) (same_key : (j k : K) (v : V) → eq j k ≡ true → suits home.name j v → suits home.name k v) (r : Result (Answer K V) E) (s : State K V) (k : K)
      → AtHome eq suits home s → IfOk r (IsKeptFor eq s.kept k) → IfOk r (IfHere (suits home.name k))
  here_suits laws same_key (Ok (answer.Here v)) s k h kept = same_key kept.0 k (arc_value v) (laws.symm kept.0 k ∙ kept.2) (h.each (kept.0, arc_value v) kept.1)
  here_suits laws same_key (Ok (answer.Fly f)) s k h kept = tt
  here_suits laws same_key (Ok answer.Busy) s k h kept = tt
  here_suits laws same_key (Err e) s k h kept = tt

-- a new number was among none
unmarked_before : {K : Type 0} (old new : List (ℕ × K)) (f : ℕ × K) → NumbersDiffer new → new ≡ old ++ f ∷ [] → mark_of f.0 old ≡ None
unmarked_before old new f differ e = none_marked f.0 old (let a = times-append f.0 old (f ∷ []) in let b = times-here f.0 f [] refl in let c : times f.0 (old ++ f ∷ []) ≤ 1 = subst (λ l. times f.0 l ≤ 1) e (differ f.0) in omega arith)

module _ {K V : Type 0} where
  -- no flight ended
  pub none_left : {E : Type 0} (r : Result (Answer K V) E) (s t : State K V) (mine : List (ℕ × K)) → IfOk r (Joins s.flying t.flying) → OnErr r (t ≡ s) → OnlyOwnLeft mine s.flying t.flying
  none_left (Ok (answer.Here v)) s t mine joins err n m e = inl (ap (mark_of n) joins ∙ e)
  none_left (Ok (answer.Fly f)) s t mine joins err n m e = inl (ap (mark_of n) joins ∙ mark-append n m s.flying ((f.ticket.number, arc_value f.key) ∷ []) e)
  none_left (Ok answer.Busy) s t mine joins err n m e = inl (ap (mark_of n) joins ∙ e)
  none_left (Err x) s t mine joins err n m e = inl (ap (λ (z : State K V). mark_of n z.flying) err ∙ e)

  -- the seat's claims are joined by what joins the core's
  pub joins_mine : {E : Type 0} (r : Result (Answer K V) E) (old new mine : List (ℕ × K)) → NumbersDiffer mine → AreAmong mine old → NumbersDiffer new → IfOk r (Joins old new) → IfOk r (Joins mine (claims_after old new mine))
  joins_mine (Ok (answer.Here v)) old new mine own among differ joins = ap (λ l. claims_after old l mine) joins ∙ claims_after-same old mine own among
  joins_mine (Ok (answer.Fly f)) old new mine own among differ joins = ap (λ l. claims_after old l mine) joins ∙ claims_after-more old mine (f.ticket.number, arc_value f.key) own among (unmarked_before old new (f.ticket.number, arc_value f.key) differ joins)
  joins_mine (Ok answer.Busy) old new mine own among differ joins = ap (λ l. claims_after old l mine) joins ∙ claims_after-same old mine own among
  joins_mine (Err e) old new mine own among differ joins = tt

  pub new_to_mine : {E : Type 0} (r : Result (Answer K V) E) (old new mine : List (ℕ × K)) → AreAmong mine old → NumbersDiffer new → IfOk r (Joins old new) → IfOk r (IfFly (λ n. mark_of n mine ≡ None))
  new_to_mine (Ok (answer.Here v)) old new mine among differ joins = tt
  new_to_mine (Ok (answer.Fly f)) old new mine among differ joins = elim (mark_of f.ticket.number mine) as (λ o. mark_of f.ticket.number mine ≡ o → o ≡ None) [
    | None ↦ λ e. refl
    | Some m ↦ λ e. let there = among f.ticket.number m e in let none = unmarked_before old new (f.ticket.number, arc_value f.key) differ joins in cc
  ] refl
  new_to_mine (Ok answer.Busy) old new mine among differ joins = tt
  new_to_mine (Err e) old new mine among differ joins = tt

-- a key of the seat's own flights flies in the core
some_passes : {A : Type 0} (p : A → Bool) (xs : List A) → list_any p xs ≡ true → (x : A) × Contains xs x × (p x ≡ true)
some_passes p [] e = cc
some_passes p (x ∷ xs) e = (elim (p x) as (λ b. p x ≡ b → (y : _) × Contains (x ∷ xs) y × (p y ≡ true)) [
  | true ↦ λ is. (x, first x xs, is)
  | false ↦ λ is. let h = some_passes p xs (rw is at e) in (h.0, later x xs h.0 h.1, h.2)
]) refl

pub flies_too : {K : Type 0} (eq : K → K → Bool) (k : K) (mine flying : List (ℕ × K)) → NumbersDiffer mine → AreAmong mine flying → list_any (λ f. eq k f.1) mine ≡ true → list_any (λ f. eq k f.1) flying ≡ true
flies_too eq k mine flying own among any =
    let f = some_passes (λ (f : ℕ × _). eq k f.1) mine any in
    let c = stands mine flying f.0 own among f.1 in
    list_any_at (λ (f : ℕ × _). eq k f.1) flying c.0 f.0 c.1 (ap (λ (z : ℕ × _). eq k z.1) c.2 ∙ f.2)
