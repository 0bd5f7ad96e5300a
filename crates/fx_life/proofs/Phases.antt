-- A node's phase in a state: none where it has no live instance.
use Rattle.std.proofs.Common.{◌≡◌, ◌≢◌, ℕ, ◌==◌, ◌||◌, Bool, true, false, not, cond, List, [], ◌∷◌, ◌++◌, Option, Some, None, Contains, sym, refl, ap, ◌∙◌, eq-eqb, ne_eqb}
use Rattle.std.specs.List.{list_any}
use Rattle.std.proofs.lemmas.List.Elements.{Contains-push}
use Rattle.std.proofs.lemmas.List.Folds.{list_any-append}
use Rattle.std.proofs.lemmas.Map.Views.{list_any-from_Contains, Contains-from_any, any-filter_same}
use Rattle.std.specs.Cmp.{nat_eq_equiv}
use borrow.Author.Tests.{eqb-true}
use Rattle.fx_life.specs.Plugin.{without}
use Rattle.fx_life.specs.Course.{Phase, Idle, with_phase, IsIn}

-- whether the node has a live instance
abbrev pub is_live : List ℕ → ℕ → Bool
is_live live node = list_any (λ n. node == n) live

abbrev pub phase_of : List ℕ → (ℕ → Phase) → ℕ → Option Phase
phase_of live phases node = cond (is_live live node) (Some (phases node)) None

is_live-true : (live : List ℕ) (node : ℕ) → Contains live node → is_live live node ≡ true
is_live-true live node c = list_any-from_Contains nat_eq_equiv node live c

is_live-false : (live : List ℕ) (node : ℕ) → (Contains live node → ⊥) → is_live live node ≡ false
is_live-false live node none =
    (elim (is_live live node) as (λ b. is_live live node ≡ b → b ≡ false) [
      | true ↦ λ is. absurd (none (Contains-from_any (λ x y. eqb-true x y) node live is))
      | false ↦ λ _. refl
    ]) refl

pub present : (live : List ℕ) (phases : ℕ → Phase) (node : ℕ) (phase : Phase) → IsIn live phases node phase
    → phase_of live phases node ≡ Some phase
present live phases node phase there =
    ap (λ b. cond b (Some (phases node)) None) (is_live-true live node there.0) ∙ ap (λ p. Some p) there.1

pub absent : (live : List ℕ) (phases : ℕ → Phase) (node : ℕ) → (Contains live node → ⊥)
    → phase_of live phases node ≡ None
absent live phases node none =
    ap (λ b. cond b (Some (phases node)) None) (is_live-false live node none)

-- ---- after a node's phase was changed

with_phase-same : (phases : ℕ → Phase) (node : ℕ) (phase : Phase) → with_phase phases node phase node ≡ phase
with_phase-same phases node phase = ap (λ b. cond b phase (phases node)) (eq-eqb node node refl)

with_phase-other : (phases : ℕ → Phase) (node n : ℕ) (phase : Phase) → n ≢ node
    → with_phase phases node phase n ≡ phases n
with_phase-other phases node n phase other = ap (λ b. cond b phase (phases n)) (ne_eqb n node other)

pub changed : (live : List ℕ) (phases : ℕ → Phase) (node : ℕ) (phase : Phase) → Contains live node
    → phase_of live (with_phase phases node phase) node ≡ Some phase
changed live phases node phase there =
    present live (with_phase phases node phase) node phase (there, with_phase-same phases node phase)

pub unchanged : (live : List ℕ) (phases : ℕ → Phase) (node n : ℕ) (phase : Phase) → n ≢ node
    → phase_of live (with_phase phases node phase) n ≡ phase_of live phases n
unchanged live phases node n phase other =
    ap (λ p. cond (is_live live n) (Some p) None) (with_phase-other phases node n phase other)

-- ---- after an instance came or went

pub added : (live : List ℕ) (phases : ℕ → Phase) (node : ℕ)
    → phase_of (live ++ node ∷ []) (with_phase phases node Idle) node ≡ Some Idle
added live phases node = changed (live ++ node ∷ []) phases node Idle (Contains-push live node)

or_none : (a b : Bool) → b ≡ false → (a || (b || false)) ≡ a
or_none true b e = refl
or_none false b e = ap (λ c. c || false) e

is_live-push : (live : List ℕ) (node n : ℕ) → n ≢ node → is_live (live ++ node ∷ []) n ≡ is_live live n
is_live-push live node n other =
    list_any-append (λ m. n == m) live (node ∷ []) ∙ or_none (is_live live n) (n == node) (ne_eqb n node other)

pub added_other : (live : List ℕ) (phases : ℕ → Phase) (node n : ℕ) → n ≢ node
    → phase_of (live ++ node ∷ []) (with_phase phases node Idle) n ≡ phase_of live phases n
added_other live phases node n other =
    ap (λ b. cond b (Some (with_phase phases node Idle n)) None) (is_live-push live node n other)
    ∙ unchanged live phases node n Idle other

left_out : (node k : ℕ) → (node == k) ≡ true → not (k == node) ≡ false
left_out node k same = ap not (eq-eqb k node (sym (eqb-true node k same)))

pub removed : (live : List ℕ) (phases : ℕ → Phase) (node : ℕ) → phase_of (without node live) phases node ≡ None
removed live phases node =
    ap (λ b. cond b (Some (phases node)) None)
    (any-filter_same (λ k. node == k) (λ k. not (k == node)) false (left_out node) live)

stays_in : (node n k : ℕ) → n ≢ node → (n == k) ≡ true → not (k == node) ≡ true
stays_in node n k other same = ap not (ne_eqb k node (λ e. other (eqb-true n k same ∙ e)))

pub removed_other : (live : List ℕ) (phases : ℕ → Phase) (node n : ℕ) → n ≢ node
    → phase_of (without node live) phases n ≡ phase_of live phases n
removed_other live phases node n other =
    ap (λ b. cond b (Some (phases n)) None)
    (any-filter_same (λ k. n == k) (λ k. not (k == node)) true (λ k same. stays_in node n k other same) live)
