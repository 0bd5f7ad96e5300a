-- A fact of each item and of those before it, when one more item comes.
use Rattle.std.proofs.Common.{◌≡◌, ◌++◌, ℕ, zero, suc, List, [], ◌∷◌, take, Some, None, subst, sym, refl}
use Rattle.std.specs.Prelude.{slice_get}
use Rattle.std.proofs.lemmas.Option.{none-some, get_or_from_slice_get}
use Rattle.fx_effect.specs.Meaning.{Meaning}
use Rattle.fx_graph.specs.Shown.{Shown}
use Rattle.fx_graph.specs.Nodes.{Form}
use Rattle.fx_graph.specs.Kept.{IsNode, AreNodes}

each_pushed : {A : Type 0} (P : List A → A → Type 0) (xs : List A) (y : A) → ((k : ℕ) (x : A) → slice_get xs k ≡ Some x → P (take k xs) x) → P xs y → (k : ℕ) (x : A) → slice_get (xs ++ y ∷ []) k ≡ Some x → P (take k (xs ++ y ∷ [])) x
each_pushed P [] y all last zero x e = subst (P []) (get_or_from_slice_get (y ∷ []) 0 x y e) last
each_pushed P [] y all last (suc k) x e = absurd (none-some x e)
each_pushed P (z ∷ xs) y all last zero x e = all 0 x e
each_pushed P (z ∷ xs) y all last (suc k) x e = each_pushed (λ before. P (z ∷ before)) xs y (λ j w h. all (suc j) w h) last k x e

pub nodes_pushed : {E : Type 0} (meaning : E → Meaning) (project : Form) (nodes : List (Shown E)) (node : Shown E) → AreNodes meaning project nodes → IsNode meaning project nodes node → AreNodes meaning project (nodes ++ node ∷ [])
nodes_pushed meaning project nodes node are last = each_pushed (IsNode meaning project) nodes node are last

pub no_nodes : {E : Type 0} (meaning : E → Meaning) (project : Form) → AreNodes meaning project []
no_nodes meaning project k node e = absurd (none-some node e)
