-- The node and the file of the output.
use Rattle.std.proofs.Common.{◌≡◌, ◌∙◌, ◌+◌, ◌<◌, ℕ, Bool, true, false, cond, not, List, [], ◌∷◌, length, map, Option, Some, None, refl, sym, ap, arith, rules}
use Rattle.std.specs.Prelude.{Result, Ok, Err}
use Rattle.std.specs.List.{position, prefix_len}
use Rattle.std.specs.Str.{bytes_eq}
use Rattle.std.proofs.lemmas.List.{length-map}
use Rattle.fx_graph.specs.declared.node.Node.{Node}
use Rattle.fx_graph.specs.Shown.{Shown, shown, names_of}
use Rattle.fx_graph.specs.Nodes.{place_of}
use Rattle.fx_graph.proofs.Keeping.{place_below}

prefix_map : {A B : Type 0} (f : A → B) (p : B → Bool) (xs : List A) → prefix_len p (map f xs) ≡ prefix_len (λ x. p (f x)) xs
prefix_map f p [] = refl
prefix_map f p (x ∷ xs) = ap (λ n. cond (p (f x)) (1 + n) 0) (prefix_map f p xs)

pub position_map : {A B : Type 0} (f : A → B) (p : B → Bool) (xs : List A) → position p (map f xs) ≡ position (λ x. p (f x)) xs
position_map f p xs = rw (prefix_map f (λ b. not (p b)) xs, length-map xs f) refl

-- the place of the node of a name
pub named_place : {E : Type 0} (nodes : List (Node E)) (name : List ℕ) → position (λ node. bytes_eq node.name name) nodes ≡ place_of (names_of (map shown nodes)) name
named_place nodes name =
    sym (position_map (λ s. s.name) (λ n. bytes_eq n name) (map shown nodes)
    ∙ position_map shown (λ s. bytes_eq s.name name) nodes)

-- it stands in the list
pub place_within : {E : Type 0} (nodes : List (Node E)) (name : List ℕ) (k : ℕ) → place_of (names_of (map shown nodes)) name ≡ Some k → k < length nodes
place_within nodes name k e =
    let low : k < length (names_of (map shown nodes)) = place_below (names_of (map shown nodes)) name k e in
    let long : length (names_of (map shown nodes)) ≡ length nodes = length-map (map shown nodes) (λ n. n.name) ∙ length-map nodes shown in
    omega (arith, low, long)
