use Rattle.std.proofs.Common.{◌≡◌, ◌∙◌, sym, ap, ℕ, ◌≤◌, ◌<◌, List, [], ◌∷◌, ◌++◌, length, map, drop, get_or, ◌+◌, arith, rules, refl}
use Rattle.std.specs.Prelude.{Option, Some, None, Result, Ok, Err, Bool, true, false, cond, String, if◌then◌else◌}
use Rattle.std.specs.List.{position}
use Rattle.std.specs.Str.{bytes_eq}
use Rattle.std.specs.BTreeMap.{BTreeMap, get_by_text}
use Rattle.std.specs.declared.alloc.Global.{Global}
use Rattle.std.specs.Option.{option_or}
use Rattle.std.specs.Prelude.{not}
use Rattle.std.proofs.lemmas.Slice.Eq.{bytes_eq-Decides}
use Rattle.std.proofs.lemmas.List.{at_drop_more}
use Rattle.std.proofs.lemmas.List.Sums.{prefix_len-le-length}
use Rattle.std.proofs.lemmas.List.Folds.{position_or_len_push}
use Rattle.std.proofs.lemmas.Grind.{common_steps}
use Rattle.fx_effect.specs.Meaning.{Meaning}
use Rattle.fx_text.specs.Nodes.{Node as RawNode}
use Rattle.fx_text.specs.declared.fault.GraphFault.{GraphFault}
use Rattle.fx_text.specs.declared.fault.GraphFault.TheVariants as fault
use Rattle.fx_graph.specs.Shown.{Shown}
use Rattle.fx_text.specs.Fault.{Fault}
use Rattle.fx_text.specs.Json.{after}
use Rattle.fx_graph.specs.Refusal.{refusal, where_so, refused_or, Tells, TellsErr}
use Rattle.fx_graph.specs.Nodes.{Form, place_of, IsIndex, node_of, nodes_of}

or_none : {A : Type 0} (o : Option A) → option_or o None ≡ o
or_none None = refl
or_none (Some a) = refl

position_push : {A : Type 0} (p : A → Bool) (xs : List A) (y : A) → position p (xs ++ y ∷ []) ≡ option_or (position p xs) (cond (p y) (Some (length xs)) None)
position_push p xs y =
    let h = prefix_len-le-length (λ x. not (p x)) xs in
    let e = position_or_len_push p xs y in
    grind (arith, common_steps, e, h)

-- a name that is put behind new ones
pub place_push : (names : List (List ℕ)) (name n : List ℕ) → place_of names name ≡ None → place_of (names ++ name ∷ []) n ≡ cond (bytes_eq name n) (Some (length names)) (place_of names n)
place_push names name n fresh =
    let t = position_push (λ m. bytes_eq m n) names name in
    elim (bytes_eq name n) as (λ b. (b ≡ true → name ≡ n) → place_of (names ++ name ∷ []) n ≡ option_or (place_of names n) (cond b (Some (length names)) None) → place_of (names ++ name ∷ []) n ≡ cond b (Some (length names)) (place_of names n)) [
      | true ↦ λ same e. e ∙ ap (λ o. option_or o (Some (length names))) (ap (place_of names) (sym (same refl)) ∙ fresh)
      | false ↦ λ same e. e ∙ or_none (place_of names n)
    ] ((bytes_eq-Decides name n).0) t

pub index_push : (old new : BTreeMap (String Global) ℕ) (names : List (List ℕ)) (name : List ℕ) → IsIndex old names → place_of names name ≡ None → ((n : List ℕ) → get_by_text new n ≡ cond (bytes_eq name n) (Some (length names)) (get_by_text old n)) → IsIndex new (names ++ name ∷ [])
index_push old new names name index fresh added n = added n ∙ ap (cond (bytes_eq name n) (Some (length names))) (index n) ∙ sym (place_push names name n fresh)

-- what is made of the rest is made of the next item and of what is behind it
pub rest_is : {A B : Type 0} (f : List A → B) (items : List A) (i : ℕ) (item : A) → i < length items → item ≡ get_or items i item → f (drop i items) ≡ f (item ∷ drop (i + 1) items)
rest_is f items i item within is = at_drop_more f items i item within ∙ ap (λ a. f (a ∷ drop (i + 1) items)) (sym is)

module _ {E : Type 0} (find : List ℕ → Option E) (meaning : E → Meaning) (project : Form) where
  -- the nodes behind one that was made
  pub step_ok : (before : List (Shown E)) (raw : RawNode) (raws : List RawNode) (node : Shown E) → node_of find meaning project before raw ≡ Ok node → nodes_of find meaning project before (raw ∷ raws) ≡ nodes_of find meaning project (before ++ node ∷ []) raws
  step_ok before raw raws node e = ap (λ r. after r (λ made. nodes_of find meaning project (before ++ made ∷ []) raws)) e

  pub step_err : (before : List (Shown E)) (raw : RawNode) (raws : List RawNode) (e : GraphFault) → TellsErr (node_of find meaning project before raw) e → TellsErr (nodes_of find meaning project before (raw ∷ raws)) e
  step_err before raw raws fault.Memory h = h
  step_err before raw raws (fault.Refused code path) h = ap (λ r. after r (λ made. nodes_of find meaning project (before ++ made ∷ []) raws)) h

pub told_after : {A : Type 0} (row : Option Fault) (given : Result A Fault) (e : GraphFault) → Tells row e → TellsErr (refused_or row given) e
told_after row given fault.Memory h = h
told_after row given (fault.Refused code path) h = ap (λ r. refused_or r given) h

pub told_behind : {A : Type 0} (row : Option Fault) (given : Result A Fault) (e : GraphFault) → row ≡ None → TellsErr given e → TellsErr (refused_or row given) e
told_behind row given e none h = rw none h
