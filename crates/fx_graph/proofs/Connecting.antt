-- What the rows that refuse nothing tell of a use of an effect.
use Rattle.std.proofs.Common.{◌≡◌, ◌∙◌, sym, ap, refl, ℕ, ◌<◌, List, [], ◌∷◌, length, map, arith, rules, subst}
use Rattle.std.specs.Prelude.{Option, Some, None, Bool, true, false, cond, not, ◌&&◌, ◌||◌, is_some, is_none, IfSome, All}
use Rattle.std.specs.Option.{option_and_then}
use Rattle.std.specs.List.{find, list_any, AllZip, position}
use Rattle.std.specs.Str.{bytes_eq}
use Rattle.std.proofs.lemmas.Bool.{false≢true}
use Rattle.std.proofs.lemmas.Option.{none-some}
use Rattle.std.proofs.lemmas.List.Elements.{All-nil, All-cons}
use Rattle.std.proofs.lemmas.List.Quantifiers.{position-Some}
use Rattle.fx_params.specs.declared.def.ParamDef.{ParamDef}
use Rattle.fx_params.specs.Parameter.{Parameter, made}
use Rattle.fx_effect.specs.Shape.{Clip, MayBe}
use Rattle.fx_text.specs.declared.value.RawClip.{RawClip}
use Rattle.fx_text.specs.declared.value.RawParam.{RawParam}
use Rattle.fx_text.specs.declared.value.RawValue.{RawValue}
use Rattle.fx_text.specs.declared.value.RawValue.TheVariants as raw
use Rattle.fx_text.specs.declared.value.RawScalar.{RawScalar}
use Rattle.fx_params.specs.declared.def.ParamValue.{ParamValue}
use Rattle.fx_graph.specs.Kept.{IsOf}
use Rattle.fx_graph.specs.Uses.{is_connected, connection}
use Rattle.fx_graph.specs.Params.{given_put, plain_put, valued, value_in, param_of}

is_there : {A : Type 0} (o : Option A) → is_none o ≡ false → is_some o ≡ true
is_there None h = absurd (false≢true (sym h))
is_there (Some a) h = refl

-- the test fails at the first item, and finds nothing behind it
first_fails : {A : Type 0} (p : A → Bool) (x : A) (xs : List A) → find p (x ∷ xs) ≡ None → (p x ≡ false) × (find p xs ≡ None)
first_fails p x xs h =
    elim (p x) as (λ b. cond b (Some x) (find p xs) ≡ None → (b ≡ false) × (find p xs ≡ None)) [
      | true ↦ λ e. absurd (none-some x (sym e))
      | false ↦ λ e. (refl, e)
    ] h

-- a clip that is found has a node, where each clip's node is there
found_resolves : (place : List ℕ → Option ℕ) (p : RawClip → Bool) (clips : List RawClip) → list_any p clips ≡ true → find (λ r. is_none (place r.node)) clips ≡ None → is_some (option_and_then (λ r. place r.node) (find p clips)) ≡ true
found_resolves place p [] any none = absurd (false≢true any)
found_resolves place p (r ∷ clips) any none =
    let parts = first_fails (λ r. is_none (place r.node)) r clips none in
    elim (p r) as (λ b. (b || list_any p clips) ≡ true → is_some (option_and_then (λ r. place r.node) (cond b (Some r) (find p clips))) ≡ true) [
      | true ↦ λ _. is_there (place r.node) parts.0
      | false ↦ λ rest. found_resolves place p clips rest parts.1
    ] any

connected_one : (optional connected : Bool) → (not optional && not connected) ≡ false → optional ≡ false → connected ≡ true
connected_one true connected h e = absurd (false≢true (sym e))
connected_one false true h e = refl
connected_one false false h e = absurd (false≢true (sym h))

-- each clip that isn't optional is connected
pub connected_all : (place : List ℕ → Option ℕ) (clips : List RawClip) (inputs : List Clip) → find (λ i. not i.optional && not (is_connected clips i.name)) inputs ≡ None → find (λ r. is_none (place r.node)) clips ≡ None → AllZip MayBe inputs (map is_some (map (connection place clips) inputs))
connected_all place clips [] missing lost = tt
connected_all place clips (i ∷ inputs) missing lost =
    let parts = first_fails (λ i. not i.optional && not (is_connected clips i.name)) i inputs missing in
    ((λ e. found_resolves place (λ r. bytes_eq r.name i.name) clips (connected_one i.optional (is_connected clips i.name) parts.0 e) lost), connected_all place clips inputs parts.1 lost)

below_one : (place : List ℕ → Option ℕ) (n : ℕ) → ((name : List ℕ) (k : ℕ) → place name ≡ Some k → k < n) → (found : Option RawClip) → IfSome (option_and_then (λ r. place r.node) found) (λ m. m < n)
below_one place n below None = tt
below_one place n below (Some r) = elim (place r.node) as (λ o. place r.node ≡ o → IfSome o (λ m. m < n)) [ None ↦ λ _. tt | Some k ↦ λ e. below r.node k e ] refl

-- each clip names an earlier node or nothing
pub earlier_all : (place : List ℕ → Option ℕ) (n : ℕ) → ((name : List ℕ) (k : ℕ) → place name ≡ Some k → k < n) → (clips : List RawClip) (inputs : List Clip) → All (λ clip. IfSome clip (λ m. m < n)) (map (connection place clips) inputs)
earlier_all place n below clips [] = All-nil (λ clip. IfSome clip (λ m. m < n))
earlier_all place n below clips (i ∷ inputs) =
    All-cons (λ clip. IfSome clip (λ m. m < n)) (connection place clips i) (map (connection place clips) inputs)
    (below_one place n below (find (λ r. bytes_eq r.name i.name) clips)) (earlier_all place n below clips inputs)

plain_def : (p : Parameter) (v : Option ParamValue) → (plain_put p v).def ≡ p.def
plain_def p None = refl
plain_def p (Some v) = refl

valued_def : (p : Parameter) (v : RawValue) → (valued p v).def ≡ p.def
valued_def p (raw.Plain s) = plain_def p (value_in p.def s)
valued_def p (raw.Keyed keys step) = refl

given_def : (p : Parameter) (g : Option RawParam) → (given_put p g).def ≡ p.def
given_def p None = refl
given_def p (Some g) = valued_def p g.value

-- each parameter is of its definition, in order
pub defs_all : (params : List RawParam) (defs : List ParamDef) → AllZip IsOf defs (map (param_of params) defs)
defs_all params [] = tt
defs_all params (d ∷ defs) = (given_def (made d) (find (λ p. bytes_eq p.name d.name) params), defs_all params defs)
