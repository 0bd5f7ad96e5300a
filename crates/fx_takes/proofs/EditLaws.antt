-- Edits that are accepted are of parameters of the graph, each with the definition of its value.
use Rattle.std.proofs.Common.{◌≡◌, refl, ap, sym, ◌∙◌, subst, ℕ, zero, suc, ◌+◌, ◌&&◌, Bool, true, false, List, [], ◌∷◌, map, All, codes, Option, Some, None, Result, Ok, Err, get_or, slice_get, bytes_eq, position}
use Rattle.std.proofs.lemmas.Bool.{false≢true}
use Rattle.std.proofs.lemmas.List.Elements.{All-nil, All-cons, All-head, All-tail}
use Rattle.std.specs.List.{AllByRecursion}
use Rattle.std.proofs.lemmas.List.Quantifiers.{position-Some}
use Rattle.std.proofs.lemmas.Option.{none-some, same_Some, slice_get-get_or}
use Rattle.std.specs.Option.{option_map, option_and_then}
use Rattle.fx_params.specs.declared.def.ParamDef.{ParamDef}
use Rattle.fx_params.specs.declared.def.ParamValue.{ParamValue}
use Rattle.fx_params.specs.Parameter.{Parameter, made}
use Rattle.fx_text.specs.Fault.{Fault}
use Rattle.fx_text.specs.Json.{after}
use Rattle.fx_text.specs.Paths.{inside}
use Rattle.fx_text.specs.Takes.{Take as RawTake}
use Rattle.fx_text.specs.declared.raw.RawEdit.{RawEdit}
use Rattle.fx_text.specs.declared.value.RawValue.{RawValue}
use Rattle.fx_text.specs.declared.value.RawValue.TheVariants as raw
use Rattle.fx_text.specs.declared.fault.GraphCode.{GraphCode}
use Rattle.fx_graph.specs.Edits.{HasParam, IsEditOf}
use Rattle.fx_graph.specs.Named.{is_effect, effect_named, params_of, params_in, params_at, param_named}
use Rattle.fx_graph.specs.Params.{plain_put, value_in, valued}
use Rattle.fx_graph.specs.Refusal.{refused_or, found_or, node_path}
use Rattle.fx_graph.specs.Shown.{Does, Source, Effect, Shown}
use Rattle.fx_scene.specs.Takes.{AreEdits, IsEdit}
use Rattle.fx_scene.specs.Takes as scene
use Rattle.fx_scene.specs.declared.take.Edit.{Edit}
use Rattle.fx_scene.specs.declared.take.Take.{Take}
use Rattle.fx_takes.specs.Shown.{EditShown, TakeShown, edit_shown, take_shown}
use Rattle.fx_takes.specs.Accepted.{each_of, param_edit, node_edit, edit_of, edits_of, take_of, takes_of}

-- ---- results

err_ok : {A B : Type 0} (e : Fault) (a : A) → (let r : Result A Fault = Err e in r ≡ Ok a) → B
err_ok {A} {B} e a h = absurd (false≢true (ap is_fine h))
  where
    is_fine : Result A Fault → Bool
    is_fine (Ok x) = true
    is_fine (Err f) = false

ok_same : {A : Type 0} (a b : A) → (let r : Result A Fault = Ok a in r ≡ Ok b) → a ≡ b
ok_same {A} a b h = ap value h
  where
    value : Result A Fault → A
    value (Ok x) = x
    value (Err f) = a

record Went {A B : Type 0} (r : Result A Fault) (next : A → Result B Fault) (b : B) : Type 0 where
  pub first : A
  pub is : r ≡ Ok first
  pub then_is : next first ≡ Ok b

went : {A B : Type 0} (r : Result A Fault) (next : A → Result B Fault) (b : B) → after r next ≡ Ok b → Went r next b
went (Ok a) next b h = record { first = a; is = refl; then_is = h }
went (Err e) next b h = err_ok e b h

found_is : {A : Type 0} (code : GraphCode) (path : List ℕ) (o : Option A) (a : A) → found_or code path o ≡ Ok a → o ≡ Some a
found_is code path (Some b) a h = ap Some (ok_same b a h)
found_is code path None a h = err_ok _ a h

unrefused : {A : Type 0} (row : Option Fault) (r : Result A Fault) (a : A) → refused_or row r ≡ Ok a → r ≡ Ok a
unrefused None r a h = h
unrefused (Some e) r a h = err_ok e a h

-- ---- the definition stays

plain_def : (p : Parameter) (o : Option ParamValue) → (plain_put p o).def ≡ p.def
plain_def p None = refl
plain_def p (Some v) = refl

valued_def : (p : Parameter) (v : RawValue) → (valued p v).def ≡ p.def
valued_def p (raw.Plain s) = plain_def p (value_in p.def s)
valued_def p (raw.Keyed keys step) = refl

-- ---- an edit

second : (a b : Bool) → a && b ≡ true → b ≡ true
second true b h = h
second false b h = absurd (false≢true h)

record IsParamNamed (params : List Parameter) (i : ℕ) (def : ParamDef) : Type 0 where
  pub there : Parameter
  pub is_there : slice_get params i ≡ Some there
  pub same : there.def ≡ def

named_is : (params : List Parameter) (name : List ℕ) (r : ℕ × ParamDef) → param_named params name ≡ Some r → IsParamNamed params r.0 r.1
named_is params name r h = by (position (λ p. bytes_eq p.def.name name) params) h
  where
    in_place : (i : ℕ) (o : Option Parameter) → slice_get params i ≡ o → option_map (λ (p : Parameter). (i, p.def)) o ≡ Some r → IsParamNamed params r.0 r.1
    in_place i None is h = absurd (none-some r h)
    in_place i (Some p) is h =
        let same : (i, p.def) ≡ r = same_Some (i, p.def) r h in
        subst (λ (x : ℕ × ParamDef). IsParamNamed params x.0 x.1) same (record { there = p; is_there = is; same = refl })

    by : (o : Option ℕ) → option_and_then (λ i. option_map (λ (p : Parameter). (i, p.def)) (slice_get params i)) o ≡ Some r → IsParamNamed params r.0 r.1
    by None h = absurd (none-some r h)
    by (Some i) h = in_place i (slice_get params i) refl h

has_param : {E : Type 0} (does : Does E) (i : ℕ) (def : ParamDef) → is_effect does ≡ true → IsParamNamed (params_of does) i def → HasParam does i def
has_param (Source pattern first last hold) i def is named = absurd (false≢true is)
has_param (Effect e context clips names optional masks params) i def is named = (named.there, named.is_there, named.same)

pub edit_is : {E : Type 0} (nodes : List (Shown E)) (path : List ℕ) (given : RawEdit) (e : EditShown) → edit_of nodes path given ≡ Ok e
    → IsEditOf nodes e.node e.param e.value
edit_is {E} nodes path given e h =
    let k = went _ (λ k. node_edit nodes path k given) e h in
    let at = found_is _ _ (effect_named nodes given.node) k.first k.is in
    let p = went _ (λ (p : ℕ × ParamDef). param_edit path k.first p.0 p.1 given.value) e k.then_is in
    let named = named_is (params_at nodes k.first) given.param p.first (found_is _ _ (param_named (params_at nodes k.first) given.param) p.first p.is) in
    let made_is = ok_same _ e (unrefused _ _ e p.then_is) in
    by k.first p.first (slice_get nodes k.first) refl at named made_is
  where
    by : (k : ℕ) (p : ℕ × ParamDef) (o : Option (Shown E)) → slice_get nodes k ≡ o → effect_named nodes given.node ≡ Some k
        → IsParamNamed (params_in o) p.0 p.1 → record { node = k; param = p.0; value = valued (made p.1) given.value } ≡ e → IsEditOf nodes e.node e.param e.value
    by k p None is at named made_is = absurd (none-some named.there named.is_there)
    by k p (Some n) is at named made_is =
        let low = position-Some (λ m. bytes_eq m.name given.node && is_effect m.does) nodes k n at in
        let here : n ≡ get_or nodes k n = same_Some n (get_or nodes k n) (sym is ∙ slice_get-get_or nodes k n low.0) in
        let effect : is_effect n.does ≡ true = subst (λ (m : Shown E). is_effect m.does ≡ true) (sym here) (second _ _ low.1) in
        let has : HasParam n.does p.0 p.1 = has_param n.does p.0 p.1 effect named in
        subst (λ (x : EditShown). IsEditOf nodes x.node x.param x.value) made_is
        (record {
          node = n;
          there = is;
          param = subst (λ d. HasParam n.does p.0 d) (sym (valued_def (made p.1) given.value)) has;
        })

-- ---- lists

each_is : {A B : Type 0} (P : B → Type 0) (f : ℕ → A → Result B Fault) → ((k : ℕ) (a : A) (b : B) → f k a ≡ Ok b → P b)
    → (k : ℕ) (xs : List A) (ys : List B) → each_of f k xs ≡ Ok ys → All P ys
each_is {A} {B} P f each k [] ys h = subst (All P) (ok_same [] ys h) (All-nil P)
each_is {A} {B} P f each k (x ∷ xs) ys h =
    let a = went (f k x) (λ b. after (each_of f (k + 1) xs) (λ bs. Ok (b ∷ bs))) ys h in
    let b = went (each_of f (k + 1) xs) (λ bs. Ok (a.first ∷ bs)) ys a.then_is in
    subst (All P) (ok_same (a.first ∷ b.first) ys b.then_is)
    (All-cons P a.first b.first (each k x a.first a.is) (each_is P f each (k + 1) xs b.first b.is))

module _ {E : Type 0} (nodes : List (Shown E)) where
  abbrev IsOne : EditShown → Type 0
  IsOne e = IsEditOf nodes e.node e.param e.value

  abbrev AreAll : TakeShown → Type 0
  AreAll t = All IsOne t.edits

  take_is : (path : List ℕ) (given : RawTake) (t : TakeShown) → take_of nodes path given ≡ Ok t → AreAll t
  take_is path given t h =
      let edits = went (edits_of nodes (node_path path (codes "edits")) given.edits) (λ edits. Ok (record { file = given.file; edits = edits })) t (unrefused _ _ t h) in
      let same = ok_same (record { file = given.file; edits = edits.first }) t edits.then_is in
      subst AreAll same
      (each_is IsOne (λ k r. edit_of nodes (inside (node_path path (codes "edits")) k) r)
      (λ k r e is. edit_is nodes (inside (node_path path (codes "edits")) k) r e is) 0 given.edits edits.first edits.is)

  takes_are : (given : List RawTake) (takes : List TakeShown) → takes_of nodes given ≡ Ok takes → All AreAll takes
  takes_are given takes h =
      each_is AreAll (λ k r. take_of nodes (inside (codes "takes") k) r)
      (λ k r t is. take_is (inside (codes "takes") k) r t is) 0 given takes h

  each_edit : (es : List Edit) → All IsOne (map edit_shown es) → AllByRecursion (IsEdit nodes) es
  each_edit [] all = tt
  each_edit (e ∷ es) all =
      (All-head IsOne (edit_shown e) (map edit_shown es) all, each_edit es (All-tail IsOne (edit_shown e) (map edit_shown es) all))

  each_take : (takes : List Take) → All AreAll (map take_shown takes) → AreEdits nodes (scene.edits_of takes)
  each_take [] all k = tt
  each_take (t ∷ takes) all zero = each_edit t.edits.items (All-head AreAll (take_shown t) (map take_shown takes) all)
  each_take (t ∷ takes) all (suc k) = each_take takes (All-tail AreAll (take_shown t) (map take_shown takes) all) k

  pub edits_are : (given : List RawTake) (takes : List Take) → takes_of nodes given ≡ Ok (map take_shown takes)
      → AreEdits nodes (scene.edits_of takes)
  edits_are given takes h = each_take takes (takes_are given (map take_shown takes) h)
