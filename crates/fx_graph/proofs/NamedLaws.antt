-- The parameters of a graph's nodes have lawful definitions, and are few.
use Rattle.std.proofs.Common.{◌≡◌, ◌∙◌, ◌<◌, ◌&&◌, ℕ, suc, refl, ap, sym, arith, List, [], ◌∷◌, length, map, take, All, Option, Some, None, slice_get, subst}
use Rattle.std.specs.List.{AllZip, position}
use Rattle.std.specs.Option.{option_map, option_and_then}
use Rattle.std.specs.Str.{bytes_eq}
use Rattle.std.proofs.lemmas.List.Elements.{All-nil, All-cons, All-head, All-tail}
use Rattle.fx_params.specs.declared.def.ParamDef.{ParamDef}
use Rattle.fx_params.specs.Parameter.{Parameter}
use Rattle.fx_effect.specs.Meaning.{Meaning}
use Rattle.fx_effect.specs.Shape.{IsShape, IsParam, IsContext}
use Rattle.fx_effect.specs.ShapeTests.{context_listed}
use Rattle.fx_graph.specs.Shown.{Does, Source, Effect, Shown, shown, does_of}
use Rattle.fx_graph.specs.Nodes.{Form}
use Rattle.fx_graph.specs.Kept.{IsOf, IsDoing, AreNodes}
use Rattle.fx_graph.specs.Named.{is_effect, effect_named, params_of, params_in, params_at, param_named}
use Rattle.fx_graph.specs.declared.node.Node.{Node}
use Rattle.fx_graph.proofs.Outputs.{position_map}

abbrev pub HasParam : Parameter → Type 0
HasParam p = IsParam p.def

pub record AreLawful (params : List Parameter) : Type 0 where
  pub each : All HasParam params
  pub few : length params < 65536

each_lawful : (defs : List ParamDef) (params : List Parameter) → AllZip IsOf defs params → All IsParam defs → All HasParam params
each_lawful [] [] of all = All-nil HasParam
each_lawful [] (p ∷ params) of all = absurd of
each_lawful (d ∷ defs) [] of all = All-nil HasParam
each_lawful (d ∷ defs) (p ∷ params) of all =
    let here : IsParam p.def = subst IsParam (sym of.0) (All-head IsParam d defs all) in
    All-cons HasParam p params here (each_lawful defs params of.1 (All-tail IsParam d defs all))

as_long : (defs : List ParamDef) (params : List Parameter) → AllZip IsOf defs params → length params ≡ length defs
as_long [] [] of = refl
as_long [] (p ∷ params) of = absurd of
as_long (d ∷ defs) [] of = absurd of
as_long (d ∷ defs) (p ∷ params) of = ap suc (as_long defs params of.1)

does_lawful : {E : Type 0} (meaning : E → Meaning) → ((e : E) → IsShape (meaning e).shape) → (project : Form) (before : List (Shown E)) (form : Form)
    (does : Does E) → IsDoing meaning project before form does → AreLawful (params_of does)
does_lawful meaning shapes project before form (Source pattern first last hold) h =
    record { each = All-nil HasParam; few = omega arith }
does_lawful meaning shapes project before form (Effect e c clips names optional masks params) h =
    let s = (meaning e).shape in
    let u = h.0 in
    let is : IsContext s c = (shapes e).contexts c (context_listed c s.contexts u.supported) in
    let long = as_long (s.params c) params u.defs in
    record { each = each_lawful (s.params c) params u.defs is.params; few = omega (arith, is.few_params, long) }

pub params_lawful : {E : Type 0} (meaning : E → Meaning) → ((e : E) → IsShape (meaning e).shape) → (project : Form) (nodes : List (Shown E)) (k : ℕ)
    → AreNodes meaning project nodes → AreLawful (params_at nodes k)
params_lawful {E} meaning shapes project nodes k are = by (slice_get nodes k) refl
  where
    by : (o : Option (Shown E)) → slice_get nodes k ≡ o → AreLawful (params_in o)
    by None is = record { each = All-nil HasParam; few = omega arith }
    by (Some n) is = does_lawful meaning shapes project (take k nodes) (n.depth, n.components) n.does (are k n is)

-- the place of the effect's node of a name
pub named_effect : {E : Type 0} (nodes : List (Node E)) (name : List ℕ)
    → position (λ n. bytes_eq n.name name && is_effect (does_of n.work)) nodes ≡ effect_named (map shown nodes) name
named_effect nodes name = sym (position_map shown (λ n. bytes_eq n.name name && is_effect n.does) nodes)

-- a parameter that is found
pub found_param : (params : List Parameter) (name : List ℕ) (i : ℕ) (p : Parameter)
    → position (λ q. bytes_eq q.def.name name) params ≡ Some i → slice_get params i ≡ Some p → Some (i, p.def) ≡ param_named params name
found_param params name i p at there =
    sym (ap (λ o. option_and_then (λ j. option_map (λ q. (j, q.def)) (slice_get params j)) o) at
    ∙ ap (λ o. option_map (λ q. (i, q.def)) o) there)
