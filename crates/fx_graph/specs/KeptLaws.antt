-- What follows of what a graph keeps: at every frame the values of its effects are lawful, and each renders images of
-- its node's form.
use Rattle.std.specs.Prelude.{◌≡◌, ◌≢◌, ◌<◌, ℕ, ℤ, Bool, true, false, not, ◌||◌, ◌&&◌, List, [], ◌∷◌, map, length, All, IsTrue, is_some, Option, Some, slice_get, take, if◌then◌else◌, refl}
use Rattle.std.specs.List.{AllZip, Contains, list_any}
use Rattle.std.proofs.Common.{zero, suc, arith, ap, sym, subst, ◌∙◌}
use Rattle.std.proofs.Props.{props}
use Rattle.std.proofs.lemmas.Bool.{false≢true}
use Rattle.std.proofs.lemmas.List.Elements.{All-head, All-tail}
use Rattle.fx_base.specs.Bounds.{Bounds}
use Rattle.fx_pixel.specs.declared.Depth.{Depth}
use Rattle.fx_pixel.specs.declared.Depth.TheVariants as depths
use Rattle.fx_pixel.specs.declared.Components.{Components}
use Rattle.fx_pixel.specs.declared.Components.TheVariants as components
use Rattle.fx_params.specs.declared.def.ParamDef.{ParamDef}
use Rattle.fx_params.specs.Parameter.{Parameter, value_at, IsSound}
use Rattle.fx_params.proofs.ValueLemmas.{value_within}
use Rattle.fx_prefs.specs.Prefs.{Input, deepest, depth_among, widest, negotiated}
use Rattle.fx_effect.specs.declared.action.Context.{Context}
use Rattle.fx_effect.specs.Shape.{Shape, Clip, IsShape, MayBe, InRange, IsLawfulIn, IsProject, supports, is_depth, is_components}
use Rattle.fx_effect.specs.ShapeTests.{is_context, context_listed}
use Rattle.fx_effect.specs.Meaning.{Meaning}
use Rattle.fx_graph.specs.Shown.{Does, Source, Effect, Shown}
use Rattle.fx_graph.specs.Nodes.{Form, has_depth, has_alpha, form_of, inputs_of}
use Rattle.fx_graph.specs.Kept.{has_context, IsOf, IsSource, IsUse, IsDoing, IsNode, AreNodes, use_values, HasLawfulValues, RendersForm}

-- ---- the fact that a graph keeps is a proposition

AllZip-prop : {A B : Type 0} (R : A → B → Type 0) → ((a : A) (b : B) → IsProp (R a b)) → (xs : List A) (ys : List B)
    → IsProp (AllZip R xs ys)
AllZip-prop R h [] [] = hlevel
AllZip-prop R h [] (y ∷ ys) = hlevel
AllZip-prop R h (x ∷ xs) [] = hlevel
AllZip-prop R h (x ∷ xs) (y ∷ ys) = let a = h x y in let b = AllZip-prop R h xs ys in hlevel (a, b)

may_be_prop : (clip : Clip) (b : Bool) → IsProp (MayBe clip b)
may_be_prop clip b = hlevel props

of_prop : (def : ParamDef) (p : Parameter) → IsProp (IsOf def p)
of_prop def p = hlevel props

sound_prop : (p : Parameter) → IsProp (IsSound p)
sound_prop p = hlevel props

may_be_all : (xs : List Clip) (ys : List Bool) → IsProp (AllZip MayBe xs ys)
may_be_all xs ys = AllZip-prop MayBe may_be_prop xs ys

of_all : (xs : List ParamDef) (ys : List Parameter) → IsProp (AllZip IsOf xs ys)
of_all xs ys = AllZip-prop IsOf of_prop xs ys

use_prop : (s : Shape) (before : ℕ) (c : Context) (clips : List (Option ℕ)) (names : List (List ℕ))
    (optional masks : List Bool) (params : List Parameter)
    → IsProp (IsUse s before c clips names optional masks params)
use_prop s before c clips names optional masks params = hlevel (props, may_be_all, of_all, sound_prop)

form_prop : (a b : Form) → IsProp (a ≡ b)
form_prop a b = hlevel props

doing_prop : {E : Type 0} (meaning : E → Meaning) (project : Form) (before : List (Shown E)) (form : Form)
    (does : Does E) → IsProp (IsDoing meaning project before form does)
doing_prop meaning project before form (Source pattern first last hold) = hlevel props
doing_prop meaning project before form (Effect e c clips names optional masks params) =
    hlevel (props, use_prop, form_prop)

pub nodes_prop : {E : Type 0} (meaning : E → Meaning) (project : Form) (nodes : List (Shown E))
    → IsProp (AreNodes meaning project nodes)
nodes_prop meaning project nodes = hlevel (props, doing_prop)

-- ---- the values at a frame

-- each value lies in its definition's range
numbers_in_range : (defs : List ParamDef) (params : List Parameter) (t : ℤ) → AllZip IsOf defs params
    → All IsSound params → AllZip InRange defs (map (λ p. value_at p t) params)
numbers_in_range [] [] t of sound = of
numbers_in_range [] (p ∷ params) t of sound = of
numbers_in_range (def ∷ defs) [] t of sound = of
numbers_in_range (def ∷ defs) (p ∷ params) t of sound =
    let here = subst (λ d. InRange d (value_at p t)) of.0 (value_within p (All-head IsSound p params sound) t) in
    (here, numbers_in_range defs params t of.1 (All-tail IsSound p params sound))

pub lawful_use : (s : Shape) (before : ℕ) (c : Context) (clips : List (Option ℕ)) (names : List (List ℕ))
    (optional masks : List Bool) (params : List Parameter) (project : Bounds) (t : ℤ) → IsProject project
    → IsUse s before c clips names optional masks params → IsLawfulIn s c (use_values project t clips params)
lawful_use s before c clips names optional masks params project t is u =
    record {
      supported = context_listed c s.contexts u.supported;
      numbers = numbers_in_range (s.params c) params t u.defs u.sound;
      connected = u.connected;
      project = is;
    }

pub lawful_node : {E : Type 0} (meaning : E → Meaning) (form : Form) (before : List (Shown E)) (project : Bounds)
    (t : ℤ) (own : Form) (does : Does E) → IsProject project → IsDoing meaning form before own does
    → HasLawfulValues meaning project t does
lawful_node meaning form before project t own (Source pattern first last hold) is h = tt
lawful_node meaning form before project t own (Effect e c clips names optional masks params) is h =
    lawful_use _ (length before) c clips names optional masks params project t is h.0

-- ---- the form

-- one of the two depths is supported
has_one : (d : Depth) (ds : List Depth)
    → IsTrue (list_any (is_depth depths.Byte) (d ∷ ds) || list_any (is_depth depths.Short) (d ∷ ds))
has_one depths.Byte ds = refl
has_one depths.Short ds = or_right (list_any (is_depth depths.Byte) ds) true refl
  where
    or_right : (a b : Bool) → b ≡ true → a || b ≡ true
    or_right true b h = refl
    or_right false b h = h

some_depth : (ds : List Depth) → ds ≢ []
    → IsTrue (list_any (is_depth depths.Byte) ds || list_any (is_depth depths.Short) ds)
some_depth [] some = absurd (some refl)
some_depth (d ∷ ds) some = has_one d ds

among_supported : (byte short : Bool) (wanted : Depth) (has : Depth → Bool) → byte ≡ has depths.Byte
    → short ≡ has depths.Short → IsTrue (byte || short) → IsTrue (has (depth_among byte short wanted))
among_supported true true depths.Byte has b s some = sym b
among_supported true true depths.Short has b s some = sym s
among_supported false true wanted has b s some = sym s
among_supported true false wanted has b s some = sym b
among_supported false false wanted has b s some = absurd (false≢true some)

widest_supported : (alpha : Bool) (wanted : Components) (has : Components → Bool) → IsTrue (has components.Rgba)
    → alpha ≡ has components.Alpha → IsTrue (has (if alpha then wanted else components.Rgba))
widest_supported true components.Rgba has rgba is = rgba
widest_supported true components.Alpha has rgba is = sym is
widest_supported false wanted has rgba is = rgba

both : (a b : Bool) → a ≡ true → b ≡ true → a && b ≡ true
both a b p q = rw (p, q) refl

same_components : (c : Components) → is_components c c ≡ true
same_components components.Rgba = refl
same_components components.Alpha = refl

-- components that are listed are found by the test
pub components_found : (c : Components) (cs : List Components) → Contains cs c → IsTrue (list_any (is_components c) cs)
components_found c [] (k, low, is) = absurd (omega (arith, low))
components_found c (x ∷ cs) (zero, low, is) =
    left (is_components c x) (list_any (is_components c) cs)
    (subst (λ y. is_components c y ≡ true) (sym is) (same_components c))
  where
    left : (a b : Bool) → a ≡ true → a || b ≡ true
    left true b h = refl
    left false b h = absurd (false≢true h)
components_found c (x ∷ cs) (suc k, low, is) =
    right (is_components c x) (list_any (is_components c) cs) (components_found c cs (k, omega (arith, low), is))
  where
    right : (a b : Bool) → b ≡ true → a || b ≡ true
    right true b h = refl
    right false b h = h

-- what is negotiated is supported
pub negotiated_supported : (s : Shape) (inputs : List Input) (project : Form) → IsShape s
    → (let form = negotiated inputs (has_depth s depths.Byte) (has_depth s depths.Short) (has_alpha s) project in
    IsTrue (supports s form.0 form.1))
negotiated_supported s inputs project is =
    both _ _
    (among_supported _ _ (deepest project.0 inputs) (λ d. has_depth s d) refl refl (some_depth s.depths is.some_depth))
    (widest_supported (has_alpha s) (widest project.1 inputs) (λ c. list_any (is_components c) s.components)
    (components_found components.Rgba s.components is.rgba) refl)

pub renders_node : {E : Type 0} (meaning : E → Meaning) (project : Form) (before : List (Shown E)) (form : Form)
    (does : Does E) → ((e : E) → IsShape (meaning e).shape) → IsDoing meaning project before form does
    → RendersForm meaning form does
renders_node meaning project before form (Source pattern first last hold) shapes h = tt
renders_node meaning project before form (Effect e c clips names optional masks params) shapes h =
    let s = (meaning e).shape in
    subst (λ f. IsTrue (supports s f.0 f.1)) (sym h.1)
    (negotiated_supported s (inputs_of before clips masks) project (shapes e))
