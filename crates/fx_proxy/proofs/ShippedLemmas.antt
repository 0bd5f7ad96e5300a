-- The lengths of the effects of the program are described.
use Rattle.std.proofs.Common.{◌≡◌, ℕ, suc, ◌+◌, List, [], ◌∷◌, ◌++◌, drop, Option, Some, None, slice_get, is_some, refl, sym, ap, subst, ◌∙◌, arith}
use Rattle.std.specs.List.{AllZip}
use Rattle.std.proofs.lemmas.Bool.{false≢true}
use Rattle.fx_effect.specs.declared.action.Context.{Context}
use Rattle.fx_gen.specs.Checker.{checker_params}
use Rattle.fx_graph.specs.Kept.{AreNodes, IsDoing, IsOf}
use Rattle.fx_graph.specs.Nodes.{Form}
use Rattle.fx_graph.specs.Shown.{Does, Effect, Shown, Source}
use Rattle.fx_params.specs.declared.def.ParamDef.{ParamDef}
use Rattle.fx_params.specs.Parameter.{Parameter}
use Rattle.fx_shipped.specs.Shipped.{meaning_of, number_of}
use Rattle.fx_shipped.specs.declared.shipped.Shipped.{Shipped}
use Rattle.fx_shipped.specs.declared.shipped.Shipped.TheVariants as shipped
use Rattle.fx_proxy.specs.Lengths.{length_at, lengths_of}
use Rattle.fx_proxy.specs.Scaled.{AreLengths, DoesLengths, HasLengths}

-- parameters that are made with the lengths' definitions first have these
from_lengths : (effect place : ℕ) (ds rest : List ParamDef) (params : List Parameter)
    → ((i : ℕ) → slice_get (lengths_of effect) (place + i) ≡ slice_get ds i) → AllZip IsOf (ds ++ rest) params
    → HasLengths effect place params
from_lengths effect place ds rest [] at are = tt
from_lengths effect place [] [] (p ∷ ps) at are = absurd are
from_lengths effect place [] (r ∷ rest) (p ∷ ps) at are =
    let here : place + 0 ≡ place = omega arith in
    let none : length_at effect place ≡ None = subst (λ (n : ℕ). slice_get (lengths_of effect) n ≡ None) here (at 0) in (
      λ is. absurd (false≢true (sym (ap (λ (o : Option ParamDef). is_some o) none) ∙ is)),
      from_lengths effect (place + 1) [] rest ps
          (λ i. let next : place + 1 + i ≡ place + suc i = omega arith in
          ap (λ (n : ℕ). slice_get (lengths_of effect) n) next ∙ at (suc i))
          are.1,
    )
from_lengths effect place (d ∷ ds) rest (p ∷ ps) at are =
    let here : place + 0 ≡ place = omega arith in
    let some : length_at effect place ≡ Some d = subst (λ (n : ℕ). slice_get (lengths_of effect) n ≡ Some d) here (at 0) in (
      λ is. some ∙ ap (λ (x : ParamDef). Some x) (sym are.0),
      from_lengths effect (place + 1) ds rest ps
          (λ i. let next : place + 1 + i ≡ place + suc i = omega arith in
          ap (λ (n : ℕ). slice_get (lengths_of effect) n) next ∙ at (suc i))
          are.1,
    )

-- each effect describes its lengths first
abbrev LengthsFirst : Shipped → Context → Type 0
LengthsFirst e c = (rest : List ParamDef) × ((meaning_of e).shape.params c ≡ lengths_of (number_of e) ++ rest)

lengths_first : (e : Shipped) (c : Context) → LengthsFirst e c
lengths_first shipped.Solid c = (_, refl)
lengths_first shipped.Checker c = (drop 1 checker_params, refl)
lengths_first shipped.Ramp c = (_, refl)
lengths_first shipped.Grain c = (_, refl)
lengths_first shipped.Invert c = (_, refl)
lengths_first shipped.Gain c = (_, refl)
lengths_first shipped.Premult c = (_, refl)
lengths_first shipped.Unpremult c = (_, refl)
lengths_first shipped.Shuffle c = (_, refl)
lengths_first shipped.Saturation c = (_, refl)
lengths_first shipped.Posterise c = (_, refl)
lengths_first shipped.Boxblur c = ([], refl)
lengths_first shipped.Erode c = ([], refl)
lengths_first shipped.Dilate c = ([], refl)
lengths_first shipped.Convolve3 c = (_, refl)
lengths_first shipped.Crop c = ([], refl)
lengths_first shipped.Translate c = ([], refl)
lengths_first shipped.Mirror c = (_, refl)
lengths_first shipped.Timeoffset c = (_, refl)
lengths_first shipped.Frameblend c = (_, refl)
lengths_first shipped.Framediff c = (_, refl)
lengths_first shipped.Echo c = (_, refl)
lengths_first shipped.Dissolve c = (_, refl)
lengths_first shipped.Wipe c = (_, refl)
lengths_first shipped.Merge c = (_, refl)
lengths_first shipped.Keymix c = (_, refl)
lengths_first shipped.Autogain c = (_, refl)

does_lengths : (project form : Form) (before : List (Shown Shipped)) (does : Does Shipped)
    → IsDoing meaning_of project before form does → DoesLengths number_of does
does_lengths project form before (Source pattern first last hold) h = tt
does_lengths project form before (Effect e c clips names optional masks params) h =
    let first = lengths_first e c in
    from_lengths (number_of e) 0 (lengths_of (number_of e)) first.0 params
    (λ i. let zero_i : 0 + i ≡ i = omega arith in ap (λ (n : ℕ). slice_get (lengths_of (number_of e)) n) zero_i)
    (subst (λ (ds : List ParamDef). AllZip IsOf ds params) first.1 h.0.defs)

pub shipped_lengths : (project : Form) (nodes : List (Shown Shipped)) → AreNodes meaning_of project nodes
    → AreLengths number_of nodes
shipped_lengths project nodes are k node there = does_lengths project _ _ node.does (are k node there)
