-- The node that is made of a use.
use Rattle.std.proofs.Common.{◌≡◌, ◌∙◌, sym, ap, refl, ℕ, List, [], ◌∷◌, map, rules}
use Rattle.std.specs.BTreeMap.{BTreeMap, get_by_text}
use Rattle.std.specs.declared.alloc.Global.{Global}
use Rattle.std.specs.Prelude.{String, Option, Some, None, Ok, Bool, length}
use Rattle.fx_effect.specs.Meaning.{Meaning}
use Rattle.fx_text.specs.declared.raw.RawContext.{RawContext}
use Rattle.fx_text.specs.declared.value.RawClip.{RawClip}
use Rattle.fx_text.specs.declared.fault.GraphFault.{GraphFault}
use Rattle.fx_text.specs.declared.fault.GraphFault.TheVariants as fault
use Rattle.fx_graph.specs.Refusal.{Tells, TellsErr}
use Rattle.fx_graph.specs.Uses.{chosen, unsupported, connection}
use Rattle.fx_pixel.specs.declared.Depth.{Depth}
use Rattle.fx_pixel.specs.declared.Components.{Components}
use Rattle.fx_params.specs.Parameter.{Parameter}
use Rattle.fx_effect.specs.declared.action.Context.{Context}
use Rattle.fx_effect.specs.Shape.{Shape, Clip, clip_names, optional_flags, is_mask}
use Rattle.fx_text.specs.declared.value.RawParam.{RawParam}
use Rattle.fx_graph.specs.Shown.{Shown, Effect, names_of}
use Rattle.fx_graph.specs.Params.{param_of}
use Rattle.fx_graph.specs.Nodes.{Form, form_of, use_of, use_in, effect_of, told_fault, place_of, IsIndex}

pub masks_map : (inputs : List Clip) → map (λ i. is_mask i.name) inputs ≡ map is_mask (map (λ i. i.name) inputs)
masks_map [] = refl
masks_map (i ∷ inputs) = ap (λ ms. is_mask i.name ∷ ms) (masks_map inputs)

pub made_use : {E : Type 0} (e : E) (s : Shape) (project : Form) (before : List (Shown E)) (name : List ℕ) (c : Context) (clips : List (Option ℕ)) (params : List RawParam) (n : List ℕ) (form : Depth × Components) (cl : List (Option ℕ)) (names : List (List ℕ)) (optional masks : List Bool) (ps : List Parameter) → n ≡ name → cl ≡ clips → names ≡ clip_names s c → optional ≡ optional_flags s c → masks ≡ map is_mask (clip_names s c) → ps ≡ map (param_of params) (s.params c) → form ≡ form_of s project before cl masks → record { name = n; depth = form.0; components = form.1; does = Effect e c cl names optional masks ps } ≡ use_of e s project before name c clips params
made_use e s project before name c clips params n form cl names optional masks ps en ec enames eo em ep ef = rw (ef, en, ec, enames, eo, em, ep) refl

-- the use in the context that is chosen, where that is supported
pub found_is : {E : Type 0} (meaning : E → Meaning) (project : Form) (before : List (Shown E)) (path name : List ℕ) (e : E) (context : Option RawContext) (clips : List RawClip) (params : List RawParam) (c : Context)
    → c ≡ chosen (meaning e).shape.contexts context → unsupported path (meaning e).shape.contexts c ≡ None
    → effect_of meaning project before path name (Some e) context clips params ≡ use_in e (meaning e).shape project before path name c clips params
found_is meaning project before path name e context clips params c is ok = rw (← is, ok) refl

-- a refusal of clips or parameters
pub told_use : {E : Type 0} (e : E) (s : Shape) (project : Form) (before : List (Shown E)) (path name : List ℕ) (c : Context) (clips : List RawClip) (params : List RawParam) (gf : GraphFault)
    → Tells (told_fault path (place_of (names_of before)) (s.clips c) (s.params c) clips params) gf → TellsErr (use_in e s project before path name c clips params) gf
told_use e s project before path name c clips params fault.Memory told = told
told_use e s project before path name c clips params (fault.Refused code there) told = rw told refl

-- a use that nothing refuses
pub made_in : {E : Type 0} (e : E) (s : Shape) (project : Form) (before : List (Shown E)) (path name : List ℕ) (c : Context) (clips : List RawClip) (params : List RawParam)
    → told_fault path (place_of (names_of before)) (s.clips c) (s.params c) clips params ≡ None
    → use_in e s project before path name c clips params ≡ Ok (use_of e s project before name c (map (connection (place_of (names_of before)) clips) (s.clips c)) params)
made_in e s project before path name c clips params told = rw told refl

-- the map is the places of the names
pub same_place : (places : BTreeMap (String Global) ℕ) (names : List (List ℕ)) → IsIndex places names → get_by_text places ≡ place_of names
same_place places names index = λ i name. index name i
