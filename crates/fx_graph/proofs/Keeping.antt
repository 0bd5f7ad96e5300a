-- A use that no row refuses is one that a graph keeps.
use Rattle.std.proofs.Common.{◌≡◌, ◌∙◌, sym, ap, refl, ℕ, ◌<◌, List, [], ◌∷◌, length, map, arith, rules, subst}
use Rattle.std.specs.Prelude.{Option, Some, None, Bool, true, false, cond, not, ◌&&◌, is_some, is_none, IfSome, All}
use Rattle.std.specs.Option.{option_or, option_map}
use Rattle.std.specs.List.{find, list_any, position}
use Rattle.std.specs.Str.{bytes_eq}
use Rattle.std.proofs.lemmas.Option.{none-some}
use Rattle.std.proofs.lemmas.List.{length-map}
use Rattle.std.proofs.lemmas.List.Quantifiers.{position-Some}
use Rattle.fx_params.specs.Parameter.{IsSound}
use Rattle.fx_effect.specs.declared.action.Context.{Context}
use Rattle.fx_effect.specs.Shape.{Shape, clip_names, optional_flags, is_mask}
use Rattle.fx_text.specs.declared.value.RawClip.{RawClip}
use Rattle.fx_text.specs.declared.value.RawParam.{RawParam}
use Rattle.fx_text.specs.declared.fault.GraphCode.{GraphCode}
use Rattle.fx_text.specs.Fault.{Fault}
use Rattle.fx_graph.specs.Refusal.{refusal, where_so, at_first, first_of}
use Rattle.fx_effect.specs.Meaning.{Meaning}
use Rattle.fx_graph.specs.Shown.{Shown, names_of}
use Rattle.fx_graph.specs.Kept.{IsUse, IsNode, has_context}
use Rattle.fx_graph.specs.Uses.{Place, connection, unsupported, unknown_clip, missing_clip, lost_clip, clip_fault, is_connected}
use Rattle.fx_graph.specs.Params.{param_of, params_fault}
use Rattle.fx_graph.specs.Nodes.{Form, place_of, use_of, told_fault}
use Rattle.fx_graph.proofs.Connecting.{connected_all, earlier_all, defs_all}

none_of_both : (a b : Option Fault) → option_or a b ≡ None → (a ≡ None) × (b ≡ None)
none_of_both None b h = (refl, h)
none_of_both (Some r) b h = absurd (none-some r (sym h))

holds_so : (b : Bool) (code : GraphCode) (path : List ℕ) → where_so (not b) code path ≡ None → b ≡ true
holds_so true code path h = refl
holds_so false code path h = absurd (none-some (refusal code path) (sym h))

none_found : {A B : Type 0} (f : A → B) (o : Option A) → option_map f o ≡ None → o ≡ None
none_found f None h = refl
none_found f (Some a) h = absurd (none-some (f a) (sym h))

pub place_below : (names : List (List ℕ)) (name : List ℕ) (k : ℕ) → place_of names name ≡ Some k → k < length names
place_below names name k e = (position-Some (λ n. bytes_eq n name) names k [] e).0

pub kept_use : (s : Shape) (names : List (List ℕ)) (k : List ℕ) (c : Context) (clips : List RawClip) (params : List RawParam) → unsupported k s.contexts c ≡ None → told_fault k (place_of names) (s.clips c) (s.params c) clips params ≡ None → All IsSound (map (param_of params) (s.params c)) → IsUse s (length names) c (map (connection (place_of names) clips) (s.clips c)) (clip_names s c) (optional_flags s c) (map is_mask (clip_names s c)) (map (param_of params) (s.params c))
kept_use s names k c clips params ok told sound =
    let b = none_of_both (clip_fault k (place_of names) (s.clips c) clips) (first_of (params_fault k (s.params c) params ∷ [])) told in
    let u = none_of_both (unknown_clip k (s.clips c) clips) (first_of (missing_clip k (s.clips c) clips ∷ lost_clip k (place_of names) clips ∷ [])) b.0 in
    let m = none_of_both (missing_clip k (s.clips c) clips) (first_of (lost_clip k (place_of names) clips ∷ [])) u.1 in
    let l = none_of_both (lost_clip k (place_of names) clips) None m.1 in
    let missing = none_found _ (find (λ i. not i.optional && not (is_connected clips i.name)) (s.clips c)) m.0 in
    let lost = none_found _ (find (λ r. is_none (place_of names r.node)) clips) l.0 in
    record {
      supported = holds_so (has_context s c) _ _ ok;
      names_are = refl;
      optional_are = refl;
      masks_are = refl;
      earlier = earlier_all (place_of names) (length names) (place_below names) clips (s.clips c);
      connected = connected_all (place_of names) clips (s.clips c) missing lost;
      defs = defs_all params (s.params c);
      sound = sound;
    }

pub kept_node : {E : Type 0} (meaning : E → Meaning) (project : Form) (before : List (Shown E)) (path name : List ℕ) (e : E) (c : Context) (clips : List RawClip) (params : List RawParam) → unsupported path (meaning e).shape.contexts c ≡ None → told_fault path (place_of (names_of before)) ((meaning e).shape.clips c) ((meaning e).shape.params c) clips params ≡ None → All IsSound (map (param_of params) ((meaning e).shape.params c)) → IsNode meaning project before (use_of e (meaning e).shape project before name c (map (connection (place_of (names_of before)) clips) ((meaning e).shape.clips c)) params)
kept_node meaning project before path name e c clips params ok told sound =
    let s = (meaning e).shape in
    let nodes = map (connection (place_of (names_of before)) clips) (s.clips c) in
    let used = kept_use s (names_of before) path c clips params ok told sound in
    let long : length (names_of before) ≡ length before = length-map before (λ n. n.name) in
    (subst (λ k. IsUse s k c nodes (clip_names s c) (optional_flags s c) (map is_mask (clip_names s c)) (map (param_of params) (s.params c))) long used, refl)
