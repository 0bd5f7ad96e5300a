-- What a set that waits for a description has, and that names of what is described differ.
use Rattle.std.proofs.Common.{◌≡◌, ℕ, Bool, true, List, [], map, All, refl, subst}
use Rattle.std.proofs.lemmas.List.{get_or-map, length-map}
use Rattle.fx_pixel.specs.declared.Depth.{Depth}
use Rattle.fx_pixel.specs.declared.Components.{Components}
use Rattle.fx_props.specs.Set.{Set}
use Rattle.fx_props.specs.Entries.{Entry, NamesDiffer, AwaitEntries, IsBlank, blank_entry}
use Rattle.fx_props.proofs.EntryLaws.{apart_if}
use Rattle.fx_effect.specs.Shape.{Clip}
use Rattle.fx_effect.specs.Described.{description_of, clip_description}
use Rattle.fx_effect.specs.declared.action.Context.{Context}
use Rattle.fx_effect.specs.declared.action.Safety.{Safety}
use Rattle.fx_effect.specs.declared.action.Safety.TheVariants as safety

pub description_apart : (label : List ℕ) (contexts : List Context) (depths : List Depth) (temporal tiles : Bool) (s : Safety) → NamesDiffer (description_of label contexts depths temporal tiles s)
description_apart label contexts depths temporal tiles s = apart_if (description_of label contexts depths temporal tiles s) refl

pub clip_description_apart : (clip : Clip) (cs : List Components) → NamesDiffer (clip_description clip cs)
clip_description_apart clip cs = apart_if (clip_description clip cs) refl

-- a set that has a blank property for each entry waits for the entries
pub awaits : (entries : List Entry) (set : Set) → All (λ e. e.values ≡ [] → IsBlank set e.kind e.name) (map (λ e. blank_entry [] e.kind e.name) entries) → AwaitEntries set entries
awaits entries set all k d inside =
    let blanked : Entry → Entry = λ e. blank_entry [] e.kind e.name in
    subst (λ e. e.values ≡ [] → IsBlank set e.kind e.name) (get_or-map blanked entries k d (blanked d) inside) (all k (blanked d) (rw length-map inside)) refl

-- the names of the blank properties differ, which are the same for each description
pub blanks_apart : NamesDiffer (map (λ e. blank_entry [] e.kind e.name) (description_of [] [] [] true true safety.Unsafe))
blanks_apart = apart_if (map (λ e. blank_entry [] e.kind e.name) (description_of [] [] [] true true safety.Unsafe)) refl
