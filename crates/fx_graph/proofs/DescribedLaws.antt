-- What the property sets of a description hold, and what is read from them.
use Rattle.std.proofs.Common.{◌≡◌, ◌∙◌, ◌<◌, ◌+◌, ◌++◌, ℕ, zero, suc, Bool, true, false, cond, ◌&&◌, List, [], ◌∷◌, map, take, length, get_or, All, Some, None, refl, sym, ap, arith, rules}
use Rattle.std.specs.Prelude.{codes, IsTrue, if◌then◌else◌}
use Rattle.std.specs.List.{AllZip, Contains, list_any, list_all}
use Rattle.std.specs.Option.{option_map, option_and_then}
use Rattle.std.specs.Str.{bytes_eq}
use Rattle.std.proofs.lemmas.List.{take_more}
use Rattle.std.proofs.lemmas.List.Elements.{All-nil, All-cons}
use Rattle.fx_pixel.specs.declared.Depth.{Depth}
use Rattle.fx_pixel.specs.declared.Depth.TheVariants as depths
use Rattle.fx_pixel.specs.declared.Components.{Components}
use Rattle.fx_pixel.specs.declared.Components.TheVariants as components
use Rattle.fx_props.specs.declared.names.TheConstants.{CONTEXTS, DEPTHS, NAME, OPTIONAL, COMPONENTS}
use Rattle.fx_props.specs.declared.value.PropKind.{PropKind}
use Rattle.fx_props.specs.declared.value.PropKind.TheVariants as kind
use Rattle.fx_props.specs.Value.{same_kind}
use Rattle.fx_props.specs.Property.{Property, with_values, of_kind}
use Rattle.fx_props.specs.Set.{Set, property}
use Rattle.fx_props.specs.Entries.{Entry, blank, text_entry, texts_entry, flag_entry, HasValues, Wrote}
use Rattle.fx_effect.specs.declared.action.Context.{Context}
use Rattle.fx_effect.specs.declared.action.Context.TheVariants as context
use Rattle.fx_effect.specs.Shape.{Shape, Clip, is_mask, IsMask, is_depth, is_components}
use Rattle.fx_effect.specs.Described.{context_text, depth_text, components_text, description, clip_description, clip_components_of, DescribesClip}
use Rattle.fx_graph.specs.Nodes.{has_depth, has_alpha}
use Rattle.fx_graph.specs.KeptLaws.{components_found}
use Rattle.fx_graph.specs.Described.{context_of_text, listed, contexts_in, lists_alpha, clip_takes, ShowsClip}

-- ---- what was written is there

kind_same : (k : PropKind) → same_kind k k ≡ true
kind_same kind.Int = refl
kind_same kind.Fix = refl
kind_same kind.Text = refl

shows : (k : PropKind) (p : Property) → p.kind ≡ k → option_map (λ q. q.values) (of_kind k p) ≡ Some p.values
shows k p is = ap (λ b. option_map (λ q. q.values) (cond b (Some p) None)) (ap (λ l. same_kind l k) is ∙ kind_same k)

written : (set : Set) (e : Entry) → property set e.name ≡ Some (with_values (blank e.kind) e.values) → HasValues set e
written set e there =
    ap (λ o. option_map (λ q. q.values) (option_and_then (of_kind e.kind) o)) there ∙ shows e.kind (with_values (blank e.kind) e.values) refl

pub contexts_written : (s : Shape) (old new : Set) → Wrote (description s) old new → HasValues new (texts_entry CONTEXTS.now (map context_text s.contexts))
contexts_written s old new wrote =
    let e = texts_entry CONTEXTS.now (map context_text s.contexts) in written new e (wrote.there 1 e (omega arith))

pub depths_written : (s : Shape) (old new : Set) → Wrote (description s) old new → HasValues new (texts_entry DEPTHS.now (map depth_text s.depths))
depths_written s old new wrote =
    let e = texts_entry DEPTHS.now (map depth_text s.depths) in written new e (wrote.there 2 e (omega arith))

-- ---- what is read

context_back : (c : Context) → context_of_text (context_text c) ≡ Some c
context_back context.Generator = refl
context_back context.Filter = refl
context_back context.Transition = refl
context_back context.General = refl

pub contexts_back : (cs : List Context) → contexts_in (map context_text cs) ≡ cs
contexts_back [] = refl
contexts_back (c ∷ cs) = ap (λ o. listed o ++ contexts_in (map context_text cs)) (context_back c) ∙ ap (λ rest. c ∷ rest) (contexts_back cs)

any_text : {A : Type 0} (text : A → List ℕ) (p : A → Bool) (wanted : List ℕ) → ((a : A) → bytes_eq (text a) wanted ≡ p a) → (xs : List A) → list_any (λ t. bytes_eq t wanted) (map text xs) ≡ list_any p xs
any_text text p wanted same [] = refl
any_text text p wanted same (x ∷ xs) = rw (same x, any_text text p wanted same xs) refl

byte_text : (d : Depth) → bytes_eq (depth_text d) (codes "OfxBitDepthByte") ≡ is_depth depths.Byte d
byte_text depths.Byte = refl
byte_text depths.Short = refl

short_text : (d : Depth) → bytes_eq (depth_text d) (codes "OfxBitDepthShort") ≡ is_depth depths.Short d
short_text depths.Byte = refl
short_text depths.Short = refl

alpha_text : (c : Components) → bytes_eq (components_text c) (codes "OfxImageComponentAlpha") ≡ is_components components.Alpha c
alpha_text components.Rgba = refl
alpha_text components.Alpha = refl

pub byte_back : (s : Shape) → list_any (λ t. bytes_eq t (codes "OfxBitDepthByte")) (map depth_text s.depths) ≡ has_depth s depths.Byte
byte_back s = any_text depth_text (is_depth depths.Byte) (codes "OfxBitDepthByte") byte_text s.depths

pub short_back : (s : Shape) → list_any (λ t. bytes_eq t (codes "OfxBitDepthShort")) (map depth_text s.depths) ≡ has_depth s depths.Short
short_back s = any_text depth_text (is_depth depths.Short) (codes "OfxBitDepthShort") short_text s.depths

pub alpha_back : (cs : List Components) → list_any (λ t. bytes_eq t (codes "OfxImageComponentAlpha")) (map components_text cs) ≡ lists_alpha cs
alpha_back cs = any_text components_text (is_components components.Alpha) (codes "OfxImageComponentAlpha") alpha_text cs

-- ---- the set of a clip

pub has_name : (set : Set) (clip : Clip) (cs : List Components) → All (HasValues set) (clip_description clip cs) → HasValues set (text_entry NAME.now clip.name)
has_name set clip cs there = there 0 (text_entry NAME.now clip.name) (omega arith)

pub has_optional : (set : Set) (clip : Clip) (cs : List Components) → All (HasValues set) (clip_description clip cs) → HasValues set (flag_entry OPTIONAL.now clip.optional)
has_optional set clip cs there = there 1 (flag_entry OPTIONAL.now clip.optional) (omega arith)

pub has_components : (set : Set) (clip : Clip) (cs : List Components) → All (HasValues set) (clip_description clip cs) → HasValues set (texts_entry COMPONENTS.now (map components_text cs))
has_components set clip cs there = there 2 (texts_entry COMPONENTS.now (map components_text cs)) (omega arith)

-- ---- the sets of all clips

pub zip_at : {A B : Type 0} (R : A → B → Type 0) (xs : List A) (ys : List B) (k : ℕ) (d : A) (e : B) → AllZip R xs ys → k < length ys → R (get_or xs k d) (get_or ys k e)
zip_at R [] [] k d e are low = absurd (omega (arith, low))
zip_at R [] (y ∷ ys) k d e are low = absurd are
zip_at R (x ∷ xs) [] k d e are low = absurd are
zip_at R (x ∷ xs) (y ∷ ys) zero d e are low = are.0
zip_at R (x ∷ xs) (y ∷ ys) (suc k) d e are low = zip_at R xs ys k d e are.1 (omega (arith, low))

-- a clip of no name
pub no_clip : Clip
no_clip = record { name = []; optional = false }

pub all_show : (s : Shape) (clips : List Clip) (sets : List Set) → AllZip (DescribesClip s) clips sets → All ShowsClip sets
all_show s [] [] are = All-nil ShowsClip
all_show s [] (set ∷ sets) are = absurd are
all_show s (clip ∷ clips) [] are = absurd are
all_show s (clip ∷ clips) (set ∷ sets) are =
    All-cons ShowsClip set sets (record { clip = clip; components = clip_components_of s clip; there = are.0 }) (all_show s clips sets are.1)

takes_one : (b : Bool) (cs : List Components) → lists_alpha cs ≡ true → lists_alpha (if b then components.Alpha ∷ [] else cs) ≡ true
takes_one true cs h = refl
takes_one false cs h = h

all_take : (s : Shape) (clips : List Clip) → has_alpha s ≡ true → list_all (clip_takes s) clips ≡ true
all_take s [] h = refl
all_take s (clip ∷ clips) h = rw (takes_one (is_mask clip.name) s.components h, all_take s clips h) refl

-- each clip takes Alpha exactly where the effect renders it
pub alpha_all : (s : Shape) (clips : List Clip) → (All IsMask clips → Contains s.components components.Alpha) → list_all (clip_takes s) clips ≡ has_alpha s
alpha_all s [] told = sym (components_found components.Alpha s.components (told (All-nil IsMask)))
alpha_all s (clip ∷ clips) told =
    elim (is_mask clip.name) as (λ b. is_mask clip.name ≡ b → lists_alpha (if b then components.Alpha ∷ [] else s.components) && list_all (clip_takes s) clips ≡ has_alpha s) [
      | true ↦ λ e. alpha_all s clips (λ masks. told (All-cons IsMask clip clips e masks))
      | false ↦ λ e. elim (has_alpha s) as (λ b. has_alpha s ≡ b → b && list_all (clip_takes s) clips ≡ b) [
        | true ↦ λ h. all_take s clips h
        | false ↦ λ h. refl
      ] refl
    ] refl

all_push : {A : Type 0} (p : A → Bool) (xs : List A) (y : A) → list_all p (xs ++ y ∷ []) ≡ list_all p xs && p y
all_push p [] y = and_true (p y)
  where
    and_true : (b : Bool) → b && true ≡ true && b
    and_true true = refl
    and_true false = refl
all_push p (x ∷ xs) y = ap (λ b. p x && b) (all_push p xs y) ∙ assoc (p x) (list_all p xs) (p y)
  where
    assoc : (a b c : Bool) → a && (b && c) ≡ (a && b) && c
    assoc true b c = refl
    assoc false b c = refl

pub all_more : {A : Type 0} (p : A → Bool) (xs : List A) (i : ℕ) (d : A) → i < length xs → list_all p (take (i + 1) xs) ≡ list_all p (take i xs) && p (get_or xs i d)
all_more p xs i d low = ap (list_all p) (take_more xs i d low) ∙ all_push p (take i xs) (get_or xs i d)
