-- Whether an effect's shape is as it may be, by a test that computes.
use Rattle.std.specs.Prelude.{◌≡◌, ◌≢◌, ◌≤◌, ◌<◌, nat_lt, nat_le, ℕ, ℤ, pos, ◌≤ℤ◌, ◌<ℤ◌, Bool, true, false, ◌&&◌, ◌||◌, not, List, [], ◌∷◌, map, length, codes, All, IsTrue, refl}
use Rattle.std.specs.Int.Signed.{le_z, lt_z}
use Rattle.std.specs.List.{Contains, list_all, list_any}
use Rattle.std.specs.Str.{bytes_eq}
use Rattle.std.proofs.Common.{suc, arith, sym, ap, ◌∙◌}
use Rattle.std.proofs.lemmas.Bool.{false≢true}
use Rattle.std.proofs.lemmas.Bool.Decides.{nat_tests}
use Rattle.std.proofs.lemmas.Int.{ints}
use Rattle.std.proofs.lemmas.List.Elements.{All-nil, All-cons}
use Rattle.std.proofs.lemmas.Map.Views.{Contains-from_any}
use Rattle.std.proofs.lemmas.Slice.Eq.{bytes_eq-Decides}
use Rattle.fx_pixel.specs.declared.Components.{Components}
use Rattle.fx_pixel.specs.declared.Components.TheVariants as components
use Rattle.fx_params.specs.declared.def.ParamDef.{ParamDef}
use Rattle.fx_params.specs.declared.def.ParamKind.{ParamKind}
use Rattle.fx_params.specs.declared.def.ParamKind.TheVariants as param
use Rattle.fx_effect.specs.Shape.{Shape, Clip, IsShape, IsContext, IsParam, IsLabel, IsMask, HasClips, HasRange, is_mask, is_components}
use Rattle.fx_effect.specs.ShapeLaws.{are_apart, names_differ}
use Rattle.fx_effect.specs.declared.action.Context.{Context}
use Rattle.fx_effect.specs.declared.action.Context.TheVariants as context

-- ---- the test

abbrev pub is_context : Context → Context → Bool
is_context context.Generator context.Generator = true
is_context context.Filter context.Filter = true
is_context context.Transition context.Transition = true
is_context context.General context.General = true
is_context a b = false

abbrev pub is_nil : {A : Type 0} → List A → Bool
is_nil [] = true
is_nil (x ∷ xs) = false

abbrev pub is_label : List ℕ → Bool
is_label text = nat_le 1 (length text) && nat_le (length text) 64

-- whether it is a clip of this name that isn't optional
abbrev pub is_required : List ℕ → Clip → Bool
is_required name clip = bytes_eq clip.name name && not clip.optional

abbrev pub has_clips : Context → List Clip → Bool
has_clips context.Generator clips = is_nil clips
has_clips context.Filter (clip ∷ []) = is_required (codes "Source") clip
has_clips context.Transition (from ∷ (to ∷ [])) =
    is_required (codes "SourceFrom") from && is_required (codes "SourceTo") to
has_clips context.General clips = true
has_clips c clips = false

abbrev pub has_range : ParamKind → ParamDef → Bool
has_range param.Bool def = le_z (pos 0) def.least && le_z def.greatest (pos 1)
has_range param.Choice def =
    le_z (pos 0) def.least && (lt_z def.greatest (pos (length def.choices)) && nat_lt (length def.choices) 65536)
has_range kind def = true

abbrev pub is_param : ParamDef → Bool
is_param def = le_z def.least def.start && (le_z def.start def.greatest && has_range def.kind def)

abbrev pub are_clips : Context → List Clip → Bool
are_clips c clips =
    has_clips c clips
    && (are_apart (map (λ clip. clip.name) clips)
    && (nat_lt (length clips) 65536 && list_all (λ clip. is_label clip.name) clips))

abbrev pub are_params : List ParamDef → Bool
are_params params = list_all is_param params && (are_apart (map (λ p. p.name) params) && nat_lt (length params) 65536)

-- whether the clips tell the components, or all are supported
abbrev pub are_told : Shape → List Clip → Bool
are_told s clips =
    not (list_all (λ clip. is_mask clip.name) clips) || list_any (is_components components.Alpha) s.components

abbrev pub is_good_in : Shape → Context → Bool
is_good_in s c = are_clips c (s.clips c) && (are_params (s.params c) && are_told s (s.clips c))

abbrev pub is_shape : Shape → Bool
is_shape s =
    is_label s.label
    && (not (is_nil s.contexts)
    && (not (is_nil s.depths)
    && (list_any (is_components components.Rgba) s.components && list_all (is_good_in s) s.contexts)))

-- ---- what the parts of it tell

left_of : (a b : Bool) → IsTrue (a && b) → IsTrue a
left_of true b h = refl
left_of false b h = absurd (false≢true h)

right_of : (a b : Bool) → IsTrue (a && b) → IsTrue b
right_of true b h = h
right_of false b h = absurd (false≢true h)

both_true : (a b : Bool) → a ≡ true → b ≡ true → a && b ≡ true
both_true a b p q = rw (p, q) refl

not_nil : {A : Type 0} (xs : List A) → IsTrue (not (is_nil xs)) → xs ≢ []
not_nil [] h e = false≢true h
not_nil (x ∷ xs) h e = cc

le_of : (a b : ℤ) → IsTrue (le_z a b) → a ≤ℤ b
le_of a b h = grind (arith, ints)

lt_of : (a b : ℤ) → IsTrue (lt_z a b) → a <ℤ b
lt_of a b h = grind (arith, ints)

few_of : (n most : ℕ) → IsTrue (nat_lt n most) → n < most
few_of n most h = grind (arith, nat_tests)

up_to_of : (n most : ℕ) → IsTrue (nat_le n most) → n ≤ most
up_to_of n most h = grind (arith, nat_tests)

all_of : {A : Type 0} (p : A → Bool) (P : A → Type 0) → ((x : A) → IsTrue (p x) → P x) → (xs : List A)
    → IsTrue (list_all p xs) → All P xs
all_of p P tells [] h = All-nil P
all_of p P tells (x ∷ xs) h =
    All-cons P x xs (tells x (left_of (p x) (list_all p xs) h)) (all_of p P tells xs (right_of (p x) (list_all p xs) h))

same_context : (a b : Context) → is_context a b ≡ true → a ≡ b
same_context context.Generator context.Generator h = refl
same_context context.Filter context.Filter h = refl
same_context context.Transition context.Transition h = refl
same_context context.General context.General h = refl
same_context context.Generator context.Filter h = absurd (false≢true h)
same_context context.Generator context.Transition h = absurd (false≢true h)
same_context context.Generator context.General h = absurd (false≢true h)
same_context context.Filter context.Generator h = absurd (false≢true h)
same_context context.Filter context.Transition h = absurd (false≢true h)
same_context context.Filter context.General h = absurd (false≢true h)
same_context context.Transition context.Generator h = absurd (false≢true h)
same_context context.Transition context.Filter h = absurd (false≢true h)
same_context context.Transition context.General h = absurd (false≢true h)
same_context context.General context.Generator h = absurd (false≢true h)
same_context context.General context.Filter h = absurd (false≢true h)
same_context context.General context.Transition h = absurd (false≢true h)

-- the test that finds a context means that it is there
pub context_listed : (c : Context) (cs : List Context) → IsTrue (list_any (is_context c) cs) → Contains cs c
context_listed c cs h = Contains-from_any same_context c cs h

same_components : (a b : Components) → is_components a b ≡ true → a ≡ b
same_components components.Rgba components.Rgba h = refl
same_components components.Alpha components.Alpha h = refl
same_components components.Rgba components.Alpha h = absurd (false≢true h)
same_components components.Alpha components.Rgba h = absurd (false≢true h)

pub components_listed : (c : Components) (cs : List Components) → IsTrue (list_any (is_components c) cs) → Contains cs c
components_listed c cs h = Contains-from_any same_components c cs h

required_is : (name : List ℕ) (clip : Clip) → IsTrue (is_required name clip)
    → clip ≡ record { name = name; optional = false }
required_is name clip h = whole clip.optional refl (right_of (bytes_eq clip.name name) (not clip.optional) h)
  where
    named : clip.name ≡ name
    named = (bytes_eq-Decides clip.name name).0 (left_of (bytes_eq clip.name name) (not clip.optional) h)

    whole : (b : Bool) → clip.optional ≡ b → IsTrue (not clip.optional)
        → clip ≡ record { name = name; optional = false }
    whole true is none = absurd (false≢true (sym (ap not is) ∙ none))
    whole false is none =
        ap (λ n. record { name = n; optional = clip.optional }) named
        ∙ ap (λ b. record { name = name; optional = b }) is

clips_are : (c : Context) (clips : List Clip) → IsTrue (has_clips c clips) → HasClips c clips
clips_are context.Generator [] h = refl
clips_are context.Generator (x ∷ xs) h = absurd (false≢true h)
clips_are context.Filter [] h = absurd (false≢true h)
clips_are context.Filter (x ∷ []) h = ap (λ a. a ∷ []) (required_is (codes "Source") x h)
clips_are context.Filter (x ∷ (y ∷ xs)) h = absurd (false≢true h)
clips_are context.Transition [] h = absurd (false≢true h)
clips_are context.Transition (x ∷ []) h = absurd (false≢true h)
clips_are context.Transition (x ∷ (y ∷ [])) h =
    ap (λ a. a ∷ y ∷ [])
    (required_is (codes "SourceFrom") x
    (left_of (is_required (codes "SourceFrom") x) (is_required (codes "SourceTo") y) h))
    ∙ ap (λ b. record { name = codes "SourceFrom"; optional = false } ∷ b ∷ [])
    (required_is (codes "SourceTo") y
    (right_of (is_required (codes "SourceFrom") x) (is_required (codes "SourceTo") y) h))
clips_are context.Transition (x ∷ (y ∷ (z ∷ xs))) h = absurd (false≢true h)
clips_are context.General clips h = tt

range_is : (kind : ParamKind) (def : ParamDef) → IsTrue (has_range kind def) → HasRange kind def
range_is param.Int def h = tt
range_is param.Fix def h = tt
range_is param.Bool def h =
    (le_of (pos 0) def.least (left_of _ _ h), le_of def.greatest (pos 1) (right_of (le_z (pos 0) def.least) _ h))
range_is param.Choice def h =
    let some = right_of (le_z (pos 0) def.least) _ h in (
      le_of (pos 0) def.least (left_of _ _ h),
      lt_of def.greatest (pos (length def.choices)) (left_of _ _ some),
      few_of (length def.choices) 65536 (right_of (lt_z def.greatest (pos (length def.choices))) _ some),
    )

param_is : (def : ParamDef) → IsTrue (is_param def) → IsParam def
param_is def h =
    let more = right_of (le_z def.least def.start) _ h in
    record {
      above = le_of def.least def.start (left_of _ _ h);
      below = le_of def.start def.greatest (left_of _ _ more);
      range = range_is def.kind def (right_of (le_z def.start def.greatest) _ more);
    }

label_is : (text : List ℕ) → IsTrue (is_label text) → IsLabel text
label_is text h =
    (up_to_of 1 (length text) (left_of _ _ h), up_to_of (length text) 64 (right_of (nat_le 1 (length text)) _ h))

masks_all : (clips : List Clip) → All IsMask clips → list_all (λ clip. is_mask clip.name) clips ≡ true
masks_all [] masks = refl
masks_all (clip ∷ clips) masks =
    both_true _ _ (masks 0 clip (omega arith)) (masks_all clips (λ k d low. masks (suc k) d (omega arith)))

told_is : (told listed : Bool) → told ≡ true → IsTrue (not told || listed) → IsTrue listed
told_is true listed is h = h
told_is false listed is h = absurd (false≢true is)

context_is : (s : Shape) (c : Context) → IsTrue (is_good_in s c) → IsContext s c
context_is s c h =
    let clips = s.clips c in
    let params = s.params c in
    let apart = right_of (has_clips c clips) _ (left_of (are_clips c clips) _ h) in
    let counted = right_of (are_apart (map (λ (clip : Clip). clip.name) clips)) _ apart in
    let numbers = left_of (are_params params) _ (right_of (are_clips c clips) _ h) in
    let differ = right_of (list_all is_param params) _ numbers in
    record {
      clips = clips_are c clips (left_of _ _ (left_of (are_clips c clips) _ h));
      clips_differ = names_differ (λ (clip : Clip). clip.name) clips (left_of _ _ apart);
      few_clips = few_of (length clips) 65536 (left_of _ _ counted);
      params = all_of is_param IsParam param_is params (left_of _ _ numbers);
      params_differ = names_differ (λ (def : ParamDef). def.name) params (left_of _ _ differ);
      few_params =
          few_of (length params) 65536 (right_of (are_apart (map (λ (def : ParamDef). def.name) params)) _ differ);
    }

good_in : (s : Shape) (cs : List Context) (c : Context) → IsTrue (list_all (is_good_in s) cs) → Contains cs c
    → IsTrue (is_good_in s c)
good_in s cs c h (k, low, is) =
    ap (is_good_in s) (sym is) ∙ all_of (is_good_in s) (λ x. IsTrue (is_good_in s x)) (λ x p. p) cs h k c low

labels_are : (s : Shape) (c : Context) → IsTrue (is_good_in s c) → All (λ clip. IsLabel clip.name) (s.clips c)
labels_are s c h =
    let clips = s.clips c in
    let apart = right_of (has_clips c clips) _ (left_of (are_clips c clips) _ h) in
    let counted = right_of (are_apart (map (λ (clip : Clip). clip.name) clips)) _ apart in
    all_of (λ (clip : Clip). is_label clip.name) (λ clip. IsLabel clip.name) (λ clip. label_is clip.name) clips
    (right_of (nat_lt (length clips) 65536) _ counted)

-- a shape that passes the test is as it may be
pub shape_is : (s : Shape) → IsTrue (is_shape s) → IsShape s
shape_is s h =
    let some = right_of (is_label s.label) _ h in
    let deep = right_of (not (is_nil s.contexts)) _ some in
    let rgba = right_of (not (is_nil s.depths)) _ deep in
    let good = right_of (list_any (is_components components.Rgba) s.components) _ rgba in
    record {
      label = label_is s.label (left_of _ _ h);
      some_context = not_nil s.contexts (left_of _ _ some);
      some_depth = not_nil s.depths (left_of _ _ deep);
      rgba = components_listed components.Rgba s.components (left_of _ _ rgba);
      contexts = λ c there. context_is s c (good_in s s.contexts c good there);
      clip_labels = λ c there. labels_are s c (good_in s s.contexts c good there);
      without_clips = λ c there masks.
          let told = right_of (are_params (s.params c)) _
          (right_of (are_clips c (s.clips c)) _ (good_in s s.contexts c good there)) in
          components_listed components.Alpha s.components (told_is _ _ (masks_all (s.clips c) masks) told);
    }
