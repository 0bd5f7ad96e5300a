-- What is read of a map's members stands in the order of the map's keys.
use Rattle.std.proofs.Common.{◌≡◌, refl, ap, sym, ◌∙◌, subst, ℕ, List, [], ◌∷◌, map, Result, Ok, Err, String, string_bytes, string_cmp, Less}
use Rattle.std.specs.List.{AllByRecursion}
use Rattle.std.specs.List.Sorted.{IsStrictlySortedBy}
use Rattle.std.specs.Map.{keys_of}
use Rattle.std.specs.Cmp.Lexicographic.{slice_cmp}
use Rattle.std.specs.Ordering.{nat_cmp}
use Rattle.std.specs.declared.alloc.Global.{Global}
use Rattle.serde_json.specs.Data.{Data, Members, no_members, member}
use Rattle.serde_json.specs.Find.{as_str}
use Rattle.serde_json.specs.View.{members_view}
use Rattle.serde_json.specs.declared.value.Value.{Value}
use Rattle.fx_text.specs.Fault.{Fault}
use Rattle.fx_text.specs.Json.{after, word_at, read_members}
use Rattle.fx_text.specs.Order.{Rise, ClipsRise, ParamsRise}
use Rattle.fx_text.specs.Paths.{joined}
use Rattle.fx_text.specs.Values.{clip_of, param_of, moved, value_of}
use Rattle.fx_text.specs.declared.value.RawClip.{RawClip}
use Rattle.fx_text.specs.declared.value.RawParam.{RawParam}
use Rattle.fx_text.proofs.Rows.{one_then}

-- ---- the keys of a map rise as texts

abbrev pub names_in : Members → List (List ℕ)
names_in no_members = []
names_in (member k d ms) = k ∷ names_in ms

below_all : (k : String Global) (es : List (String Global × Value)) → AllByRecursion (λ q. string_cmp k q ≡ Less) (keys_of es)
    → AllByRecursion (λ q. slice_cmp nat_cmp (string_bytes k) q ≡ Less) (names_in (members_view es))
below_all k [] below = tt
below_all k (e ∷ es) below = (below.0, below_all k es below.1)

keys_rise : (es : List (String Global × Value)) → IsStrictlySortedBy string_cmp (keys_of es) → Rise (names_in (members_view es))
unfolding IsStrictlySortedBy
keys_rise [] ordered = tt
keys_rise (e ∷ es) ordered = (below_all e.0 es ordered.0, keys_rise es ordered.1)

-- ---- each member is read under its name

under : {A B : Type 0} (name : B → List ℕ) (k : List ℕ) (make : A → B) → ((a : A) → name (make a) ≡ k)
    → (r : Result A Fault) (b : B) → after r (λ a. Ok (make a)) ≡ Ok b → name b ≡ k
under name k make keeps (Ok a) b is = let same : make a ≡ b = cc in ap name (sym same) ∙ keeps a
under name k make keeps (Err fault) b is = absurd (cc)

clip_named : (path k : List ℕ) (d : Data) (clip : RawClip) → clip_of path k d ≡ Ok clip → clip.name ≡ k
clip_named path k d clip is =
    under (λ (c : RawClip). c.name) k (λ (node : List ℕ). record { name = k; node = node }) (λ _. refl) (word_at path k (as_str d)) clip is

param_named : (path k : List ℕ) (d : Data) (param : RawParam) → param_of path k d ≡ Ok param → param.name ≡ k
param_named path k d param is =
    under (λ (p : RawParam). p.name) k (λ v. record { name = k; value = v }) (λ _. refl) (moved (joined path k) (value_of d)) param is

names_of_two : {A : Type 0} (name : A → List ℕ) (k : List ℕ) (names : List (List ℕ)) (all : List A) (first : Result A Fault) (rest : Result (List A) Fault)
    → ((a : A) → first ≡ Ok a → name a ≡ k) → ((more : List A) → rest ≡ Ok more → map name more ≡ names)
    → one_then first rest ≡ Ok all → map name all ≡ k ∷ names
names_of_two name k names all (Ok a) (Ok more) one others is =
    let same : a ∷ more ≡ all = cc in
    ap (map name) (sym same) ∙ ap (λ n. n ∷ map name more) (one a refl) ∙ ap (λ ns. k ∷ ns) (others more refl)
names_of_two name k names all (Ok a) (Err fault) one others is = absurd (cc)
names_of_two name k names all (Err fault) rest one others is = absurd (cc)

names_read : {A : Type 0} (name : A → List ℕ) (read : List ℕ → Data → Result A Fault) → ((k : List ℕ) (d : Data) (a : A) → read k d ≡ Ok a → name a ≡ k)
    → (ms : Members) (all : List A) → read_members read ms ≡ Ok all → map name all ≡ names_in ms
names_read name read named no_members all is = let none : [] ≡ all = cc in ap (map name) (sym none)
names_read name read named (member k d ms) all is =
    names_of_two name k (names_in ms) all (read k d) (read_members read ms) (named k d) (names_read name read named ms) is

-- ---- so they rise

pub none_rise : Rise []
unfolding IsStrictlySortedBy
none_rise = tt

pub clips_rise : (path : List ℕ) (es : List (String Global × Value)) (clips : List RawClip) → IsStrictlySortedBy string_cmp (keys_of es)
    → read_members (clip_of path) (members_view es) ≡ Ok clips → ClipsRise clips
clips_rise path es clips ordered is =
    subst Rise (sym (names_read (λ (c : RawClip). c.name) (clip_of path) (clip_named path) (members_view es) clips is)) (keys_rise es ordered)

pub params_rise : (path : List ℕ) (es : List (String Global × Value)) (params : List RawParam) → IsStrictlySortedBy string_cmp (keys_of es)
    → read_members (param_of path) (members_view es) ≡ Ok params → ParamsRise params
params_rise path es params ordered is =
    subst Rise (sym (names_read (λ (p : RawParam). p.name) (param_of path) (param_named path) (members_view es) params is)) (keys_rise es ordered)
