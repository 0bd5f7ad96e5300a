-- Entries that are put into sets.
use Rattle.std.proofs.Common.{◌≡◌, ◌≢◌, ◌≤◌, ◌<◌, ℕ, zero, suc, ℤ, pos, neg_ℤ, ◌≤ℤ◌, FitsSigned, w64, rules, append_assoc, ◌+◌, Bool, true, false, not, ltb, ◌&&◌, ◌||◌, List, [], ◌∷◌, ◌++◌, map, take, length, get_or, All, AllPairs, Some, None, Result, Ok, Err, IfOk, OnErr, ⊎_elim, refl, sym, ap, subst, ◌∙◌, arith}
use Rattle.std.specs.Borrow.{Bor}
use Rattle.std.specs.FinMap.{from_entries}
use Rattle.std.specs.List.{list_any}
use Rattle.std.specs.Option.{option_map, option_and_then}
use Rattle.std.specs.Str.{bytes_eq}
use Rattle.std.proofs.lemmas.Int.{ints}
use Rattle.std.proofs.lemmas.Bool.{cond-true, cond-false, false_from_ne_true, false≢true, cases_lt, cases_eq}
use Rattle.std.proofs.lemmas.Bool.Decides.{nat_tests}
use Rattle.std.proofs.Math.ListN.{get_or-append}
use Rattle.std.proofs.Math.Seq.{get_or-append_seam}
use Rattle.std.proofs.lemmas.List.{get_or_default, length-take, length-append, length-map, get_or-map, take_more, take_all, map_more, get_or-take, append_cancel_left}
use Rattle.std.proofs.lemmas.List.Elements.{All-from_recursion, All-nil, All-cons, All-push, All-weaker, All-take, All-from_get_or}
use Rattle.std.proofs.lemmas.List.Kept.{AllPairs-cons}
use Rattle.std.proofs.lemmas.Slice.Eq.{bytes_eq-Decides}
use Rattle.fx_base.specs.Bounds.{Bounds, none}
use Rattle.fx_props.specs.declared.names.TheConstants.{CLIP_REGION}
use Rattle.fx_props.specs.declared.value.PropKind.{PropKind}
use Rattle.fx_props.specs.declared.value.PropKind.TheVariants as kind
use Rattle.fx_props.specs.declared.value.PropValue.{PropValue}
use Rattle.fx_props.specs.declared.def.PropDef.{PropDef}
use Rattle.fx_props.specs.Value.{kind_of, same_kind}
use Rattle.fx_props.specs.Property.{Property, property_made, with_values, placed, of_kind, takes_at}
use Rattle.fx_props.specs.Set.{Set, property, property_of, values_of, made, AreApart, refusal, Puts}
use Rattle.fx_props.specs.Entries.{Entry, IsEntry, NamesDiffer, def_of, blank, blank_entry, whole, range_values, region_entry, region_of, region_values, clip_entries, clip_entries_from, interest, texts_of}
use Rattle.fx_props.specs.Entries.{IsBlank, AreBlank, AwaitEntries, HasValues, Wrote, HasFront, WroteFronts, IsModerate}
use Rattle.fx_props.proofs.SetLemmas.{Named, among, among_made, named_made, property_among}

-- ---- a property of a kind

same_kind_is : (k : PropKind) → same_kind k k ≡ true
same_kind_is kind.Int = refl
same_kind_is kind.Fix = refl
same_kind_is kind.Text = refl

of_own_kind : (p : Property) → of_kind p.kind p ≡ Some p
of_own_kind p = cond-true _ _ _ (same_kind_is p.kind)

property_is : (set : Set) (k : PropKind) (name : List ℕ) (p : Property) → property set name ≡ Some p → p.kind ≡ k → property_of set k name ≡ Some p
property_is set k name p there same = ap (option_and_then (of_kind k)) there ∙ subst (λ j. of_kind j p ≡ Some p) same (of_own_kind p)

values_are : (set : Set) (k : PropKind) (name : List ℕ) (p : Property) → property set name ≡ Some p → p.kind ≡ k → values_of set k name ≡ Some p.values
values_are set k name p there same = ap (option_map (λ q. q.values)) (property_is set k name p there same)

-- ---- a blank property that is given one value after another

pub record Begun (name : List ℕ) (k : PropKind) (values : List PropValue) (old new : Set) : Type 0 where
  pub there : property new name ≡ Some (with_values (blank k) values)
  pub rest : (n : List ℕ) → n ≢ name → property new n ≡ property old n

takes_next : (k : PropKind) (values : List PropValue) (index : ℕ) → index ≡ length values → index < 4294967295 → takes_at (with_values (blank k) values) index ≡ true
takes_next k values index is few = grind (arith, nat_tests)

not_refused : (set : Set) (name : List ℕ) (k : PropKind) (values : List PropValue) (index : ℕ) (v : PropValue) → property set name ≡ Some (with_values (blank k) values) → index ≡ length values → index < 4294967295 → kind_of v ≡ k → refusal set name index v ≡ None
not_refused set name k values index v there is few same =
    rw (property_is set (kind_of v) name (with_values (blank k) values) there (sym same), takes_next k values index is few) refl

placed_next : (values : List PropValue) (index : ℕ) (v : PropValue) → index ≡ length values → placed values index v ≡ values ++ v ∷ []
placed_next values index v is = let low : ltb index (length values) ≡ false = grind (arith, nat_tests) in cond-false _ _ _ low

pub begun_more : (name : List ℕ) (k : PropKind) (values : List PropValue) (old mid new : Set) (index : ℕ) (v : PropValue) → Begun name k values old mid → index ≡ length values → kind_of v ≡ k → Puts mid new name index v → Begun name k (values ++ v ∷ []) old new
begun_more name k values old mid new index v was is same puts =
    let p = with_values (blank k) values in
    let replaces = puts values (values_are mid (kind_of v) name p was.there (sym same)) in
    record {
      there = replaces.there ∙ ap (option_map (λ q. with_values q (placed values index v))) was.there ∙ ap (λ vs. Some (with_values (blank k) vs)) (placed_next values index v is);
      rest = λ n other. replaces.rest n other ∙ was.rest n other;
    }

pub wrote_one : (e : Entry) (old new : Set) → Begun e.name e.kind e.values old new → Wrote (e ∷ []) old new
wrote_one e old new done = record {
  there = All-cons (λ a. property new a.name ≡ Some (with_values (blank a.kind) a.values)) e [] done.there (All-nil _);
  rest = λ n others. done.rest n (others 0 e (omega arith));
}

value_kind : (e : Entry) (i : ℕ) (v : PropValue) → IsEntry e → i < length e.values → v ≡ get_or e.values i v → kind_of v ≡ e.kind
value_kind e i v fine inside is = ap kind_of is ∙ fine.of_kind i v inside

taken : (e : Entry) (i index : ℕ) → i < length e.values → index ≡ i → index ≡ length (take i e.values)
taken e i index inside place = rw length-take (omega arith)

pub entry_not_refused : (e : Entry) (i index : ℕ) (v : PropValue) (old mid : Set) → IsEntry e → i < length e.values → v ≡ get_or e.values i v → index ≡ i → Begun e.name e.kind (take i e.values) old mid → refusal mid e.name index v ≡ None
entry_not_refused e i index v old mid fine inside is place was =
    not_refused mid e.name e.kind (take i e.values) index v was.there (taken e i index inside place) (omega (arith, fine.few)) (value_kind e i v fine inside is)

pub entry_more : (e : Entry) (i index : ℕ) (v : PropValue) (old mid new : Set) → IsEntry e → i < length e.values → v ≡ get_or e.values i v → index ≡ i → Begun e.name e.kind (take i e.values) old mid → Puts mid new e.name index v → Begun e.name e.kind (take (i + 1) e.values) old new
entry_more e i index v old mid new fine inside is place was puts =
    let more : take (i + 1) e.values ≡ take i e.values ++ v ∷ [] = take_more e.values i v inside ∙ ap (λ w. take i e.values ++ w ∷ []) (sym is) in
    rw more (begun_more e.name e.kind (take i e.values) old mid new index v was (taken e i index inside place) (value_kind e i v fine inside is) puts)

pub entry_whole : (e : Entry) (i : ℕ) (old new : Set) → length e.values ≤ i → Begun e.name e.kind (take i e.values) old new → Wrote (e ∷ []) old new
entry_whole e i old new past done = wrote_one e old new (rw (take_all i e.values past) at done)

-- ---- entries one after another

front_of : (P : Entry → Type 0) (xs : List Entry) (y : Entry) → All P (xs ++ y ∷ []) → All P xs
front_of P xs y all k d low = subst P (get_or-append xs (y ∷ []) d k low) (all k d (rw length-append (omega arith)))

last_of : (P : Entry → Type 0) (xs : List Entry) (y : Entry) → All P (xs ++ y ∷ []) → P y
last_of P xs y all = subst P (get_or-append_seam xs y [] y) (all (length xs) y (rw length-append (omega arith)))

pub wrote_none : (set : Set) → Wrote [] set set
wrote_none set = record { there = All-nil _; rest = λ n others. refl }

next_apart : (entries : List Entry) (i : ℕ) (e : Entry) → NamesDiffer entries → i < length entries → e ≡ get_or entries i e → All (λ a. a.name ≢ e.name) (take i entries)
next_apart entries i e apart inside is =
    All-from_get_or (λ a. a.name ≢ e.name) (take i entries) e
    (λ k low. let low_i : k < i = omega (arith, simp length-take at low) in
    rw (get_or-take i entries k e low_i) (λ same. apart k i e low_i inside (same ∙ ap (λ b. b.name) is)))

pub awaits_next : (entries : List Entry) (i : ℕ) (e : Entry) (old mid : Set) → NamesDiffer entries → AwaitEntries old entries → i < length entries → e ≡ get_or entries i e → Wrote (take i entries) old mid → IsBlank mid e.kind e.name
awaits_next entries i e old mid apart await inside is wrote =
    wrote.rest e.name (All-weaker (λ a. a.name ≢ e.name) (λ a. e.name ≢ a.name) (λ a ne same. ne (sym same)) (take i entries) (next_apart entries i e apart inside is))
    ∙ subst (λ b. IsBlank old b.kind b.name) (sym is) (await i e inside)

pub wrote_more : (entries : List Entry) (i : ℕ) (e : Entry) (old mid new : Set) → NamesDiffer entries → i < length entries → e ≡ get_or entries i e → Wrote (take i entries) old mid → Wrote (e ∷ []) mid new → Wrote (take (i + 1) entries) old new
wrote_more entries i e old mid new apart inside is was now =
    let before = next_apart entries i e apart inside is in
    let kept : All (λ a. property new a.name ≡ Some (with_values (blank a.kind) a.values)) (take i entries)
    = λ k d low. now.rest (get_or (take i entries) k d).name (All-cons (λ a. (get_or (take i entries) k d).name ≢ a.name) e [] (before k d low) (All-nil _)) ∙ was.there k d low in
    let more : take (i + 1) entries ≡ take i entries ++ e ∷ [] = take_more entries i e inside ∙ ap (λ b. take i entries ++ b ∷ []) (sym is) in
    rw more (record {
      there = All-push (λ a. property new a.name ≡ Some (with_values (blank a.kind) a.values)) (take i entries) e kept (now.there 0 e (omega arith));
      rest = λ n others.
          now.rest n (All-cons (λ a. n ≢ a.name) e [] (last_of (λ a. n ≢ a.name) (take i entries) e others) (All-nil _))
          ∙ was.rest n (front_of (λ a. n ≢ a.name) (take i entries) e others);
    })

-- ---- writing that stopped at want of memory

pub fronts_one : (e : Entry) (i : ℕ) (old new : Set) → Begun e.name e.kind (take i e.values) old new → WroteFronts (e ∷ []) old new
fronts_one e i old new done = record {
  fronts = All-cons (HasFront new) e [] (record { count = i; there = done.there }) (All-nil _);
  rest = λ n others. done.rest n (others 0 e (omega arith));
}

other_name : (entries : List Entry) (k i : ℕ) (d : Entry) → NamesDiffer entries → k < length entries → i < length entries → (k ≡ i → ⊥) → (get_or entries k d).name ≢ (get_or entries i d).name
other_name entries k i d apart low inside other same =
    ⊎_elim (λ below. apart k i d below inside same) (λ above. apart i k d (omega (arith, other)) low (sym same)) (cases_lt k i)

has_whole : (set : Set) (e : Entry) → property set e.name ≡ Some (with_values (blank e.kind) e.values) → HasFront set e
has_whole set e there = record { count = length e.values; there = rw (take_all (length e.values) e.values (omega arith)) there }

-- the entries in front of a place are written, and those behind it are blank
pub fronts_before : (entries : List Entry) (i : ℕ) (old new : Set) → NamesDiffer entries → AwaitEntries old entries → Wrote (take i entries) old new → WroteFronts entries old new
fronts_before entries i old new apart await wrote = record {
  fronts = λ k d low. ⊎_elim
      (λ before. has_whole new (get_or entries k d)
      (subst (λ a. property new a.name ≡ Some (with_values (blank a.kind) a.values)) (get_or-take i entries k d before) (wrote.there k d (rw length-take (omega arith)))))
      (λ behind. record {
        count = 0;
        there = wrote.rest (get_or entries k d).name
            (All-from_get_or (λ a. (get_or entries k d).name ≢ a.name) (take i entries) d
            (λ j lt. let low_j : j < i = omega (arith, simp length-take at lt) in
            rw (get_or-take i entries j d low_j) (other_name entries k j d apart low (omega arith) (λ same. absurd (omega arith)))))
            ∙ await k d low;
      })
      (cases_lt k i);
  rest = λ n others. wrote.rest n (All-take (λ a. n ≢ a.name) i entries others);
}

-- nothing is written
pub fronts_none : (entries : List Entry) (set : Set) → NamesDiffer entries → AwaitEntries set entries → WroteFronts entries set set
fronts_none entries set apart await = fronts_before entries 0 set set apart await (wrote_none set)

-- those in front of a place are written, and a front of the one at it
pub fronts_at : (entries : List Entry) (i : ℕ) (e : Entry) (old mid new : Set) → NamesDiffer entries → AwaitEntries old entries → i < length entries → e ≡ get_or entries i e → Wrote (take i entries) old mid → WroteFronts (e ∷ []) mid new → WroteFronts entries old new
fronts_at entries i e old mid new apart await inside is wrote now =
    let was = fronts_before entries i old mid apart await wrote in
    let here : (d : Entry) → e ≡ get_or entries i d = λ d. is ∙ get_or_default entries i e d inside in
    record {
      fronts = λ k d low. ⊎_elim
          (λ same. subst (HasFront new) (here d ∙ ap (λ j. get_or entries j d) (sym same)) (now.fronts 0 e (omega arith)))
          (λ other. record {
            count = (was.fronts k d low).count;
            there = now.rest (get_or entries k d).name
                (All-cons (λ a. (get_or entries k d).name ≢ a.name) e [] (subst (λ a. (get_or entries k d).name ≢ a.name) (sym (here d)) (other_name entries k i d apart low inside other)) (All-nil _))
                ∙ (was.fronts k d low).there;
          })
          (cases_eq k i);
      rest = λ n others.
          now.rest n (All-cons (λ a. n ≢ a.name) e [] (subst (λ a. n ≢ a.name) (sym is) (others i e inside)) (All-nil _))
          ∙ was.rest n others;
    }

-- ---- a set of entries

no_entry : Entry
no_entry = record { name = []; kind = kind.Text; values = [] }

at_def : (entries : List Entry) (i : ℕ) (d : PropDef) → i < length entries → get_or (map def_of entries) i d ≡ def_of (get_or entries i no_entry)
at_def entries i d low = get_or-map def_of entries i no_entry d low

pub apart_defs : (entries : List Entry) → NamesDiffer entries → AreApart (map def_of entries)
apart_defs entries apart i j d below inside =
    let low_j : j < length entries = omega (arith, simp length-map at inside) in
    let low_i : i < length entries = omega arith in
    rw (at_def entries i d low_i, at_def entries j d low_j) (apart i j no_entry below low_j)

apart_rest : (e : Entry) (entries : List Entry) → NamesDiffer (e ∷ entries) → NamesDiffer entries
apart_rest e entries apart i j d below inside = apart (suc i) (suc j) d (omega arith) (omega arith)

made_at : (entries : List Entry) (k : ℕ) (d : Entry) → NamesDiffer entries → k < length entries → made (map def_of entries) (get_or entries k d).name ≡ Some (property_made (def_of (get_or entries k d)))
made_at [] k d apart inside = absurd (omega arith)
made_at (e ∷ entries) zero d apart inside = cond-true _ _ _ ((bytes_eq-Decides e.name e.name).1 refl)
made_at (e ∷ entries) (suc k) d apart inside =
    let other : (get_or entries k d).name ≢ e.name = λ same. apart 0 (suc k) d (omega arith) inside (sym same) in
    cond-false _ _ _ (false_from_ne_true _ (λ t. other ((bytes_eq-Decides (get_or entries k d).name e.name).0 t)))
    ∙ made_at entries k d (apart_rest e entries apart) (omega arith)

-- the set makes the property of each entry
abbrev pub IsMadeOf : List Entry → Set → Type 0
IsMadeOf entries set = (name : List ℕ) → property set name ≡ made (map def_of entries) name

property_there : (entries : List Entry) (set : Set) → NamesDiffer entries → IsMadeOf entries set → All (λ e. property set e.name ≡ Some (property_made (def_of e))) entries
property_there entries set apart is k d inside = is _ ∙ made_at entries k d apart inside

pub has_values : (entries : List Entry) (set : Set) → NamesDiffer entries → IsMadeOf entries set → All (HasValues set) entries
has_values entries set apart is k d inside =
    let e = get_or entries k d in
    values_are set e.kind e.name (property_made (def_of e)) (property_there entries set apart is k d inside) refl

pub are_blank : (entries : List Entry) (set : Set) → NamesDiffer entries → IsMadeOf entries set → All (λ e. e.values ≡ [] → IsBlank set e.kind e.name) entries
are_blank entries set apart is k d inside none =
    property_there entries set apart is k d inside
    ∙ ap (λ vs. Some (property_made (def_of (record (get_or entries k d) { values = vs })))) none

-- ---- names that differ

-- whether each name differs from each later one
abbrev pub differ : List Entry → Bool
differ [] = true
differ (e ∷ entries) = not (list_any (λ a. bytes_eq e.name a.name) entries) && differ entries

both_of : (a b : Bool) → a && b ≡ true → (a ≡ true) × (b ≡ true)
both_of true b h = (refl, h)
both_of false b h = absurd cc

not_true : (b : Bool) → not b ≡ true → b ≡ false
not_true true h = absurd cc
not_true false h = refl

neither_of : (a b : Bool) → a || b ≡ false → (a ≡ false) × (b ≡ false)
neither_of true b h = absurd cc
neither_of false b h = (refl, h)

others_of : (name : List ℕ) (entries : List Entry) → list_any (λ a. bytes_eq name a.name) entries ≡ false → All (λ a. name ≢ a.name) entries
others_of name [] h = All-nil _
others_of name (e ∷ entries) h =
    let none = neither_of _ _ h in
    All-cons (λ a. name ≢ a.name) e entries
    (λ same. false≢true (sym none.0 ∙ (bytes_eq-Decides name e.name).1 same))
    (others_of name entries none.1)

pub apart_if : (entries : List Entry) → differ entries ≡ true → NamesDiffer entries
apart_if [] h = λ i j d below inside. absurd (omega arith)
apart_if (e ∷ entries) h =
    let both = both_of _ _ h in
    AllPairs-cons (λ a b. a.name ≢ b.name) e entries (others_of e.name entries (not_true _ both.0)) (apart_if entries both.1)

blank_names : (prefix : List ℕ) (k : PropKind) (names : List (List ℕ)) → AllPairs (λ a b. a ≢ b) names → NamesDiffer (map (blank_entry prefix k) names)
blank_names prefix k names apart i j d below inside =
    let low_j : j < length names = omega (arith, simp length-map at inside) in
    let low_i : i < length names = omega arith in
    rw (get_or-map (blank_entry prefix k) names i [] d low_i, get_or-map (blank_entry prefix k) names j [] d low_j)
    (λ same. apart i j [] below low_j (append_cancel_left prefix _ _ same))

pub clip_names_apart : (entries : List Entry) (prefix : List ℕ) (k : PropKind) (names : List (List ℕ)) → entries ≡ map (blank_entry prefix k) names → AllPairs (λ a b. a ≢ b) names → NamesDiffer entries
clip_names_apart entries prefix k names is apart = rw is (blank_names prefix k names apart)

pub clips_blank : (entries : List Entry) (prefix : List ℕ) (k : PropKind) (names : List (List ℕ)) (set : Set) → entries ≡ map (blank_entry prefix k) names → All (λ e. e.values ≡ [] → IsBlank set e.kind e.name) entries → AreBlank set prefix k names
clips_blank entries prefix k names set is blanks i d inside =
    let there : All (λ e. e.values ≡ [] → IsBlank set e.kind e.name) (map (blank_entry prefix k) names) = rw is at blanks in
    (rw (get_or-map (blank_entry prefix k) names i d no_entry inside) at (there i no_entry (simp length-map inside))) refl

-- the blank property of a clip, with its name
abbrev pub blank_named : List ℕ → PropKind → List ℕ → Named
blank_named prefix k name = (prefix ++ name, blank k)

named_blanks : (prefix : List ℕ) (k : PropKind) (names : List (List ℕ)) → map (blank_named prefix k) names ≡ map named_made (map def_of (map (blank_entry prefix k) names))
named_blanks prefix k [] = refl
named_blanks prefix k (n ∷ names) = ap (λ rest. blank_named prefix k n ∷ rest) (named_blanks prefix k names)

pub blanks_stand : (entries : List Named) (prefix : List ℕ) (k : PropKind) (names : List (List ℕ)) → entries ≡ map (blank_named prefix k) names → AllPairs (λ a b. a ≢ b) names → AreBlank (from_entries entries) prefix k names
blanks_stand entries prefix k names is apart =
    let blanks = map (blank_entry prefix k) names in
    let set = from_entries entries in
    let is_made : IsMadeOf blanks set = λ name. property_among entries name ∙ ap (λ es. among es name) (is ∙ named_blanks prefix k names) ∙ among_made (map def_of blanks) name in
    clips_blank blanks prefix k names set refl (are_blank blanks set (clip_names_apart blanks prefix k names refl apart) is_made)

-- ---- properties of clips

clip_entries_push : (prefix : List ℕ) (kd : PropKind) (values : ℕ → List PropValue) (k : ℕ) (names : List (List ℕ)) (name : List ℕ)
    → clip_entries_from prefix kd values k (names ++ name ∷ []) ≡ clip_entries_from prefix kd values k names ++ record { name = prefix ++ name; kind = kd; values = values (k + length names) } ∷ []
clip_entries_push prefix kd values k [] name = ap (λ n. record { name = prefix ++ name; kind = kd; values = values n } ∷ []) (omega arith)
clip_entries_push prefix kd values k (n ∷ names) name =
    ap (λ es. record { name = prefix ++ n; kind = kd; values = values k } ∷ es)
    (clip_entries_push prefix kd values (suc k) names name
    ∙ ap (λ m. clip_entries_from prefix kd values (suc k) names ++ record { name = prefix ++ name; kind = kd; values = values m } ∷ []) (omega arith))

clips_more : (clips : List (Bor (List ℕ))) (k : ℕ) (d : Bor (List ℕ)) → k < length clips → texts_of (take (k + 1) clips) ≡ texts_of (take k clips) ++ (get_or clips k d).now ∷ []
clips_more clips k d inside = map_more (λ (n : Bor (List ℕ)). n.now) clips k d inside

clips_before : (clips : List (Bor (List ℕ))) (k : ℕ) → k < length clips → k ≡ 0 + length (texts_of (take k clips))
clips_before clips k inside = rw (length-map, length-take) (omega arith)

-- the entries of the clips so far, and the next
pub clip_entries_more : (prefix : List ℕ) (kd : PropKind) (values : ℕ → List PropValue) (clips : List (Bor (List ℕ))) (k : ℕ) (d : Bor (List ℕ)) (entries : List Entry) (e : Entry)
    → k < length clips → entries ≡ clip_entries prefix kd values (texts_of (take k clips)) → e ≡ record { name = prefix ++ (get_or clips k d).now; kind = kd; values = values k }
    → entries ++ e ∷ [] ≡ clip_entries prefix kd values (texts_of (take (k + 1) clips))
clip_entries_more prefix kd values clips k d entries e inside same new =
    let before = texts_of (take k clips) in
    let clip = (get_or clips k d).now in
    ap (λ es. es ++ e ∷ []) same
    ∙ ap (λ x. clip_entries prefix kd values before ++ x ∷ []) (new ∙ ap (λ n. record { name = prefix ++ clip; kind = kd; values = values n }) (clips_before clips k inside))
    ∙ sym (clip_entries_push prefix kd values 0 before clip)
    ∙ ap (clip_entries prefix kd values) (sym (clips_more clips k d inside))

at_clip : (prefix : List ℕ) (kd : PropKind) (values : ℕ → List PropValue) (from : ℕ) (names : List (List ℕ)) (i : ℕ) (d : Entry) (e : List ℕ) → i < length names → get_or (clip_entries_from prefix kd values from names) i d ≡ record { name = prefix ++ get_or names i e; kind = kd; values = values (from + i) }
at_clip prefix kd values from [] i d e inside = absurd (omega arith)
at_clip prefix kd values from (n ∷ names) zero d e inside = ap (λ m. record { name = prefix ++ n; kind = kd; values = values m }) (omega arith)
at_clip prefix kd values from (n ∷ names) (suc i) d e inside =
    at_clip prefix kd values (suc from) names i d e (omega arith) ∙ ap (λ m. record { name = prefix ++ get_or names i e; kind = kd; values = values m }) (omega arith)

clip_entries_long : (prefix : List ℕ) (kd : PropKind) (values : ℕ → List PropValue) (from : ℕ) (names : List (List ℕ)) → length (clip_entries_from prefix kd values from names) ≡ length names
clip_entries_long prefix kd values from [] = refl
clip_entries_long prefix kd values from (n ∷ names) = ap suc (clip_entries_long prefix kd values (suc from) names)

pub clip_entries_apart : (entries : List Entry) (prefix : List ℕ) (kd : PropKind) (values : ℕ → List PropValue) (names : List (List ℕ)) → entries ≡ clip_entries prefix kd values names → AllPairs (λ a b. a ≢ b) names → NamesDiffer entries
clip_entries_apart entries prefix kd values names is apart i j d below inside =
    let low_j : j < length names = omega (arith, inside, ap length is, clip_entries_long prefix kd values 0 names) in
    let low_i : i < length names = omega arith in
    rw (is, at_clip prefix kd values 0 names i d [] low_i, at_clip prefix kd values 0 names j d [] low_j)
    (λ same. apart i j [] below low_j (append_cancel_left prefix _ _ same))

pub clip_entries_await : (entries : List Entry) (prefix : List ℕ) (kd : PropKind) (values : ℕ → List PropValue) (names : List (List ℕ)) (set : Set) → entries ≡ clip_entries prefix kd values names → AreBlank set prefix kd names → AwaitEntries set entries
clip_entries_await entries prefix kd values names set is blanks i d inside =
    let low : i < length names = omega (arith, inside, ap length is, clip_entries_long prefix kd values 0 names) in
    rw (is, at_clip prefix kd values 0 names i d [] low) (blanks i [] low)

-- ---- regions of interest

pub interest_long : (clips : List (Bor (List ℕ))) (regions : List Bounds) → length (interest (texts_of clips) (region_of regions)) ≡ length clips
interest_long clips regions = clip_entries_long CLIP_REGION.now kind.Fix (λ clip. region_values (region_of regions clip)) 0 (texts_of clips) ∙ simp length-map refl

pub interest_apart : (clips : List (Bor (List ℕ))) (regions : List Bounds) → AllPairs (λ a b. a ≢ b) (texts_of clips) → NamesDiffer (interest (texts_of clips) (region_of regions))
interest_apart clips regions = clip_entries_apart _ CLIP_REGION.now kind.Fix (λ clip. region_values (region_of regions clip)) (texts_of clips) refl

pub interest_awaits : (clips : List (Bor (List ℕ))) (regions : List Bounds) (set : Set) → AreBlank set CLIP_REGION.now kind.Fix (texts_of clips) → AwaitEntries set (interest (texts_of clips) (region_of regions))
interest_awaits clips regions set = clip_entries_await _ CLIP_REGION.now kind.Fix (λ clip. region_values (region_of regions clip)) (texts_of clips) set refl

-- the entry of a clip is that of its name and its region
pub interest_entry : (clips : List (Bor (List ℕ))) (regions : List Bounds) (k : ℕ) (b : Bor (List ℕ)) (name : List ℕ) (region : Bounds) → k < length clips → length regions ≡ length clips → name ≡ CLIP_REGION.now ++ (get_or clips k b).now → region ≡ get_or regions k region → region_entry name region ≡ get_or (interest (texts_of clips) (region_of regions)) k (region_entry name region)
interest_entry clips regions k b name region inside same named is =
    let here : region ≡ region_of regions k = is ∙ get_or_default regions k region none (omega arith) in
    let text : get_or (texts_of clips) k b.now ≡ (get_or clips k b).now = get_or-map (λ n. n.now) clips k b b.now inside in
    ap (λ n. region_entry n region) (named ∙ ap (λ t. CLIP_REGION.now ++ t) (sym text))
    ∙ ap (region_entry (CLIP_REGION.now ++ get_or (texts_of clips) k b.now)) here
    ∙ sym (at_clip CLIP_REGION.now kind.Fix (λ clip. region_values (region_of regions clip)) 0 (texts_of clips) k (region_entry name region) b.now (rw length-map inside)
    ∙ ap (λ n. region_entry (CLIP_REGION.now ++ get_or (texts_of clips) k b.now) (region_of regions n)) (omega arith))

-- ---- frames

pub range_values_push : (spans : List (ℤ × ℤ)) (span : ℤ × ℤ) → range_values (spans ++ span ∷ []) ≡ range_values spans ++ whole span.0 ∷ whole span.1 ∷ []
range_values_push [] span = refl
range_values_push (s ∷ spans) span = ap (λ vs. whole s.0 ∷ whole s.1 ∷ vs) (range_values_push spans span)

pub ranges_more : (spans : List (ℤ × ℤ)) (i : ℕ) (d : ℤ × ℤ) (was mid new : List PropValue) (a b : PropValue) → i < length spans → was ≡ range_values (take i spans) → mid ≡ was ++ a ∷ [] → new ≡ mid ++ b ∷ [] → a ≡ whole (get_or spans i d).0 → b ≡ whole (get_or spans i d).1 → new ≡ range_values (take (i + 1) spans)
ranges_more spans i d was mid new a b inside same first second a_is b_is =
    let before = range_values (take i spans) in
    second
    ∙ ap (λ v. v ++ b ∷ []) (first ∙ ap (λ v. v ++ a ∷ []) same)
    ∙ append_assoc before (a ∷ []) (b ∷ [])
    ∙ ap (λ v. before ++ v ∷ b ∷ []) a_is
    ∙ ap (λ v. before ++ whole (get_or spans i d).0 ∷ v ∷ []) b_is
    ∙ sym (range_values_push (take i spans) (get_or spans i d))
    ∙ ap range_values (sym (take_more spans i d inside))

pub fits_between : (a b c : ℤ) → FitsSigned w64 a → FitsSigned w64 c → a ≤ℤ b → b ≤ℤ c → FitsSigned w64 b
fits_between a b c low high h k = grind (arith, ints)

pub moderate_fits : (n : ℤ) → IsModerate n → FitsSigned w64 n
moderate_fits n near = fits_between (neg_ℤ (pos 2147483648)) n (pos 2147483648) (search rules) (search rules) near.0 near.1

-- what an entry was made of
pub entry_is : (e : Entry) (kd : PropKind) (name named : List ℕ) (values given : List PropValue) → e ≡ record { name = name; kind = kd; values = values } → name ≡ named → values ≡ given → e ≡ record { name = named; kind = kd; values = given }
entry_is e kd name named values given is n v = is ∙ ap (λ m. record { name = m; kind = kd; values = values }) n ∙ ap (λ vs. record { name = named; kind = kd; values = vs }) v

-- ---- a result that is handed on

pub if_ok : {A E : Type 0} (r : Result A E) (P Q : A → Type 0) → ((a : A) → P a → Q a) → IfOk r P → IfOk r Q
if_ok (Ok a) P Q h p = h a p
if_ok (Err e) P Q h p = tt

pub on_err : {A E P : Type 0} (r : Result A E) → P → OnErr r P
on_err (Ok a) p = tt
on_err (Err e) p = p

pub four_of : (kd : PropKind) (a b c d : PropValue) → kind_of a ≡ kd → kind_of b ≡ kd → kind_of c ≡ kd → kind_of d ≡ kd → All (λ v. kind_of v ≡ kd) (a ∷ b ∷ c ∷ d ∷ [])
four_of kd a b c d pa pb pc pd = All-from_recursion (λ v. kind_of v ≡ kd) (a ∷ b ∷ c ∷ d ∷ []) (pa, (pb, (pc, (pd, tt))))

-- ---- what waits to be written

abbrev pub emptied : Entry → Entry
emptied e = record e { values = [] }

pub awaits_all : (entries blanks : List Entry) (set : Set) → blanks ≡ map emptied entries → All (λ e. e.values ≡ [] → IsBlank set e.kind e.name) blanks → AwaitEntries set entries
awaits_all entries blanks set is all k d inside =
    let there : All (λ e. e.values ≡ [] → IsBlank set e.kind e.name) (map emptied entries) = subst (λ (es : List Entry). All (λ e. e.values ≡ [] → IsBlank set e.kind e.name) es) is all in
    (rw (get_or-map emptied entries k d d inside) at (there k d (simp length-map inside))) refl

-- one name differs from each other
pub one_apart : {X : Type 0} (R : X → X → Type 0) (x : X) → AllPairs R (x ∷ [])
one_apart R x i j d below inside = absurd (omega arith)
