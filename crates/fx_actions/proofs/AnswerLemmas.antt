-- What an answer that an effect wrote leaves in the set.
use Rattle.std.proofs.Common.{◌≡◌, ◌≢◌, ◌∙◌, ℕ, ◌+◌, ◌<◌, zero, suc, true, false, cond, List, [], ◌∷◌, ◌++◌, length, get_or, map, replicate, All, AllPairs, Some, None, refl, sym, ap, subst, add-zero, zero-add, arith}
use Rattle.std.specs.List.{range_with_len}
use Rattle.std.specs.Option.{option_map, option_and_then}
use Rattle.std.proofs.lemmas.Slice.Zip.{AllZip-long}
use Rattle.std.proofs.lemmas.List.{length-map, get_or-map, get_or-replicate, length-replicate, ext_get_or}
use Rattle.std.proofs.lemmas.List.FromFn.{map-range_with_len_more, get_or-map-range_with_len, length-map-range_with_len}
use Rattle.fx_base.specs.Bounds.{Bounds, IsRect, none}
use Rattle.fx_props.specs.declared.value.PropKind.{PropKind}
use Rattle.fx_props.specs.declared.value.PropKind.TheVariants as kind
use Rattle.fx_props.specs.declared.value.PropValue.{PropValue}
use Rattle.fx_props.specs.Value.{same_kind}
use Rattle.fx_props.specs.Property.{Property, with_values, of_kind}
use Rattle.fx_props.specs.Set.{Set, property}
use Rattle.fx_effect.specs.declared.action.Context.{Context}
use Rattle.fx_effect.specs.declared.action.Reply.{Reply}
use Rattle.fx_effect.specs.declared.action.Reply.TheVariants as reply
use Rattle.fx_effect.specs.declared.values.Values.{Values}
use Rattle.fx_effect.specs.Shape.{Shape, Clip, MayBe, IsLawfulIn, clip_names, optional_flags}
use Rattle.fx_effect.specs.Meaning.{Meaning}
use Rattle.fx_props.specs.Entries.{Entry, clip_entries_from, clip_entries, blank, HasValues, Wrote, interest, frame_ranges, region_entry}
use Rattle.fx_effect.specs.Laws.{Laws}
use Rattle.fx_effect.specs.Asked.{IsWindow, AreRegions, AnswersRegion, AnswersInterest, AnswersFrames}
use Rattle.fx_props.specs.declared.names.TheConstants.{REGION}
use Rattle.fx_actions.specs.Clips.{NamesClips}
use Rattle.fx_actions.specs.Read.{IsInterest, AreFrames}

same_kind-same : (k : PropKind) → same_kind k k ≡ true
same_kind-same kind.Int = refl
same_kind-same kind.Fix = refl
same_kind-same kind.Text = refl

-- a property of its kind shows its values
shown : (k : PropKind) (p : Property) → p.kind ≡ k → option_map (λ q. q.values) (of_kind k p) ≡ Some p.values
shown k p is = ap (λ b. option_map (λ q. q.values) (cond b (Some p) None)) (ap (λ l. same_kind l k) is ∙ same_kind-same k)

pub HasValues-wrote : (set : Set) (e : Entry) → property set e.name ≡ Some (with_values (blank e.kind) e.values) → HasValues set e
HasValues-wrote set e there =
    ap (λ o. option_map (λ q. q.values) (option_and_then (of_kind e.kind) o)) there ∙ shown e.kind (with_values (blank e.kind) e.values) refl

-- ---- regions of definition

pub region_written : (m : Meaning) (v : Values) (regions : List Bounds) (context : Context) (old new : Set) (r : Reply) → r ≡ reply.Ok → AnswersRegion m v regions context old new r → HasValues new (region_entry REGION.now (m.rod context v regions))
region_written m v regions context old new reply.Ok is wrote = HasValues-wrote new (region_entry REGION.now (m.rod context v regions)) (wrote.there 0 (region_entry REGION.now none) (omega arith))
region_written m v regions context old new reply.Default is wrote = cc

pub connected_long : (s : Shape) (context : Context) (v : Values) → IsLawfulIn s context v → length v.connected ≡ length (s.clips context)
connected_long s context v lawful = AllZip-long MayBe (s.clips context) v.connected lawful.connected

pub regions_long : (v : Values) (regions : List Bounds) → AreRegions v regions → length regions ≡ length v.connected
regions_long v regions are = AllZip-long (λ connected r. IsWindow r × (connected ≡ false → r ≡ none)) v.connected regions are

pub flags_long : (s : Shape) (context : Context) → length (optional_flags s context) ≡ length (s.clips context)
flags_long s context = length-map (s.clips context) (λ clip. clip.optional)

-- ---- answers for each clip

-- the entry of a clip
clip_entries_at : (prefix : List ℕ) (kind : PropKind) (values : ℕ → List PropValue) (names : List (List ℕ)) (j k : ℕ) (n : List ℕ) (e : Entry) → k < length names → get_or (clip_entries_from prefix kind values j names) k e ≡ record { name = prefix ++ get_or names k n; kind = kind; values = values (j + k) }
clip_entries_at prefix kind values [] j k n e lt = absurd (omega arith)
clip_entries_at prefix kind values (name ∷ names) j zero n e lt = ap (λ l. record { name = prefix ++ name; kind = kind; values = values l }) (sym (add-zero j))
clip_entries_at prefix kind values (name ∷ names) j (suc k) n e lt =
    let same : suc j + k ≡ j + suc k = omega arith in
    clip_entries_at prefix kind values names (suc j) k n e (omega arith) ∙ ap (λ l. record { name = prefix ++ get_or names k n; kind = kind; values = values l }) same

length-clip_entries : (prefix : List ℕ) (kind : PropKind) (values : ℕ → List PropValue) (j : ℕ) (names : List (List ℕ)) → length (clip_entries_from prefix kind values j names) ≡ length names
length-clip_entries prefix kind values j [] = refl
length-clip_entries prefix kind values j (name ∷ names) = ap suc (length-clip_entries prefix kind values (suc j) names)

-- what holds of all entries holds of that of a clip
pub entry_of_clip : (P : Entry → Type 0) (prefix : List ℕ) (kind : PropKind) (values : ℕ → List PropValue) (names : List (List ℕ)) (k : ℕ) (n : List ℕ) → All P (clip_entries prefix kind values names) → k < length names → P (record { name = prefix ++ get_or names k n; kind = kind; values = values k })
entry_of_clip P prefix kind values names k n all lt =
    let e : Entry = record { name = prefix ++ get_or names k n; kind = kind; values = values k } in
    subst P (clip_entries_at prefix kind values names 0 k n e lt ∙ ap (λ l. record { name = prefix ++ get_or names k n; kind = kind; values = values l }) (zero-add k)) (all k e (omega (arith, length-clip_entries prefix kind values 0 names)))

-- entries that were written are there
pub All-wrote : (entries : List Entry) (old new : Set) → Wrote entries old new → All (HasValues new) entries
All-wrote entries old new wrote = λ k e lt. HasValues-wrote new (get_or entries k e) (wrote.there k e lt)

pub interest_written : (m : Meaning) (v : Values) (window : Bounds) (names : List (List ℕ)) (clips : NamesClips m.shape v names) (old new : Set) (r : Reply) → Laws m → IsRect window → r ≡ reply.Ok → AnswersInterest m v window clips.context old new r → IsInterest new names (m.roi v window)
interest_written m v window names clips old new reply.Ok laws rect is wrote = record {
  rects = λ clip. laws.interest_is_rect clips.context v window clip clips.lawful rect;
  there = subst (λ ns. All (HasValues new) (interest ns (m.roi v window))) (sym clips.are) (All-wrote (interest (clip_names m.shape clips.context) (m.roi v window)) old new wrote);
}
interest_written m v window names clips old new reply.Default laws rect is wrote = absurd (cc)

pub interest_left : (m : Meaning) (v : Values) (window : Bounds) (context : Context) (old new : Set) (r : Reply) → r ≡ reply.Default → AnswersInterest m v window context old new r → (clip : ℕ) → m.roi v window clip ≡ window
interest_left m v window context old new reply.Ok is left = absurd (cc)
interest_left m v window context old new reply.Default is left = left.1

pub frames_written : (m : Meaning) (v : Values) (names : List (List ℕ)) (clips : NamesClips m.shape v names) (old new : Set) (r : Reply) → r ≡ reply.Ok → AnswersFrames m v clips.context old new r → AreFrames new names (m.spans v)
frames_written m v names clips old new reply.Ok is wrote =
    subst (λ ns. AreFrames new ns (m.spans v)) (sym clips.are) (All-wrote (frame_ranges (clip_names m.shape clips.context) (m.spans v)) old new wrote)
frames_written m v names clips old new reply.Default is wrote = absurd (cc)

-- the names of the clips differ
pub names_differ : (m : Meaning) (v : Values) (names : List (List ℕ)) → Laws m → NamesClips m.shape v names → AllPairs (λ a b. a ≢ b) names
names_differ m v names laws clips =
    let shown = m.shape.clips clips.context in
    let apart = (laws.shape.contexts clips.context clips.lawful.supported).clips_differ in
    let long = length-map shown (λ clip. clip.name) in
    subst (AllPairs (λ a b. a ≢ b)) (sym clips.are) (λ i j d before within same.
    let clip : Clip = record { name = d; optional = false } in
    let last : j < length shown = omega (arith, long) in
    let first : i < length shown = omega (arith, long) in
    apart i j clip before last (sym (get_or-map (λ (c : Clip). c.name) shown i clip d first) ∙ same ∙ get_or-map (λ (c : Clip). c.name) shown j clip d last))

-- the same for each clip
pub each_clip-same : {A : Type 0} (f : ℕ → A) (a : A) (n : ℕ) → ((k : ℕ) → f k ≡ a) → replicate n a ≡ map f (range_with_len 0 n)
each_clip-same f a n same =
    let long = length-replicate n a in
    ext_get_or a (replicate n a) (map f (range_with_len 0 n)) (long ∙ sym (length-map-range_with_len f 0 n)) (λ i lt.
    let within : i < n = omega (arith, long) in
    get_or-replicate n i a a within ∙ sym (get_or-map-range_with_len f 0 n i i a within (zero-add i) ∙ same i))

-- one clip more
pub each_clip-more : {A : Type 0} (f : ℕ → A) (k : ℕ) (now items : List A) (a : A) → now ≡ items ++ a ∷ [] → items ≡ map f (range_with_len 0 k) → a ≡ f k → now ≡ map f (range_with_len 0 (k + 1))
each_clip-more f k now items a pushed so_far is =
    pushed ∙ ap (λ xs. xs ++ a ∷ []) so_far ∙ ap (λ x. map f (range_with_len 0 k) ++ x ∷ []) is ∙ sym (map-range_with_len_more f 0 k k (zero-add k))
