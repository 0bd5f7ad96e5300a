-- What was read, one after the other.
use Rattle.std.proofs.Common.{◌≡◌, ◌<◌, ◌≤◌, ℕ, ◌+◌, nat_eq, List, [], ◌∷◌, ◌++◌, length, map, filter, take, drop, get_or, Option, Some, None, refl, sym, ap, ◌∙◌, subst, arith, append_assoc, append-nil}
use Rattle.std.proofs.lemmas.List.{drop_more, map-append, take-append-drop, take_more}
use Rattle.std.proofs.lemmas.List.Elements.{Contains-append_left, Contains-append_right, filter-append}
use Rattle.std.proofs.lemmas.Option.{none-some}
use Rattle.std.specs.Option.{option_or}
use Rattle.std.proofs.lemmas.List.Sums.{sum_by-append}
use Rattle.std.specs.List.{AllZip}
use Rattle.fx_outside.specs.Outside.{Files, HasRisen}
use Rattle.fx_seq.specs.declared.source.SourceFrame.{SourceFrame}
use Rattle.fx_seq.specs.declared.fault.SeqFault.{SeqFault}
use Rattle.fx_seq.specs.declared.fault.SeqFault.TheVariants.{Fetch, Frame, TooLarge, Memory}
use Rattle.fx_seq.specs.declared.used.Use.{Use}
use Rattle.fx_seq.specs.declared.wanted.Wanted.{Wanted}
use Rattle.fx_seq.specs.Lists.{ArePictures, IsFrameOf, ReadsMore, size_of_all}
use Rattle.fx_seq.specs.Moments.{due_at}
use Rattle.fx_seq.specs.Filling.{IsFetchIn, IsFirstFetch, IsTold, first_refused, refusal, size_under}
use Rattle.fx_seq.specs.Frames.{IsPicture, image_size}
use Rattle.fx_seq.proofs.FillingLemmas.{Accepts, accepts_more}

pub zip_append : {A B : Type 0} (R : A → B → Type 0) (xs us : List A) (ys vs : List B) → AllZip R xs ys → AllZip R us vs
    → AllZip R (xs ++ us) (ys ++ vs)
zip_append R [] us [] vs p q = q
zip_append R [] us (y ∷ ys) vs p q = absurd p
zip_append R (x ∷ xs) us [] vs p q = absurd p
zip_append R (x ∷ xs) us (y ∷ ys) vs p q = (p.0, zip_append R xs us ys vs p.1 q)

module _ (tells : Type 0) (files : Files) (side limit : ℕ) where
  -- nothing
  pub reads_none : (sum : ℕ) (old : List SourceFrame) → ReadsMore tells files side limit sum [] old old sum
  reads_none sum old =
      record {
        added = [];
        items = sym (append-nil old);
        are = tt;
        pictures = λ told. tt;
        accepted = λ told rest. refl;
        all_is = omega arith;
        fits = λ low. low;
        few = λ low most. low;
      }

  -- one
  pub reads_one : (sum all : ℕ) (w : Wanted) (s : SourceFrame) (old new : List SourceFrame) → new ≡ old ++ s ∷ []
      → IsFrameOf w s → (tells → IsPicture files side w.name s.image) → all ≡ sum + s.size → all ≤ limit
      → ReadsMore tells files side limit sum (w ∷ []) old new all
  reads_one sum all w s old new items is picture all_is low =
      let same : sum + image_size s.image ≡ all = omega (arith, all_is, is.size) in
      record {
        added = s ∷ [];
        items = items;
        are = (is, tt);
        pictures = λ told. (picture told, tt);
        accepted = λ told rest.
            accepts_more files side limit sum [] sum w s.image (λ more. refl) (picture told) (omega (arith, low, same)) rest
            ∙ ap (λ n. first_refused files side limit n rest) same;
        all_is = omega (arith, all_is);
        fits = λ before. low;
        few = λ before most. omega (arith, low, most);
      }

  -- and then others
  pub reads_more : (sum mid all : ℕ) (first then_ : List Wanted) (old between new : List SourceFrame)
      → ReadsMore tells files side limit sum first old between mid
      → ReadsMore tells files side limit mid then_ between new all
      → ReadsMore tells files side limit sum (first ++ then_) old new all
  reads_more sum mid all first then_ old between new p q =
      let sizes : size_of_all (p.added ++ q.added) ≡ size_of_all p.added + size_of_all q.added = sum_by-append (λ s. s.size) p.added q.added in
      record {
        added = p.added ++ q.added;
        items = q.items ∙ ap (λ xs. xs ++ q.added) p.items ∙ append_assoc old p.added q.added;
        are = zip_append IsFrameOf first then_ p.added q.added p.are q.are;
        pictures = λ told. zip_append (λ w s. IsPicture files side w.name s.image) first then_ p.added q.added (p.pictures told) (q.pictures told);
        accepted = λ told rest.
            ap (first_refused files side limit sum) (append_assoc first then_ rest)
            ∙ p.accepted told (then_ ++ rest) ∙ q.accepted told rest;
        all_is = omega (arith, p.all_is, q.all_is, sizes);
        fits = λ low. q.fits (p.fits low);
        few = λ low most. q.few (p.few low most) most;
      }

-- over files that are the same
pub reads_same : (tells : Type 0) (files now : Files) (side limit sum : ℕ) (due : List Wanted) (old new : List SourceFrame) (all : ℕ)
    → (tells → now ≡ files) → ReadsMore tells now side limit sum due old new all
    → ReadsMore tells files side limit sum due old new all
reads_same tells files now side limit sum due old new all same p =
    record {
      added = p.added;
      items = p.items;
      are = p.are;
      pictures = λ told. subst (λ (f : Files). ArePictures f side due p.added) (same told) (p.pictures told);
      accepted = λ told.
          subst (λ (f : Files). (rest : List Wanted) → first_refused f side limit sum (due ++ rest) ≡ first_refused f side limit all rest)
          (same told) (p.accepted told);
      all_is = p.all_is;
      fits = p.fits;
      few = p.few;
    }

-- ---- what was told of some is told of all

-- what is refused of the first is refused of the whole
refused_append : (files : Files) (side limit sum : ℕ) (ws rest : List Wanted) (e : SeqFault)
    → first_refused files side limit sum ws ≡ Some e → first_refused files side limit sum (ws ++ rest) ≡ Some e
refused_append files side limit sum [] rest e h = absurd (none-some e h)
refused_append files side limit sum (w ∷ ws) rest e h =
    by (refusal files side limit sum w) h (λ k. refused_append files side limit (sum + size_under files w.name) ws rest e k)
  where
    by : (o : Option SeqFault) → option_or o (first_refused files side limit (sum + size_under files w.name) ws) ≡ Some e
        → (first_refused files side limit (sum + size_under files w.name) ws ≡ Some e
        → first_refused files side limit (sum + size_under files w.name) (ws ++ rest) ≡ Some e)
        → option_or o (first_refused files side limit (sum + size_under files w.name) (ws ++ rest)) ≡ Some e
    by None h later = later h
    by (Some f) h later = h

module _ (files : Files) (side limit start sum : ℕ) (before one rest : List Wanted)
    (acc : Accepts files side limit start before sum) where
  first_told : (e : SeqFault) → first_refused files side limit sum one ≡ Some e
      → first_refused files side limit start (before ++ (one ++ rest)) ≡ Some e
  first_told e h = acc (one ++ rest) ∙ refused_append files side limit sum one rest e h

  pub told_all : (e : SeqFault) → IsTold (first_refused files side limit sum one) e
      → IsTold (first_refused files side limit start (before ++ (one ++ rest))) e
  told_all (Fetch node frame name) told = tt
  told_all (Frame node frame fault) told = first_told (Frame node frame fault) told
  told_all (TooLarge node frame all) told = first_told (TooLarge node frame all) told
  told_all Memory told = tt

  pub first_all : (e : SeqFault) → IsFirstFetch files side limit sum one e
      → IsFirstFetch files side limit start (before ++ (one ++ rest)) e
  first_all (Fetch node frame name) c =
      let w : Wanted = record { node = node; frame = frame; name = name } in
      record {
        before = before ++ c.before;
        after = c.after ++ rest;
        split =
            ap (λ (xs : List Wanted). before ++ (xs ++ rest)) c.split
            ∙ ap (λ (xs : List Wanted). before ++ xs) (append_assoc c.before (w ∷ c.after) rest)
            ∙ sym (append_assoc before c.before (w ∷ (c.after ++ rest)));
        accepted = acc c.before ∙ c.accepted;
      }
  first_all (Frame node frame fault) c = tt
  first_all (TooLarge node frame all) c = tt
  first_all Memory c = tt

pub fetch_all : (a b c : ℕ) (last : List ℕ) (before one rest : List Wanted) (e : SeqFault) → b ≡ a
    → IsFetchIn b c last one e → IsFetchIn a c last (before ++ (one ++ rest)) e
fetch_all a b c last before one rest (Fetch node frame name) same h =
    let w : Wanted = record { node = node; frame = frame; name = name } in (
      subst (λ (n : ℕ). HasRisen n c) same h.0,
      h.1,
      Contains-append_right before (one ++ rest) w (Contains-append_left one rest w h.2),
    )
fetch_all a b c last before one rest (Frame node frame fault) same h = tt
fetch_all a b c last before one rest (TooLarge node frame all) same h = tt
fetch_all a b c last before one rest Memory same h = tt

-- ---- the frames that are due

due_append : (us vs : List Use) (moment : ℕ) → due_at (us ++ vs) moment ≡ due_at us moment ++ due_at vs moment
due_append us vs moment =
    ap (map (λ (u : Use). u.wanted)) (filter-append (λ (u : Use). nat_eq u.from moment) us vs)
    ∙ map-append (λ (u : Use). u.wanted) (filter (λ (u : Use). nat_eq u.from moment) us) (filter (λ (u : Use). nat_eq u.from moment) vs)

-- the uses before one, that one, and the others
pub due_split : (us : List Use) (i : ℕ) (u : Use) (moment : ℕ) → i < length us → u ≡ get_or us i u
    → due_at us moment ≡ due_at (take i us) moment ++ (due_at (u ∷ []) moment ++ due_at (drop (i + 1) us) moment)
due_split us i u moment low is =
    ap (λ (xs : List Use). due_at xs moment)
    (sym (take-append-drop i us) ∙ ap (λ (rest : List Use). take i us ++ rest) (drop_more us i u low ∙ ap (λ (v : Use). v ∷ drop (i + 1) us) (sym is)))
    ∙ due_append (take i us) (u ∷ drop (i + 1) us) moment
    ∙ ap (λ (xs : List Wanted). due_at (take i us) moment ++ xs) (due_append (u ∷ []) (drop (i + 1) us) moment)

pub due_more : (us : List Use) (i : ℕ) (u : Use) (moment : ℕ) → i < length us → u ≡ get_or us i u
    → due_at (take (i + 1) us) moment ≡ due_at (take i us) moment ++ due_at (u ∷ []) moment
due_more us i u moment low is =
    ap (λ (xs : List Use). due_at xs moment) (take_more us i u low ∙ ap (λ (v : Use). take i us ++ v ∷ []) (sym is))
    ∙ due_append (take i us) (u ∷ []) moment
