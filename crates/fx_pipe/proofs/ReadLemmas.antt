-- What was read of moments that follow one another.
use Rattle.std.proofs.Common.{◌≡◌, ◌≤◌, ◌<◌, ℕ, zero, suc, ℤ, ◌+◌, ◌-◌, Bool, true, false, cond, filter, ◌&&◌, ◌||◌, nat_eq, nat_le, if◌then◌else◌, List, [], ◌∷◌, ◌++◌, length, map, refl, sym, ap, ◌∙◌, subst, arith, append_assoc, append-nil}
use Rattle.std.proofs.lemmas.Bool.{false_from_ne_true, false≢true, le-leb, leb-true}
use Rattle.std.proofs.lemmas.List.{length-append}
use Rattle.std.proofs.lemmas.List.Sums.{sum_by-append, sum_by-cons, sum_by-le-sum_by}
use Rattle.std.specs.List.{AllZip}
use Rattle.std.specs.Ordering.{int_eq}
use Rattle.fx_outside.specs.Outside.{Files, HasRisen}
use Rattle.fx_seq.specs.declared.wanted.Wanted.{Wanted}
use Rattle.fx_seq.specs.declared.fault.SeqFault.{SeqFault}
use Rattle.fx_seq.specs.declared.fault.SeqFault.TheVariants.{Fetch, Frame, TooLarge, Memory}
use Rattle.fx_seq.specs.Filling.{IsFetchIn, IsQuiet}
use Rattle.fx_seq.specs.declared.source.SourceFrame.{SourceFrame}
use Rattle.fx_seq.specs.declared.used.Use.{Use}
use Rattle.fx_seq.specs.Lists.{IsFrameOf, is_used_frame, size_of_all, used_size}
use Rattle.fx_seq.specs.Moments.{due_at, is_used}
use Rattle.fx_pipe.specs.declared.schedule.Schedule.{Schedule}
use Rattle.fx_pipe.specs.Moments.{AreDue, all_of, places}
use Rattle.fx_pipe.specs.declared.read.Kept.{Kept}
use Rattle.fx_pipe.specs.declared.read.Reader.{Reader}
use Rattle.fx_pipe.specs.Reads.{AreRead, IsRead, Knows, due_places, is_kept, kept_of, kept_size}
use Rattle.fx_pipe.proofs.MomentLemmas.{all-append, all-one}
use Rattle.fx_pipe.specs.Blocks.{fetched_in}
use Rattle.std.specs.declared.alloc.Global.{Global}
use Rattle.std.specs.Prelude.{Vec}

module _ (tells : Type 0) (files : Files) (p : Schedule) where
  pub read_more : (before : List SourceFrame) (m : ℕ) (fs gs : List (List SourceFrame)) → AreRead tells files p before m fs
      → AreRead tells files p (before ++ all_of fs) (m + length fs) gs → AreRead tells files p before m (fs ++ gs)
  read_more before m [] gs read more =
      let at : m + length {A = List SourceFrame} [] ≡ m = omega arith in
      subst (λ (xs : List SourceFrame). AreRead tells files p xs m gs) (append-nil before)
      (subst (λ (n : ℕ). AreRead tells files p (before ++ []) n gs) at more)
  read_more before m (f ∷ fs) gs read more =
      let at : m + length (f ∷ fs) ≡ m + 1 + length fs = omega arith in
      let rest : AreRead tells files p (before ++ f ++ all_of fs) (m + 1 + length fs) gs =
      subst (λ (xs : List SourceFrame). AreRead tells files p xs (m + 1 + length fs) gs) (sym (append_assoc before f (all_of fs)))
      (subst (λ (n : ℕ). AreRead tells files p (before ++ (f ++ all_of fs)) n gs) at more) in
      (read.0, read_more (before ++ f) (m + 1) fs gs read.1 rest)

  -- of the first of them
  pub read_first : (before : List SourceFrame) (m : ℕ) (fs gs : List (List SourceFrame)) → AreRead tells files p before m (fs ++ gs) → AreRead tells files p before m fs
  read_first before m [] gs read = tt
  read_first before m (f ∷ fs) gs read = (read.0, read_first (before ++ f) (m + 1) fs gs read.1)

-- the frames that were read are of the nodes and frames that are wanted
pub places_read : (ws : List Wanted) (ss : List SourceFrame) → AllZip IsFrameOf ws ss → places ss ≡ map (λ w. (w.node, w.frame)) ws
places_read [] [] is = refl
places_read [] (s ∷ ss) is = absurd is
places_read (w ∷ ws) [] is = absurd is
places_read (w ∷ ws) (s ∷ ss) is =
    let here : (s.node, s.frame) ≡ (w.node, w.frame) = ap (λ n. (n, s.frame)) is.0.node ∙ ap (λ f. (w.node, f)) is.0.frame in
    ap (λ one. one ∷ places ss) here ∙ ap (λ rest. (w.node, w.frame) ∷ rest) (places_read ws ss is.1)

-- what was read is due, where what is due is what the uses say
pub due_read : (tells : Type 0) (files : Files) (p : Schedule) (due : ℕ → List (ℕ × ℤ)) (before : List SourceFrame) (m : ℕ) (fs : List (List SourceFrame))
    → ((k : ℕ) → k < m + length fs → due k ≡ due_places p.uses.now k) → AreRead tells files p before m fs → AreDue due m fs
due_read tells files p due before m [] says read = tt
due_read tells files p due before m (f ∷ fs) says read =
    let low : m < m + length (f ∷ fs) = omega arith in
    let more : m + 1 + length fs ≡ m + length (f ∷ fs) = omega arith in (
      places_read (due_at p.uses.now m) f read.0.are ∙ sym (says m low),
      due_read tells files p due (before ++ f) (m + 1) fs (λ k low. says k (subst (λ (n : ℕ). k < n) more low)) read.1,
    )

-- ---- one call after another

pub fetch_more : (a b c : ℕ) (x y z : List ℕ) (due : List Wanted) (e : SeqFault) → IsQuiet a b x y → IsFetchIn b c z due e → IsFetchIn a c z due e
fetch_more a b c x y z due (Fetch node frame name) quiet fetch = (subst (λ (n : ℕ). HasRisen n c) quiet.count fetch.0, fetch.1, fetch.2)
fetch_more a b c x y z due (Frame node frame fault) quiet fetch = tt
fetch_more a b c x y z due (TooLarge node frame sum) quiet fetch = tt
fetch_more a b c x y z due Memory quiet fetch = tt

-- ---- what frames are counted as

or_right : (b : Bool) → (b || true) ≡ true
or_right true = refl
or_right false = refl

abbrev or_more : (b x y : Bool) → (x ≡ true → y ≡ true) → (b || x) ≡ true → (b || y) ≡ true
or_more true x y more e = refl
or_more false x y more e = more e

-- what is used at a moment or later is used at the one before it or later
pub used_before : (uses : List Use) (j n : ℕ) (f : ℤ) → is_used uses (j + 1) n f ≡ true → is_used uses j n f ≡ true
used_before [] j n f e = e
used_before (u ∷ us) j n f e = by (used_before us j n f) (nat_le (j + 1) u.until) refl
  where
    by : (is_used us (j + 1) n f ≡ true → is_used us j n f ≡ true) → (b : Bool) → nat_le (j + 1) u.until ≡ b → is_used (u ∷ us) j n f ≡ true
    by more true is =
        let low : nat_le j u.until ≡ true = le-leb j u.until (omega (arith, leb-true (j + 1) u.until is)) in
        rw low (or_more ((true && nat_eq u.wanted.node n) && int_eq u.wanted.frame f) (is_used us (j + 1) n f) (is_used us j n f) more (rw is at e))
    by more false is =
        let late : is_used us (j + 1) n f ≡ true = rw is at e in
        rw (more late) (or_right _)

used_from : (uses : List Use) (j d n : ℕ) (f : ℤ) → is_used uses (j + d) n f ≡ true → is_used uses j n f ≡ true
used_from uses j zero n f e =
    let same : j + 0 ≡ j = omega arith in
    subst (λ (i : ℕ). is_used uses i n f ≡ true) same e
used_from uses j (suc d) n f e =
    let next : j + suc d ≡ j + d + 1 = omega arith in
    used_from uses j d n f (used_before uses (j + d) n f (subst (λ (i : ℕ). is_used uses i n f ≡ true) next e))

-- what is forgotten isn't counted later
pub kept-filter : (uses : List Use) (m j : ℕ) → m ≤ j → (ks : List Kept) → kept_size uses j (filter (is_kept uses m) ks) ≡ kept_size uses j ks
kept-filter uses m j low [] = refl
kept-filter uses m j low (k ∷ ks) = by (kept-filter uses m j low ks) (is_kept uses m k) refl
  where
    part : Kept → ℕ
    part t = if is_used uses j t.node t.frame then t.size else 0

    not : is_kept uses m k ≡ false → is_used uses j k.node k.frame ≡ false
    not out = false_from_ne_true (is_used uses j k.node k.frame) (λ is.
        let at : m + (j - m) ≡ j = omega (arith, low) in
        false≢true (sym out ∙ used_from uses m (j - m) k.node k.frame (subst (λ (i : ℕ). is_used uses i k.node k.frame ≡ true) (sym at) is)))

    by : kept_size uses j (filter (is_kept uses m) ks) ≡ kept_size uses j ks → (b : Bool) → is_kept uses m k ≡ b
        → kept_size uses j (cond b (k ∷ filter (is_kept uses m) ks) (filter (is_kept uses m) ks)) ≡ kept_size uses j (k ∷ ks)
    by rest true is =
        let a = sum_by-cons part k (filter (is_kept uses m) ks) in
        let b = sum_by-cons part k ks in
        omega (arith, a, b, rest)
    by rest false is =
        let b = sum_by-cons part k ks in
        let c = ap (λ (t : Bool). cond t k.size 0) (not is) in
        omega (arith, b, c, rest)

pub kept_less : (uses : List Use) (j : ℕ) (kept : List Kept) → kept_size uses (j + 1) kept ≤ kept_size uses j kept
kept_less uses j kept = sum_by-le-sum_by (λ k. if is_used uses (j + 1) k.node k.frame then k.size else 0) (λ k. if is_used uses j k.node k.frame then k.size else 0) kept (λ k. less k (is_used uses (j + 1) k.node k.frame) refl)
  where
    less : (k : Kept) (b : Bool) → is_used uses (j + 1) k.node k.frame ≡ b
        → (if is_used uses (j + 1) k.node k.frame then k.size else 0) ≤ (if is_used uses j k.node k.frame then k.size else 0)
    less k true e = rw (e, used_before uses j k.node k.frame e) (omega arith)
    less k false e = rw e (omega arith)

-- frames are counted alike by who reads them and by who holds them
pub kept_used : (uses : List Use) (j : ℕ) (frames : List SourceFrame) → kept_size uses j (map kept_of frames) ≡ used_size uses j frames
kept_used uses j [] = refl
kept_used uses j (s ∷ ss) =
    sum_by-cons (λ k. if is_used uses j k.node k.frame then k.size else 0) (kept_of s) (map kept_of ss)
    ∙ ap (λ n. (if is_used uses j s.node s.frame then s.size else 0) + n) (kept_used uses j ss)
    ∙ sym (sum_by-cons (λ t. if is_used_frame uses j t then t.size else 0) s ss)

pub used_few : (uses : List Use) (j : ℕ) (frames : List SourceFrame) → used_size uses j frames ≤ size_of_all frames
used_few uses j frames = sum_by-le-sum_by (λ s. if is_used_frame uses j s then s.size else 0) (λ s. s.size) frames (λ s. less s.size (is_used_frame uses j s))
  where
    less : (n : ℕ) (b : Bool) → (if b then n else 0) ≤ n
    less n true = omega arith
    less n false = omega arith

-- one more moment was read
pub knows_more : (p : Schedule) (fs : List (List SourceFrame)) (frames : List SourceFrame) (old new : Reader) → Knows p fs old
    → new.next ≡ old.next + 1 → new.kept.items ≡ filter (is_kept p.uses.now new.next) (old.kept.items ++ map kept_of frames)
    → Knows p (fs ++ frames ∷ []) new
knows_more p fs frames old new knows next kept =
    record {
      next = omega (arith, next, knows.next, length-append fs (frames ∷ []));
      sizes = λ j low.
          let before : kept_size p.uses.now j old.kept.items ≡ used_size p.uses.now j (all_of fs) = knows.sizes j (omega (arith, low, next)) in
          ap (kept_size p.uses.now j) kept ∙ kept-filter p.uses.now new.next j low (old.kept.items ++ map kept_of frames)
          ∙ sum_by-append (λ k. if is_used p.uses.now j k.node k.frame then k.size else 0) old.kept.items (map kept_of frames)
          ∙ ap (λ n. n + kept_size p.uses.now j (map kept_of frames)) before ∙ ap (λ n. used_size p.uses.now j (all_of fs) + n) (kept_used p.uses.now j frames)
          ∙ sym (sum_by-append (λ s. if is_used_frame p.uses.now j s then s.size else 0) (all_of fs) frames) ∙ ap (used_size p.uses.now j) (sym (all-one fs frames));
    }

-- and no more is held than may be
pub few_more : (p : Schedule) (frames : List SourceFrame) (m : ℕ) (old new : List Kept) → new ≡ filter (is_kept p.uses.now (m + 1)) (old ++ map kept_of frames)
    → kept_size p.uses.now m old + size_of_all frames ≤ p.limit → kept_size p.uses.now (m + 1) new ≤ p.limit
few_more p frames m old new kept few =
    let both : kept_size p.uses.now (m + 1) new ≡ kept_size p.uses.now (m + 1) old + kept_size p.uses.now (m + 1) (map kept_of frames) =
    ap (kept_size p.uses.now (m + 1)) kept ∙ kept-filter p.uses.now (m + 1) (m + 1) (omega arith) (old ++ map kept_of frames)
    ∙ sum_by-append (λ k. if is_used p.uses.now (m + 1) k.node k.frame then k.size else 0) old (map kept_of frames) in
    omega (arith, both, kept_less p.uses.now m old, kept_used p.uses.now (m + 1) frames, used_few p.uses.now (m + 1) frames, few)

-- nothing more was read
pub knows_still : (p : Schedule) (fs : List (List SourceFrame)) (old new : Reader) → Knows p fs old → new.next ≡ old.next → new.kept.items ≡ old.kept.items → Knows p fs new
knows_still p fs old new knows next kept =
    record {
      next = next ∙ knows.next;
      sizes = λ j low. ap (kept_size p.uses.now j) kept ∙ knows.sizes j (omega (arith, low, next));
    }

pub fetched_more : (xs : List (Vec SourceFrame Global)) (x : Vec SourceFrame Global) → fetched_in (xs ++ x ∷ []) ≡ fetched_in xs ++ x.items ∷ []
fetched_more [] x = refl
fetched_more (y ∷ ys) x = ap (λ fs. y.items ∷ fs) (fetched_more ys x)

module _ (tells : Type 0) (files : Files) (p : Schedule) where
  -- one more moment of a block
  pub read_one : (fs block : List (List SourceFrame)) (frames : List SourceFrame) (first : ℕ) (old new : Reader) → first ≡ length fs
      → Knows p (fs ++ block) old → AreRead tells files p (all_of fs) first block
      → IsRead tells files p (all_of (fs ++ block)) old.next frames × Knows p ((fs ++ block) ++ frames ∷ []) new
      → AreRead tells files p (all_of fs) first (block ++ frames ∷ []) × Knows p (fs ++ (block ++ frames ∷ [])) new
  read_one fs block frames first old new at knows read more =
      let place : old.next ≡ first + length block = omega (arith, at, knows.next, length-append fs block) in
      let one : IsRead tells files p (all_of fs ++ all_of block) (first + length block) frames =
      subst (λ (n : ℕ). IsRead tells files p (all_of fs ++ all_of block) n frames) place
      (subst (λ (xs : List SourceFrame). IsRead tells files p xs old.next frames) (all-append fs block) more.0) in (
        read_more tells files p (all_of fs) first block (frames ∷ []) read (one, tt),
        subst (λ (gs : List (List SourceFrame)). Knows p gs new) (append_assoc fs block (frames ∷ [])) more.1,
      )
