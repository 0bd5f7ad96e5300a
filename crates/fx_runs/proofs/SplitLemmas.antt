-- A range of frames that is rendered in stretches.
use Rattle.std.proofs.Common.{◌≡◌, ◌≤◌, ◌<◌, ◌+◌, ◌-◌, inl, inr, ◌⊎◌, ℕ, ℤ, pos, Bool, true, false, nat_eq, List, [], ◌∷◌, Option, None, Some, refl, sym, ap, subst, ◌∙◌, arith}
use Rattle.std.specs.Ordering.{int_eq}
use Rattle.std.proofs.lemmas.Bool.{and_parts, false≢true}
use Rattle.std.proofs.lemmas.Bool.Decides.{nat_tests, Decides-int_eq}
use Rattle.std.proofs.lemmas.Int.{ints}
use Rattle.std.proofs.lemmas.List.Elements.{All-contains}
use Rattle.std.proofs.lemmas.Option.{none-some, same_Some}
use Rattle.std.specs.Option.{option_map}
use Rattle.std.specs.Prelude.{IsTrue}
use Rattle.fx_base.specs.Pattern.{is_pattern, runs}
use Rattle.fx_graph.specs.Graphs.{is_output}
use Rattle.fx_base.specs.declared.limits.TheConstants.{LAST_FRAME}
use Rattle.fx_base.proofs.PatternLaws.{name_of-apart}
use Rattle.fx_base.proofs.RunLaws.{Contains-map}
use Rattle.fx_outside.specs.Outside.{Files, SameFiles}
use Rattle.fx_image.specs.Image.{Image}
use Rattle.fx_pam.specs.Text.{pam_text}
use Rattle.fx_pam.specs.Reading.{IsPam}
use Rattle.fx_seq.specs.declared.used.Use.{Use}
use Rattle.fx_seq.specs.declared.wanted.Wanted.{Wanted}
use Rattle.fx_proxy.specs.Proxy.{scaled_images}
use Rattle.fx_proxy.specs.Reduced.{IsScale, reduced}
use Rattle.fx_scene.specs.Depends as scene
use Rattle.fx_scene.specs.Depends.{PicturesDependOnWanted}
use Rattle.fx_scene.specs.Nodes.{IsFrameImage}
use Rattle.fx_scene.specs.Scenes.{Images, graph_nodes, no_images}
use Rattle.fx_scene.specs.Uses.{ListsUse}
use Rattle.fx_scene.specs.Wants.{IsNamedIn, IsWanted, Lists, Shows}
use Rattle.fx_scene.proofs.Members.{In, in_of}
use Rattle.fx_scene.proofs.WantLemmas.{contains_of}
use Rattle.fx_shipped.specs.Shipped.{meaning_of}
use Rattle.fx_modes.specs.Graphs.{Graph, frame_count}
use Rattle.fx_modes.specs.Reels.{Reel, moments_in, picture_text, plain_reel, scaled_in}
use Rattle.fx_modes.specs.Files.{AreImages, AreUsesOf, HasGained, IsFileOf, wanted_of}
use Rattle.fx_runs.specs.Stretches.{AreStretches, HasRun, HaveRun, IsIn, RunsAreSuch, Stretch, StretchesMakeWhole, StretchesWantNoMore}
use Rattle.fx_base.specs.declared.limits.TheConstants.{MOST_SIDE}
use Rattle.fx_runs.proofs.PlainReels.{frame_name, is_plain, moment_wants, moments_are, moments_are_frames, wants_of, with_frames}
use Rattle.fx_runs.proofs.SplitFiles.{IsOf, hit, miss, seek}
use Rattle.fx_runs.proofs.SplitImages.{same_image, small_frame}
use Rattle.fx_modes.proofs.ScaledLemmas.{same_small}
use Rattle.fx_modes.proofs.UsesLemmas.{from_wanted, one_name}

-- ---- what is wanted

-- what a frame wants is used by a run over a stretch that has the frame
used_at : (q : ℕ) (g : Graph) (p : Stretch) (uses : List Use) → AreUsesOf (plain_reel q g p.first p.last) uses → (t : ℕ) → IsIn p t
    → (k : ℕ) (f : ℤ) → IsWanted (graph_nodes meaning_of g no_images) g.output (pos t) (pos t) k f → ListsUse uses k f
used_at q g p uses are t is k f w =
    let from = is.from in
    let to = is.to in
    let n = frame_count p.first p.last in
    let at : p.first + (t - p.first) ≡ t = omega (arith, from) in
    let low : t - p.first < n = omega (arith, from, to) in
    are.moments.all (t - p.first) k f (subst (λ (m : ℕ). t - p.first < m) (sym (moments_are q g p.first p.last)) low)
    (moment_wants q g p.first p.last (t - p.first) k f low (subst (λ (u : ℕ). IsWanted (graph_nodes meaning_of g no_images) g.output (pos u) (pos u) k f) (sym at) w))

lists_in : (uses : List Use) (n : ℕ) (f : ℤ) → ListsUse uses n f → Lists (wanted_of uses) n f
lists_in uses n f l =
    record {
      entry = l.use_.wanted;
      listed = Contains-map (λ (u : Use). u.wanted) uses l.use_ l.listed;
      node = l.node;
      frame = l.frame;
    }

pub want_no_more : (g : Graph) → StretchesWantNoMore g
want_no_more g q whole p uses some inside all of w listed =
    let u = from_wanted some w listed in
    let is = of.moments.each u.0 u.1 in
    let order = is.order in
    let end : u.0.until < frame_count p.first p.last = subst (λ (m : ℕ). u.0.until < m) (moments_are q g p.first p.last) is.end in
    let t = p.first + u.0.from in
    let there = wants_of q g p.first p.last u.0.from u.0.wanted.node u.0.wanted.frame (omega (arith, order, end)) is.first in
    let l = used_at q g whole uses all t (inside t (record { from = omega arith; to = omega (arith, order, end) })) u.0.wanted.node u.0.wanted.frame there in
    subst (λ (v : Wanted). Lists (wanted_of uses) v.node v.frame) u.2 (lists_in uses u.0.wanted.node u.0.wanted.frame l)

-- ---- whether a frame is listed

int_same : (a b : ℤ) → int_eq a b ≡ true → a ≡ b
int_same a b e = (Decides-int_eq a b).0 e

int_other : (a b : ℤ) → int_eq a b ≡ false → a ≡ b → ⊥
int_other a b e same = false≢true (sym e ∙ (Decides-int_eq a b).1 same)

nat_same : (a b : ℕ) → nat_eq a b ≡ true → a ≡ b
nat_same a b e = grind (arith, nat_tests)

nat_other : (a b : ℕ) → nat_eq a b ≡ false → a ≡ b → ⊥
nat_other a b e same = grind (arith, nat_tests)

abbrev Listed : List Wanted → ℕ → ℤ → Type 0
Listed ws n f = (w : Wanted) × In ws w × (w.node ≡ n) × (w.frame ≡ f)

seek_entry : (ws : List Wanted) (n : ℕ) (f : ℤ) → Listed ws n f ⊎ (Listed ws n f → ⊥)
seek_entry [] n f = inr (λ l. l.1)
seek_entry (w ∷ ws) n f = by (nat_eq w.node n) (int_eq w.frame f) refl refl (seek_entry ws n f)
  where
    other_by : (node frame : Bool) → nat_eq w.node n ≡ node → int_eq w.frame f ≡ frame → Listed ws n f ⊎ (Listed ws n f → ⊥)
        → (w.node ≡ n → w.frame ≡ f → ⊥) → Listed (w ∷ ws) n f ⊎ (Listed (w ∷ ws) n f → ⊥)
    other_by node frame p q (inl l) other = inl (l.0, inr l.1, l.2, l.3)
    other_by node frame p q (inr none) other =
        inr (λ l. elim l.1 [
          | inl e ↦ other (ap (λ (v : Wanted). v.node) e ∙ l.2) (ap (λ (v : Wanted). v.frame) e ∙ l.3)
          | inr i ↦ none (l.0, i, l.2, l.3)
        ])

    by : (node frame : Bool) → nat_eq w.node n ≡ node → int_eq w.frame f ≡ frame → Listed ws n f ⊎ (Listed ws n f → ⊥)
        → Listed (w ∷ ws) n f ⊎ (Listed (w ∷ ws) n f → ⊥)
    by true true p q rest = inl (w, inl refl, nat_same w.node n p, int_same w.frame f q)
    by true false p q rest = other_by true false p q rest (λ a b. int_other w.frame f q b)
    by false frame p q rest = other_by false frame p q rest (λ a b. nat_other w.node n p a)

lists_of : (ws : List Wanted) (n : ℕ) (f : ℤ) → Listed ws n f → Lists ws n f
lists_of ws n f l = record { entry = l.0; listed = contains_of ws l.0 l.1; node = l.2; frame = l.3 }

of_lists : (ws : List Wanted) (n : ℕ) (f : ℤ) → Lists ws n f → Listed ws n f
of_lists ws n f l = (l.entry, in_of ws l.entry l.listed, l.node, l.frame)

-- ---- the images of a run

-- the image of a listed frame, and its file
pub record HasFile (library : Files) (name : List ℕ) (o : Option Image) : Type 0 where
  pub image : Image
  pub is : o ≡ Some image
  pub file : IsFileOf library name image

has_file : (library : Files) (ws : List Wanted) (images : Images) → AreImages library ws images → (n : ℕ) (f : ℤ) (l : Lists ws n f)
    → HasFile library l.entry.name (images n f)
has_file library ws images are n f l =
    let e = are.each l.entry l.listed in
    record {
      image = e.0;
      is = sym (ap (λ k. images k l.entry.frame) l.node ∙ ap (images n) l.frame) ∙ e.1;
      file = e.2;
    }

images_are : (q : ℕ) → IsScale q → (library : Files) (ws : List Wanted) (images : Images) → AreImages library ws images
    → scene.AreImages (scaled_images q images)
images_are q scale library ws images are n f image is = by (images n f) refl is (seek_entry ws n f)
  where
    by : (o : Option Image) → images n f ≡ o → option_map (reduced q) o ≡ Some image → Listed ws n f ⊎ (Listed ws n f → ⊥) → IsFrameImage image
    by None there e seen = absurd (none-some image e)
    by (Some i) there e (inl l) =
        let has = has_file library ws images are n f (lists_of ws n f l) in
        let same : has.image ≡ i = same_Some has.image i (sym has.is ∙ there) in
        let small : reduced q has.image ≡ image = ap (reduced q) same ∙ same_Some (reduced q i) image e in
        subst (λ (k : Image). IsFrameImage k) small (small_frame has.file.bytes MOST_SIDE has.image has.file.reads q scale (omega arith))
    by (Some i) there e (inr none) = absurd (none-some i (sym (are.only n f (λ l. none (of_lists ws n f l))) ∙ there))

-- one file gives both the same image
same_file : (library : Files) (name other : List ℕ) (a b : Option Image) → name ≡ other → HasFile library name a → HasFile library other b
    → scene.AreSame a b
same_file library name other a b same p q =
    let bytes : p.file.bytes ≡ q.file.bytes =
    same_Some p.file.bytes q.file.bytes (sym p.file.told ∙ ap library same ∙ q.file.told) in
    subst (λ (o : Option Image). scene.AreSame o b) (sym p.is)
    (subst (λ (o : Option Image). scene.AreSame (Some p.image) o) (sym q.is)
    (same_image q.file.bytes MOST_SIDE p.image q.image (subst (λ bs. IsPam bs MOST_SIDE p.image) bytes p.file.reads) q.file.reads))

-- ---- runs over stretches of a whole

-- a run over a stretch leaves the files of its frames
gained_in : (q : ℕ) (g : Graph) (library : Files) (p : Stretch) (old new : Files) (run : HasRun q g library p old new) (name : List ℕ)
    → new name ≡ with_frames g (scaled_images q run.images) p.first (frame_count p.first p.last) old name
gained_in q g library p old new run name =
    run.gained name ∙ moments_are_frames q g (scaled_images q run.images) p.first p.last old name

module _ (q : ℕ) (scale : IsScale q) (g : Graph) (one : runs g.file ≡ 1) (depend : PicturesDependOnWanted meaning_of g) (library : Files)
    (whole : Stretch) (few : whole.last ≤ LAST_FRAME) where
  -- a frame's file in a run over a stretch is that in a run over the whole
  module _ (start end : Files) (all : HasRun q g library whole start end) where
    text : ℕ → List ℕ
    text t = picture_text g (scaled_images q all.images) t

    agree : (p : Stretch) (old new : Files) (run : HasRun q g library p old new) → ((t : ℕ) → IsIn p t → IsIn whole t) → (t : ℕ) → IsIn p t
        → scene.AgreeOnWanted meaning_of g g.output (pos t) (pos t) run.images all.images
    unfolding used_at lists_in
    agree p old new run inside t is k f w =
        let e = used_at q g p run.uses run.are t is k f w in
        let d = used_at q g whole all.uses all.are t (inside t is) k f w in
        let shows : Shows (graph_nodes meaning_of g no_images e.use_.wanted.node) w.at e.use_.wanted.frame =
        subst (λ (n : ℕ). Shows (graph_nodes meaning_of g no_images n) w.at e.use_.wanted.frame) (sym e.node)
        (subst (λ (h : ℤ). Shows (graph_nodes meaning_of g no_images k) w.at h) (sym e.frame) w.shows) in
        let name = one_name g [] 0 e.use_.wanted d.use_.wanted w.at (e.node ∙ sym d.node) (e.frame ∙ sym d.frame) shows
        (All-contains (λ (u : Use). IsNamedIn g u.wanted) run.uses e.use_ run.are.names e.listed)
        (All-contains (λ (u : Use). IsNamedIn g u.wanted) all.uses d.use_ all.are.names d.listed) in
        same_file library e.use_.wanted.name d.use_.wanted.name (run.images k f) (all.images k f) name
        (has_file library (wanted_of run.uses) run.images run.shown k f (lists_in run.uses k f e))
        (has_file library (wanted_of all.uses) all.images all.shown k f (lists_in all.uses k f d))

    same_text : (p : Stretch) (old new : Files) (run : HasRun q g library p old new) → ((t : ℕ) → IsIn p t → IsIn whole t) → (t : ℕ) → IsIn p t
        → picture_text g (scaled_images q run.images) t ≡ text t
    unfolding picture_text text
    same_text p old new run inside t is =
        ap (pam_text g.format)
        (depend (pos t) (pos t) (scaled_images q run.images) (scaled_images q all.images)
        (images_are q scale library (wanted_of run.uses) run.images run.shown)
        (images_are q scale library (wanted_of all.uses) all.images all.shown)
        (λ k f wanted. same_small q (run.images k f) (all.images k f) (agree p old new run inside t is k f wanted)) (pos t) (omega (arith, ints)) (omega (arith, ints)))

    of_stretch : (p : Stretch) (t : ℕ) → IsIn p t → IsOf p.first (frame_count p.first p.last) t
    of_stretch p t is = let from = is.from in let to = is.to in record { from = from; below = omega (arith, from, to) }

    in_stretch : (p : Stretch) (t : ℕ) → IsOf p.first (frame_count p.first p.last) t → IsIn p t
    in_stretch p t is = let from = is.from in let below = is.below in record { from = from; to = omega (arith, from, below) }

    -- the file of a frame of the stretch is put
    run_hit : (p : Stretch) (old new : Files) → HasRun q g library p old new → ((t : ℕ) → IsIn p t → IsIn whole t) → (t : ℕ) → IsIn p t
        → new (frame_name g t) ≡ Some (text t)
    run_hit p old new run inside t is =
        let from = is.from in
        let to = is.to in
        let last = (inside p.last (record { from = omega (arith, from, to); to = omega arith })).to in
        gained_in q g library p old new run (frame_name g t)
        ∙ hit g one (scaled_images q run.images) p.first (frame_count p.first p.last) old t (omega (arith, from, to, last, few)) (of_stretch p t is)
        ∙ ap Some (same_text p old new run inside t is)

    -- the file of a frame of the whole stays
    run_keep : (p : Stretch) (old new : Files) → HasRun q g library p old new → ((t : ℕ) → IsIn p t → IsIn whole t) → (t : ℕ) → IsIn whole t
        → old (frame_name g t) ≡ Some (text t) → new (frame_name g t) ≡ Some (text t)
    run_keep p old new run inside t is before = by (seek g one p.first (frame_count p.first p.last) (frame_name g t))
      where
        by : ((u : ℕ) × IsOf p.first (frame_count p.first p.last) u × (frame_name g u ≡ frame_name g t))
            ⊎ ((u : ℕ) → IsOf p.first (frame_count p.first p.last) u → frame_name g u ≡ frame_name g t → ⊥)
            → new (frame_name g t) ≡ Some (text t)
        by (inl found) =
            let at = in_stretch p found.0 found.1 in
            let low = (inside found.0 at).to in
            let high = is.to in
            let same : found.0 ≡ t = name_of-apart g.file found.0 t one (omega (arith, low, few)) (omega (arith, high, few)) found.2 in
            run_hit p old new run inside t (subst (IsIn p) same at)
        by (inr none) = gained_in q g library p old new run (frame_name g t) ∙ miss g one (scaled_images q run.images) p.first (frame_count p.first p.last) old (frame_name g t) none ∙ before

    -- a name of no frame of the whole has what it had
    run_miss : (p : Stretch) (old new : Files) → HasRun q g library p old new → ((t : ℕ) → IsIn p t → IsIn whole t) → (name : List ℕ)
        → ((t : ℕ) → IsIn whole t → frame_name g t ≡ name → ⊥) → new name ≡ old name
    run_miss p old new run inside name none =
        gained_in q g library p old new run name ∙ miss g one (scaled_images q run.images) p.first (frame_count p.first p.last) old name (λ t is. none t (inside t (in_stretch p t is)))

    runs_keep : (stretches : List Stretch) (old new : Files) → HaveRun q g library stretches old new → ((p : Stretch) → In stretches p → (t : ℕ) → IsIn p t → IsIn whole t)
        → (t : ℕ) → IsIn whole t → old (frame_name g t) ≡ Some (text t) → new (frame_name g t) ≡ Some (text t)
    runs_keep [] old new run inside t is before = run (frame_name g t) ∙ before
    runs_keep (p ∷ ps) old new run inside t is before =
        runs_keep ps run.0 new run.2 (λ q i. inside q (inr i)) t is (run_keep p old run.0 run.1 (inside p (inl refl)) t is before)

    runs_hit : (stretches : List Stretch) (old new : Files) → HaveRun q g library stretches old new → ((p : Stretch) → In stretches p → (t : ℕ) → IsIn p t → IsIn whole t)
        → (p : Stretch) → In stretches p → (t : ℕ) → IsIn p t → new (frame_name g t) ≡ Some (text t)
    runs_hit [] old new run inside p there t is = absurd there
    runs_hit (q ∷ ps) old new run inside p there t is = elim there [
      | inl e ↦
          runs_keep ps run.0 new run.2 (λ r i. inside r (inr i)) t (inside p (inl e) t is)
          (run_hit q old run.0 run.1 (inside q (inl refl)) t (subst (λ (r : Stretch). IsIn r t) (sym e) is))
      | inr i ↦ runs_hit ps run.0 new run.2 (λ r j. inside r (inr j)) p i t is
    ]

    runs_miss : (stretches : List Stretch) (old new : Files) → HaveRun q g library stretches old new → ((p : Stretch) → In stretches p → (t : ℕ) → IsIn p t → IsIn whole t)
        → (name : List ℕ) → ((t : ℕ) → IsIn whole t → frame_name g t ≡ name → ⊥) → new name ≡ old name
    runs_miss [] old new run inside name none = run name
    runs_miss (p ∷ ps) old new run inside name none =
        runs_miss ps run.0 new run.2 (λ q i. inside q (inr i)) name none ∙ run_miss p old run.0 run.1 (inside p (inl refl)) name none

    pub whole_made : (stretches : List Stretch) (new : Files) → AreStretches whole stretches → HaveRun q g library stretches start new → SameFiles end new
    whole_made stretches new are run name = by (seek g one whole.first (frame_count whole.first whole.last) name)
      where
        inside : (p : Stretch) → In stretches p → (t : ℕ) → IsIn p t → IsIn whole t
        inside p i t is = are.only p t (contains_of stretches p i) is

        by : ((u : ℕ) × IsOf whole.first (frame_count whole.first whole.last) u × (frame_name g u ≡ name))
            ⊎ ((u : ℕ) → IsOf whole.first (frame_count whole.first whole.last) u → frame_name g u ≡ name → ⊥) → new name ≡ end name
        by (inl found) =
            let t = found.0 in
            let at = in_stretch whole t found.1 in
            let of = are.all t at in
            let stretches_have = runs_hit stretches start new run inside of.0 (in_of stretches of.0 of.1) t of.2 in
            let whole_has = run_hit whole start end all (λ u is. is) t at in
            subst (λ (n : List ℕ). new n ≡ end n) found.2 (stretches_have ∙ sym whole_has)
        by (inr none) =
            let none_in : (t : ℕ) → IsIn whole t → frame_name g t ≡ name → ⊥ = λ t is. none t (of_stretch whole t is) in
            runs_miss stretches start new run inside name none_in ∙ sym (run_miss whole start end all (λ u is. is) name none_in)

pub stretches_make_whole : (g : Graph) → runs g.file ≡ 1 → PicturesDependOnWanted meaning_of g → StretchesMakeWhole g
stretches_make_whole g one depend q library whole stretches old new other scale few are run all =
    whole_made q scale g one depend library whole few old other all stretches new are run

-- what a run in mode `render` leaves is what such a run does
pub runs_are_such : RunsAreSuch
runs_are_such asked library old new put render =
    let same = is_plain put.known.job render in
    record {
      uses = put.known.job.uses;
      are = subst (λ (r : Reel). AreUsesOf r put.known.job.uses) same put.known.job.are;
      images = put.images;
      shown = put.are;
      gained = subst (λ (r : Reel). HasGained r (scaled_in r put.images) (moments_in r) old new) same put.gained;
    }

-- the output's pattern has one run of signs
pub one_run : (file : List ℕ) → IsTrue (is_output file) → runs file ≡ 1
one_run file is = nat_same (runs file) 1 (and_parts (is_pattern file) (nat_eq (runs file) 1) is).1
