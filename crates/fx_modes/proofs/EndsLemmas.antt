-- From how the moments of a run end to the fault of the run, its cause, and what it leaves.
use Rattle.std.proofs.Common.{◌≡◌, ◌≤◌, ◌<◌, ◌+◌, ℕ, ℤ, List, [], ◌∷◌, ◌++◌, length, Option, Some, Result, Ok, Err, IfOk, IfErr, OnOk, inl, inr, refl, sym, ap, subst, ◌∙◌, arith, append_assoc, append-nil}
use Rattle.std.proofs.lemmas.List.{length-append}
use Rattle.fx_base.specs.declared.limits.TheConstants.{MOST_SIDE}
use Rattle.fx_outside.specs.Outside.{Files, HasRisen, SameFiles}
use Rattle.fx_seq.specs.Filling.{ComesTo, IsFirstFetch, IsQuiet, IsTold}
use Rattle.fx_seq.specs.declared.wanted.Wanted.{Wanted}
use Rattle.fx_seq.specs.Lists.{AreFramesOf}
use Rattle.fx_seq.specs.Moments as seq
use Rattle.fx_seq.specs.Moments.{AreOnce, due_at, due_until, held_bytes}
use Rattle.fx_seq.specs.declared.fault.SeqFault.{SeqFault}
use Rattle.fx_seq.specs.declared.fault.SeqFault.TheVariants as fault
use Rattle.fx_seq.specs.declared.source.SourceFrame.{SourceFrame}
use Rattle.fx_pipe.specs.Ends.{Ended, IsDone, State, StopsAtMemory, StopsAtPut, StopsAtSource}
use Rattle.fx_pipe.specs.Moments.{AreMade, all_of, with_all}
use Rattle.fx_pipe.specs.Reads.{AreRead}
use Rattle.fx_pipe.specs.declared.end.PipeEnd.{PipeEnd}
use Rattle.fx_pipe.specs.declared.end.PipeEnd.TheVariants as pipe
use Rattle.fx_pipe.specs.declared.made.Made.{Made}
use Rattle.fx_pipe.specs.declared.schedule.Schedule.{Schedule}
use Rattle.fx_pipe.proofs.MomentLemmas.{all-append, made_few}
use Rattle.fx_pipe.proofs.ReadLemmas.{read_first}
use Rattle.fx_pipe.proofs.RefusalLemmas.{frames_read, pictures_read, read_accepted, unread_refused}
use Rattle.fx_scene.specs.Depends as scene
use Rattle.fx_scene.specs.Holds.{PicturesStay}
use Rattle.fx_scene.specs.Scenes.{Images, no_images}
use Rattle.fx_scene.specs.Right.{HasGrown}
use Rattle.fx_proxy.specs.Reduced.{IsScale}
use Rattle.fx_seq.specs.Lists.{ArePictures}
use Rattle.fx_shipped.specs.Shipped.{meaning_of}
use Rattle.fx_seq.specs.declared.used.Use.{Use}
use Rattle.fx_tile.specs.declared.count.TileCount.{TileCount}
use Rattle.fx_tile.specs.Counts.{no_count}
use Rattle.fx_words.specs.Ordered.{Ordered}
use Rattle.fx_words.specs.declared.fault.FrameFault.{FrameFault}
use Rattle.fx_words.specs.declared.fault.RunFault.{RunFault}
use Rattle.fx_words.specs.declared.fault.RunFault.TheVariants as run
use Rattle.fx_modes.specs.Ended.{Calls, calls}
use Rattle.fx_modes.specs.Reels.{IsReelOf, Reel, file_name, moments_in, scaled_in}
use Rattle.fx_modes.specs.Files.{AreAccepted, AreImages, AreUsesOf, HasGained}
use Rattle.fx_modes.specs.Graphs.{FileShown, Graph, graph_under}
use Rattle.fx_modes.specs.Moments.{HasRendered, IsMomentFile, Stops, images_of}
use Rattle.fx_modes.specs.Run.{HasPut, IsToldAs, Job, ahead_in}
use Rattle.fx_modes.specs.Steps.{IsSourceFault}
use Rattle.fx_modes.specs.Tiles.{HasCounted}
use Rattle.fx_modes.specs.Turns.{IsEndFault, IsFinished, QuietAtPut}
use Rattle.fx_modes.proofs.CountLemmas.{counted_none}
use Rattle.fx_modes.proofs.GrownLemmas.{Serves, images_grow, made_gains}
use Rattle.fx_modes.proofs.ReadLemmas.{all_due, has_wanted, images_read, small_wanted, uses_are_once}
use Rattle.fx_modes.proofs.ScaledLemmas.{small_grow, small_images}

-- ---- what was made of some first moments

-- the moments of which these files were made, and those behind
record MadeOf (right : List SourceFrame → ℕ → Made → Type 0) (seen : List SourceFrame) (m : ℕ) (fs : List (List SourceFrame))
    (ds : List Made) : Type 0 where
  pub some : List (List SourceFrame)
  pub rest : List (List SourceFrame)
  pub split : fs ≡ some ++ rest
  pub are : AreMade right seen m some ds
  pub long : length some ≡ length ds

made_front : (right : List SourceFrame → ℕ → Made → Type 0) (seen : List SourceFrame) (m : ℕ) (fs : List (List SourceFrame)) (ds es : List Made)
    → AreMade right seen m fs (ds ++ es) → MadeOf right seen m fs ds
made_front right seen m fs [] es made = record { some = []; rest = fs; split = refl; are = tt; long = refl }
made_front right seen m [] (d ∷ ds) es made = absurd made
made_front right seen m (f ∷ fs) (d ∷ ds) es made =
    let r = made_front right (seen ++ f) (m + 1) fs ds es made.1 in
    record {
      some = f ∷ r.some;
      rest = r.rest;
      split = ap (λ gs. f ∷ gs) r.split;
      are = (made.0, r.are);
      long = let long = r.long in omega (arith, long);
    }

-- and the moment of the next file
next_made : (right : List SourceFrame → ℕ → Made → Type 0) (seen : List SourceFrame) (m : ℕ) (fs : List (List SourceFrame)) (ds : List Made)
    (d : Made) (es : List Made) → AreMade right seen m fs (ds ++ d ∷ es)
    → (now : List SourceFrame) × right now (m + length ds) d × (length ds < length fs)
next_made right seen m [] [] d es made = absurd made
next_made right seen m (f ∷ fs) [] d es made =
    let at : m ≡ m + length {A = Made} [] = omega arith in
    (seen ++ f, subst (λ (k : ℕ). right (seen ++ f) k d) at made.0, omega arith)
next_made right seen m [] (c ∷ ds) d es made = absurd made
next_made right seen m (f ∷ fs) (c ∷ ds) d es made =
    let r = next_made right (seen ++ f) (m + 1) fs ds d es made.1 in
    let at : m + 1 + length ds ≡ m + length (c ∷ ds) = omega arith in
    let low = r.2 in
    (r.0, subst (λ (k : ℕ). right r.0 k d) at r.1, omega (arith, low))

module _ (reads puts : Type 0) (order : Ordered) (file : FileShown) (r : Reel) (of_order : IsReelOf order file r)
    (stay : PicturesStay meaning_of r.graph r.edits) (p : Schedule) (start new : State)
    (there : reads → graph_under start.read_files order.graph ≡ Some (Ok file))
    (few : p.moments ≡ moments_in r) (limit : p.limit ≡ 2147483648) (side : p.most_side ≡ MOST_SIDE)
    (are : AreUsesOf r p.uses.now) (none_seen : start.seen ≡ []) (scale : IsScale order.scale) where
  abbrev uses : List Use
  uses = p.uses.now

  once : AreOnce uses
  once = uses_are_once r uses are

  abbrev job : reads → Job (Some order) start.read_files
  job told =
      record {
        order = order;
        ordered = refl;
        file = file;
        there = there told;
        reel = r;
        is = of_order;
        uses = uses;
        are = are;
      }

  -- at none of the moments that were read a frame is refused
  accepted : reads → (fs : List (List SourceFrame)) → AreRead reads start.read_files p [] 0 fs → AreAccepted start.read_files uses (length fs)
  accepted told fs read =
      subst (λ (s : ℕ). seq.AreAccepted start.read_files s 2147483648 uses (length fs)) side
      (subst (λ (l : ℕ). seq.AreAccepted start.read_files p.most_side l uses (length fs)) limit
      (read_accepted reads start.read_files p told once fs read))

  -- what was read of them are the images of their files
  shown : reads → (fs : List (List SourceFrame)) → AreRead reads start.read_files p [] 0 fs
      → AreImages start.read_files (due_until uses (length fs)) (images_of (all_of fs))
  shown told fs read =
      images_read start.read_files uses once (length fs) (all_of fs) (frames_read reads start.read_files p fs read)
      (subst (λ (s : ℕ). ArePictures start.read_files s (due_until uses (length fs)) (all_of fs)) side
      (pictures_read reads start.read_files p told once fs read))

  -- at the size that is rendered
  abbrev small : List SourceFrame → Images
  small frames = scaled_in r (images_of frames)

  sound : (frames : List SourceFrame) → scene.AreImages (small frames)
  sound frames = small_images r.scale (subst IsScale (sym of_order.scale) scale) frames

  -- the files that were made of some first moments, over the frames that these are the first to want
  gained : (fs : List (List SourceFrame)) (ds : List Made) (mid : Files) → length fs ≤ p.moments → AreRead reads start.read_files p [] 0 fs
      → AreMade (IsMomentFile r) start.seen 0 fs ds
      → HasGained r (small (all_of fs)) (length ds) mid (with_all ds mid)
  gained fs ds mid low read made =
      let at : length {A = List SourceFrame} [] + length ds ≡ length ds = omega arith in
      subst (λ (n : ℕ). HasGained r (small (all_of fs)) n mid (with_all ds mid)) at
      (made_gains r stay (small (all_of fs)) (sound (all_of fs)) [] fs ds mid mid
      (subst (λ (xs : List SourceFrame). AreMade (IsMomentFile r) xs 0 fs ds) none_seen made)
      serves (λ name. refl))
    where
      serves : (ps : List (List SourceFrame)) (f : List SourceFrame) (rest : List (List SourceFrame)) → [] ++ fs ≡ ps ++ f ∷ rest
          → Serves r stay (small (all_of fs)) (sound (all_of fs)) (all_of ps ++ f) (length ps)
      serves ps f rest split =
          let front : fs ≡ (ps ++ f ∷ []) ++ rest = split ∙ sym (append_assoc ps (f ∷ []) rest) in
          let all : all_of (ps ++ f ∷ []) ≡ all_of ps ++ f = all-append ps (f ∷ []) ∙ ap (λ xs. all_of ps ++ xs) (append-nil f) in
          let long : length (ps ++ f ∷ []) ≡ length ps + 1 = length-append ps (f ∷ []) in
          let total : length fs ≡ length (ps ++ f ∷ []) + length rest = ap length front ∙ length-append (ps ++ f ∷ []) rest in
          let first : AreRead reads start.read_files p [] 0 (ps ++ f ∷ []) =
          read_first reads start.read_files p [] 0 (ps ++ f ∷ []) rest
          (subst (λ (gs : List (List SourceFrame)). AreRead reads start.read_files p [] 0 gs) front read) in
          let frames : AreFramesOf (due_until uses (length (ps ++ f ∷ []))) (all_of ps ++ f) =
          subst (λ (xs : List SourceFrame). AreFramesOf (due_until uses (length (ps ++ f ∷ []))) xs) all
          (frames_read reads start.read_files p (ps ++ f ∷ []) first) in
          let whole : all_of fs ≡ (all_of ps ++ f) ++ all_of rest =
          ap all_of front ∙ all-append (ps ++ f ∷ []) rest ∙ ap (λ xs. xs ++ all_of rest) all in
          record {
            are = sound (all_of ps ++ f);
            grown =
                small_grow r.scale (images_of (all_of ps ++ f)) (images_of (all_of fs))
                (subst (λ (xs : List SourceFrame). Grown (all_of ps ++ f) xs) (sym whole) (images_grow (all_of ps ++ f) (all_of rest)));
            has =
                small_wanted r (length ps) (images_of (all_of ps ++ f))
                (has_wanted r uses are (length (ps ++ f ∷ [])) (all_of ps ++ f) frames (length ps)
                (omega (arith, few, long, total, low)) (omega (arith, long)));
          }
        where
          Grown : List SourceFrame → List SourceFrame → Type 0
          Grown some all = HasGrown (images_of some) (images_of all)

  -- files that are as the made ones leave them
  over : (images : Images) (n : ℕ) (mid now end : Files) → HasGained r images n mid now → SameFiles now end → HasGained r images n mid end
  over images n mid now end gained same name = same name ∙ gained name

  -- some first moments were put, over the frames that they are the first to want
  put : reads → puts → (fs : List (List SourceFrame)) (ds es : List Made) → length fs ≤ p.moments → AreRead reads start.read_files p [] 0 fs
      → AreMade (IsMomentFile r) start.seen 0 fs (ds ++ es) → SameFiles (with_all ds start.put_files) new.put_files
      → HasPut (Some order) start.read_files (length ds) start.put_files new.put_files
  put told written fs ds es low read made same =
      let m = made_front (IsMomentFile r) start.seen 0 fs ds es made in
      let first : AreRead reads start.read_files p [] 0 m.some =
      read_first reads start.read_files p [] 0 m.some m.rest (subst (λ (gs : List (List SourceFrame)). AreRead reads start.read_files p [] 0 gs) m.split read) in
      let total : length fs ≡ length m.some + length m.rest = ap length m.split ∙ length-append m.some m.rest in
      let long = m.long in
      record {
        job = job told;
        few = omega (arith, few, total, long, low);
        accepted = subst (λ (n : ℕ). AreAccepted start.read_files uses n) m.long (accepted told m.some first);
        images = images_of (all_of m.some);
        are = subst (λ (n : ℕ). AreImages start.read_files (due_until uses n) (images_of (all_of m.some))) m.long (shown told m.some first);
        gained = over (small (all_of m.some)) (length ds) start.put_files (with_all ds start.put_files) new.put_files
            (gained m.some ds start.put_files (omega (arith, total, low)) first m.are) same;
      }

  fewer : (n m : ℕ) → m ≤ n → AreAccepted start.read_files uses n → AreAccepted start.read_files uses m
  fewer n m low all j below = all j (omega (arith, low, below))

  -- ---- every moment

  module _ (is : IsDone reads puts (IsMomentFile r) p start new) where
    abbrev all : Images
    all = images_of (all_of is.handed)

    every : length is.handed ≡ p.moments
    every = is.all

    made_all : length is.made ≡ p.moments
    made_all = made_few (IsMomentFile r) start.seen 0 is.handed is.made is.past.made_right ∙ is.all

    -- what is counted over the frames that were seen is counted over those that were read
    pub rendered : (count : TileCount) → reads
        → HasCounted r (small new.seen) order.tile order.cache new.next count
        → HasRendered puts (Some order) start.read_files start.put_files new.put_files count
    rendered count told counted =
        let read = is.past.sees.read in
        let seen : new.seen ≡ all_of is.handed = is.past.sees.seen ∙ ap (λ xs. xs ++ all_of is.handed) none_seen in
        record {
          known = record {
            job = job told;
            accepted = subst (λ (n : ℕ). AreAccepted start.read_files uses n) (every ∙ few) (accepted told is.handed read);
          };
          images = all;
          are = all_due start.read_files r uses are all
              (subst (λ (n : ℕ). AreImages start.read_files (due_until uses n) all) (every ∙ few) (shown told is.handed read));
          size = scale;
          gained = λ written. subst (λ (n : ℕ). HasGained r (small (all_of is.handed)) n start.put_files new.put_files) (made_all ∙ few)
              (over (small (all_of is.handed)) (length is.made) start.put_files (with_all is.made start.put_files) new.put_files
              (gained is.handed is.made start.put_files (is.past.sees.few) read is.past.made_right) (is.past.put written));
          counted = subst (λ (n : ℕ). HasCounted r (small (all_of is.handed)) order.tile order.cache n count) (is.past.next ∙ every ∙ few)
              (subst (λ (xs : List SourceFrame). HasCounted r (small xs) order.tile order.cache new.next count) seen counted);
        }

  -- ---- where the moments end early

  abbrev fetches : Calls
  fetches = record { before = start.read_faults; now = new.read_faults; was = start.read_last; last = new.read_last }

  abbrev places : Calls
  places = record { before = start.put_faults; now = new.put_faults; was = start.put_last; last = new.put_last }

  abbrev Stopped : RunFault → Type 0
  Stopped e = Stops reads puts (Some order) start.read_files fetches places start.put_files new.put_files e

  at_memory : StopsAtMemory reads puts (IsMomentFile r) p start new → Stopped run.Memory
  at_memory is =
      let low : length is.handed ≤ p.moments =
      (let all = is.sees.few in let long = length-append is.handed is.more in omega (arith, all, long)) in
      record {
        moment = 0;
        rose = tt;
        cause = λ told. tt;
        leaves = λ told written. inr (
          length is.made,
          put told written is.handed is.made is.rest low (read_first reads start.read_files p [] 0 is.handed is.more is.sees.read)
              is.made_right (is.put written),
        );
        fetches = tt;
        places = is.no_put_failed;
        ordered = λ same. cc;
        no_report = λ same. cc;
      }

  at_put : (name : List ℕ) → StopsAtPut reads puts (IsMomentFile r) p start new name
      → (ahead_in (Some order) ≡ 0 → IsQuiet start.read_faults new.read_faults start.read_last new.read_last) → Stopped (run.Write name)
  at_put name is quiet =
      let total = length-append is.handed is.more in
      let all = is.sees.few in
      let low : length is.handed ≤ p.moments = omega (arith, all, total) in
      let read = read_first reads start.read_files p [] 0 is.handed is.more is.sees.read in
      let next = next_made (IsMomentFile r) start.seen 0 is.handed is.made is.one is.rest is.made_right in
      let under : length is.made < length is.handed = next.2 in
      let behind : length is.made < moments_in r = omega (arith, under, low, few) in
      let zero_plus : 0 + length is.made ≡ length is.made = omega arith in
      let named : file_name r (length is.made) ≡ name = sym (sym is.name_is ∙ next.1.name ∙ ap (file_name r) zero_plus) in
      let m = made_front (IsMomentFile r) start.seen 0 is.handed is.made (is.one ∷ is.rest) is.made_right in
      let first = read_first reads start.read_files p [] 0 m.some m.rest (subst (λ (gs : List (List SourceFrame)). AreRead reads start.read_files p [] 0 gs) m.split read) in
      let front : length is.handed ≡ length m.some + length m.rest = ap length m.split ∙ length-append m.some m.rest in
      let seen = images_of (all_of m.some) in
      record {
        moment = length is.made;
        rose = (is.rose, is.last);
        cause = λ told. (
          job told,
          behind,
          fewer (length is.handed) (length is.made + 1) (omega (arith, under)) (accepted told is.handed read),
          named,
        );
        leaves = λ told written.
            record {
              job = job told;
              few = behind;
              accepted = fewer (length is.handed) (length is.made + 1) (omega (arith, under)) (accepted told is.handed read);
              images = seen;
              are = subst (λ (n : ℕ). AreImages start.read_files (due_until uses n) seen) m.long (shown told m.some first);
              file_is = sym named;
              gained = λ other apart.
                  is.put written other (λ same. apart (same ∙ sym named))
                  ∙ gained m.some is.made start.put_files (omega (arith, front, low)) first m.are other;
            };
        fetches = quiet;
        places = tt;
        ordered = λ same. cc;
        no_report = λ same. cc;
      }

  module _ (fault : SeqFault) (is : StopsAtSource reads puts (IsMomentFile r) p start new fault) where
    abbrev j : ℕ
    j = length is.handed

    behind_all : j < moments_in r
    behind_all = let one = is.one in omega (arith, one, few)

    here_put : reads → puts → HasPut (Some order) start.read_files j start.put_files new.put_files
    here_put told written =
        let many = made_few (IsMomentFile r) start.seen 0 is.handed is.made is.past.made_right in
        subst (λ (n : ℕ). HasPut (Some order) start.read_files n start.put_files new.put_files) many
        (put told written is.handed is.made [] is.past.sees.few is.past.sees.read
        (subst (λ (ds : List Made). AreMade (IsMomentFile r) start.seen 0 is.handed ds) (sym (append-nil is.made)) is.past.made_right)
        (is.past.put written))

    told_as : reads → IsTold (seq.moment_refused start.read_files MOST_SIDE 2147483648 uses j) fault
        × IsFirstFetch start.read_files MOST_SIDE 2147483648 (held_bytes start.read_files uses j) (due_at uses j) fault
    told_as told =
        subst (λ (s : ℕ). Both s 2147483648) side (subst (λ (l : ℕ). Both p.most_side l) limit
        (unread_refused reads start.read_files p told once is.handed fault is.past.sees.read is.unread))
      where
        Both : ℕ → ℕ → Type 0
        Both s l =
            IsTold (seq.moment_refused start.read_files s l uses j) fault
            × IsFirstFetch start.read_files s l (held_bytes start.read_files uses j) (due_at uses j) fault

    no_put : IsQuiet start.put_faults new.put_faults start.put_last new.put_last
    no_put = is.past.no_put_failed

    -- want of memory for the line of the fault
    no_line : Stopped run.Memory
    no_line =
        record {
          moment = 0;
          rose = tt;
          cause = λ told. tt;
          leaves = λ told written. inr (j, here_put told written);
          fetches = tt;
          places = no_put;
          ordered = λ same. cc;
          no_report = λ same. cc;
        }

    -- a frame is refused
    refused : (name : List ℕ) (t : ℤ) (why : FrameFault) → IsToldAs r.graph fault name t why
        → (reads → seq.moment_refused start.read_files MOST_SIDE 2147483648 uses j ≡ Some fault)
        → IsQuiet start.read_faults new.read_faults start.read_last new.read_last → Stopped (run.Frame name t why)
    refused name t why line told quiet =
        record {
          moment = j;
          rose = tt;
          cause = λ one. (
            job one,
            behind_all,
            fault,
            record { before = accepted one is.handed is.past.sees.read; here = told one },
            line,
          );
          leaves = here_put;
          fetches = quiet;
          places = no_put;
          ordered = λ same. cc;
          no_report = λ same. cc;
        }

    -- a fetch failed
    unread : (w : Wanted) → HasRisen start.read_faults new.read_faults → new.read_last ≡ w.name
        → (reads → ComesTo start.read_files MOST_SIDE 2147483648 (held_bytes start.read_files uses j) (due_at uses j) w)
        → Stopped (run.Read w.name)
    unread w rose last comes =
        record {
          moment = j;
          rose = (rose, last);
          cause = λ one. inr (
            job one,
            behind_all,
            w,
            record { before = accepted one is.handed is.past.sees.read; here = comes one },
            refl,
          );
          leaves = λ told written. inr (here_put told written);
          fetches = tt;
          places = no_put;
          ordered = λ same. cc;
          no_report = λ same. cc;
        }

  at_source : (fault : SeqFault) (is : StopsAtSource reads puts (IsMomentFile r) p start new fault) (e : RunFault)
      → IsSourceFault r.graph fault e → Stopped e
  at_source (fault.Fetch node t name) is e same =
      subst Stopped (sym same)
      (unread (fault.Fetch node t name) is (record { node = node; frame = t; name = name }) is.shows.fetch.0 is.shows.fetch.1
      (λ told. (told_as (fault.Fetch node t name) is told).1))
  at_source (fault.Frame node t why) is (run.Frame name u line) line_is =
      refused (fault.Frame node t why) is name u line line_is (λ told. (told_as (fault.Frame node t why) is told).0) is.shows.quiet
  at_source (fault.Frame node t why) is run.Memory line_is = no_line (fault.Frame node t why) is
  at_source (fault.Frame node t why) is run.Usage line_is = absurd line_is
  at_source (fault.Frame node t why) is (run.Graph code path) line_is = absurd line_is
  at_source (fault.Frame node t why) is (run.Read name) line_is = absurd line_is
  at_source (fault.Frame node t why) is (run.Write name) line_is = absurd line_is
  at_source (fault.Frame node t why) is run.Report line_is = absurd line_is
  at_source (fault.TooLarge node t sum) is (run.Frame name u line) line_is =
      refused (fault.TooLarge node t sum) is name u line line_is (λ told. (told_as (fault.TooLarge node t sum) is told).0) is.shows.quiet
  at_source (fault.TooLarge node t sum) is run.Memory line_is = no_line (fault.TooLarge node t sum) is
  at_source (fault.TooLarge node t sum) is run.Usage line_is = absurd line_is
  at_source (fault.TooLarge node t sum) is (run.Graph code path) line_is = absurd line_is
  at_source (fault.TooLarge node t sum) is (run.Read name) line_is = absurd line_is
  at_source (fault.TooLarge node t sum) is (run.Write name) line_is = absurd line_is
  at_source (fault.TooLarge node t sum) is run.Report line_is = absurd line_is
  at_source fault.Memory is e same = absurd (is.no_memory refl)

  -- want of memory once every file was put
  after_all : IsDone reads puts (IsMomentFile r) p start new → Stopped run.Memory
  after_all is =
      record {
        moment = 0;
        rose = tt;
        cause = λ told. tt;
        leaves = λ told written. inr (
          length is.made,
          put told written is.handed is.made [] is.past.sees.few is.past.sees.read
              (subst (λ (ds : List Made). AreMade (IsMomentFile r) start.seen 0 is.handed ds) (sym (append-nil is.made)) is.past.made_right)
              (is.past.put written),
        );
        fetches = tt;
        places = is.past.no_put_failed;
        ordered = λ same. cc;
        no_report = λ same. cc;
      }

  pub stopped : (end : PipeEnd) → Ended reads puts (IsMomentFile r) p start new end
      → (ahead_in (Some order) ≡ 0 → QuietAtPut start.read_faults new.read_faults start.read_last new.read_last end) → (e : RunFault)
      → IsEndFault r.graph end e → Stopped e
  stopped pipe.Done is quiet e same = subst Stopped (sym same) (after_all is)
  stopped (pipe.Source fault) is quiet e line_is = at_source fault is e line_is
  stopped (pipe.Put name) is quiet e same = subst Stopped (sym same) (at_put name is quiet)
  stopped pipe.Memory is quiet e same = subst Stopped (sym same) (at_memory is)

  -- ---- what the run answers

  pub well : (end : PipeEnd) (sum : TileCount) (result : Result TileCount RunFault) → Ended reads puts (IsMomentFile r) p start new end
      → IsFinished r.graph end sum result → reads
      → (end ≡ pipe.Done → HasCounted r (small new.seen) order.tile order.cache new.next sum)
      → IfOk result (HasRendered puts (Some order) start.read_files start.put_files new.put_files)
  well end sum (Ok count) ended finished told counted =
      subst (HasRendered puts (Some order) start.read_files start.put_files new.put_files) (sym finished.1)
      (rendered (subst (Ended reads puts (IsMomentFile r) p start new) finished.0 ended) sum told (counted finished.0))
  well end sum (Err e) ended finished told counted = tt

  pub ill : (end : PipeEnd) (sum : TileCount) (result : Result TileCount RunFault) → Ended reads puts (IsMomentFile r) p start new end
      → (ahead_in (Some order) ≡ 0 → QuietAtPut start.read_faults new.read_faults start.read_last new.read_last end)
      → IsFinished r.graph end sum result → IfErr result Stopped
  ill end sum (Ok count) ended quiet finished = tt
  ill end sum (Err e) ended quiet finished = stopped end ended quiet e finished

-- where all files were put no call failed
module _ (reads puts : Type 0) (right : List SourceFrame → ℕ → Made → Type 0) (p : Schedule) (start new : State) (g : Graph) (end : PipeEnd)
    (sum : TileCount) (ended : Ended reads puts right p start new end) where
  all_put : end ≡ pipe.Done → IsDone reads puts right p start new
  all_put is = subst (Ended reads puts right p start new) is ended

  pub fetches_quiet : (result : Result TileCount RunFault) → IsFinished g end sum result
      → OnOk result (IsQuiet start.read_faults new.read_faults start.read_last new.read_last)
  fetches_quiet (Ok count) finished = (all_put finished.0).no_fetch_failed
  fetches_quiet (Err e) finished = tt

  pub puts_quiet : (result : Result TileCount RunFault) → IsFinished g end sum result
      → OnOk result (IsQuiet start.put_faults new.put_faults start.put_last new.put_last)
  puts_quiet (Ok count) finished = (all_put finished.0).past.no_put_failed
  puts_quiet (Err e) finished = tt

-- ---- where nothing was read or put

-- memory was wanting
pub stops_at_once : (reads puts : Type 0) (asked : Option Ordered) (library files : Files) (a b : ℕ) (x y : List ℕ)
    → Stops reads puts asked library (calls a a x x) (calls b b y y) files files run.Memory
stops_at_once reads puts asked library files a b x y =
    record {
      moment = 0;
      rose = tt;
      cause = λ told. tt;
      leaves = λ told written. inl (λ name. refl);
      fetches = tt;
      places = record { count = refl; last_one = refl };
      ordered = λ same. cc;
      no_report = λ same. cc;
    }

-- there are no moments
pub renders_none : (puts : Type 0) (order : Ordered) (file : FileShown) (library files : Files) (r : Reel) (uses : List Use)
    → graph_under library order.graph ≡ Some (Ok file) → IsReelOf order file r → AreUsesOf r uses → IsScale order.scale → moments_in r ≡ 0
    → HasRendered puts (Some order) library files files no_count
renders_none puts order file library files r uses there is are scale none =
    let nothing : AreImages library (due_until uses 0) no_images =
    record { each = λ w at. absurd (omega (arith, at.1)); only = λ m f lists. refl } in
    record {
      known = record {
        job = record {
          order = order;
          ordered = refl;
          file = file;
          there = there;
          reel = r;
          is = is;
          uses = uses;
          are = are;
        };
        accepted = λ j low. absurd (omega (arith, low, none));
      };
      images = no_images;
      are = all_due library r uses are no_images
          (subst (λ (k : ℕ). AreImages library (due_until uses k) no_images) (sym none) nothing);
      size = scale;
      gained = λ written. subst (λ (k : ℕ). HasGained r (scaled_in r no_images) k files files) (sym none) (λ name. refl);
      counted = counted_none r (scaled_in r no_images) order.tile order.cache (moments_in r) none;
    }
