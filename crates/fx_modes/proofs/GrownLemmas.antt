-- Over more source frames the files of a run and what it counts are the same, where all that is wanted was there.
use Rattle.std.proofs.Common.{◌≡◌, ◌<◌, ◌+◌, ℕ, zero, suc, ℤ, pos, List, [], ◌∷◌, ◌++◌, map, length, Option, Some, None, refl, sym, ap, subst, ◌∙◌, arith, append_assoc}
use mathlib.Core.Path.{fun_ext}
use Rattle.std.specs.Prelude.{count_by, sum_by}
use Rattle.std.specs.List.{flat_map, range_with_len}
use Rattle.std.specs.Option.{option_map}
use Rattle.std.proofs.lemmas.Int.{ints}
use Rattle.std.proofs.lemmas.List.Concat.{flat_map-cons}
use Rattle.std.proofs.lemmas.List.{length-append}
use Rattle.std.proofs.lemmas.List.Sums.{sum_by-cons}
use Rattle.std.proofs.lemmas.Option.{none-some}
use Rattle.fx_base.specs.Bounds.{Bounds}
use Rattle.fx_outside.specs.Outside.{Files}
use Rattle.fx_image.specs.Stored.{Stored, image_of}
use Rattle.fx_pam.specs.Text.{pam_text}
use Rattle.fx_seq.specs.Lists.{frames_in}
use Rattle.fx_seq.specs.declared.source.SourceFrame.{SourceFrame}
use Rattle.fx_seq.proofs.LookLemmas.{frames-append}
use Rattle.fx_pipe.specs.declared.made.Made.{Made}
use Rattle.fx_pipe.specs.Moments.{AreMade, all_of, with_all}
use Rattle.fx_pipe.proofs.MomentLemmas.{all-one}
use Rattle.fx_region.specs.Counts.{is_asked, is_passed, is_void, window_ends, window_tiles}
use Rattle.fx_region.specs.Ends.{EndShown, Frame, Render, Void, end_of}
use Rattle.fx_region.specs.Held.{EndIn, EndsReached}
use Rattle.fx_scene.specs.Depends as scene
use Rattle.fx_scene.specs.Holds.{PicturesStay}
use Rattle.fx_scene.specs.Nodes.{Nodes}
use Rattle.fx_scene.specs.Reach.{IsClosed, IsReached, NodeFrames}
use Rattle.fx_scene.specs.Right.{HasGrown}
use Rattle.fx_scene.specs.Scenes.{Images, graph_nodes, no_images}
use Rattle.fx_shipped.specs.Shipped.{meaning_of}
use Rattle.fx_tile.specs.declared.count.TileCount.{TileCount}
use Rattle.fx_tile.specs.Moments.{CountsTiles, renders_for}
use Rattle.fx_tile.specs.Setups.{end_renders}
use Rattle.fx_modes.specs.Files.{HasGained, with_file, with_moments}
use Rattle.fx_modes.specs.Graphs.{Graph}
use Rattle.fx_plan.specs.Agree.{SameEnds}
use Rattle.fx_modes.specs.Making.{EndsHold}
use Rattle.fx_modes.specs.Moments.{IsMomentFile, images_of}
use Rattle.fx_modes.specs.Reels.{Reel, file_name, file_text, frame_in, graph_in, picture_text, scaled_in, take_in}
use Rattle.fx_modes.specs.Tiles.{HasCounted, ends_in, moment_ends, moment_renders, nodes_in, renders_in}
use Rattle.fx_modes.proofs.ReadLemmas.{WantsIn}

-- ---- what was read later leaves what was read before

pub images_grow : (some more : List SourceFrame) → HasGrown (images_of some) (images_of (some ++ more))
images_grow some more n f image there =
    by (frames_in some n f) refl there
  where
    by : (o : Option Stored) → frames_in some n f ≡ o → option_map image_of o ≡ Some image → images_of (some ++ more) n f ≡ Some image
    by None is e = absurd (none-some image e)
    by (Some s) is e = ap (option_map image_of) (frames-append some more n f) ∙ rw is e

-- ---- sums over lists that are mapped

sum_map_same : {A : Type 0} (F G : EndShown → ℕ) (e : A → EndShown) (xs : List A) → ((x : A) → F (e x) ≡ G (e x))
    → sum_by F (map e xs) ≡ sum_by G (map e xs)
sum_map_same F G e [] each = refl
sum_map_same F G e (x ∷ xs) each =
    let a = sum_by-cons F (e x) (map e xs) in
    let b = sum_by-cons G (e x) (map e xs) in
    let c = each x in
    let d = sum_map_same F G e xs each in
    omega (arith, a, b, c, d)

-- ---- sums over numbers

flat_same : {A : Type 0} (f h : ℕ → List A) (a n : ℕ) → ((j : ℕ) → j < n → f (a + j) ≡ h (a + j))
    → flat_map f (range_with_len a n) ≡ flat_map h (range_with_len a n)
flat_same f h a zero each = refl
flat_same f h a (suc n) each =
    let zeroth : a + 0 ≡ a = omega arith in
    let first : f a ≡ h a = subst (λ (k : ℕ). f k ≡ h k) zeroth (each 0 (omega arith)) in
    let rest = flat_same f h (a + 1) n (λ j low. subst (λ (k : ℕ). f k ≡ h k) (next j) (each (suc j) (omega (arith, low)))) in
    flat_map-cons f a (range_with_len (a + 1) n)
    ∙ ap (λ es. es ++ flat_map f (range_with_len (a + 1) n)) first
    ∙ ap (λ es. h a ++ es) rest
    ∙ sym (flat_map-cons h a (range_with_len (a + 1) n))
  where
    next : (j : ℕ) → a + suc j ≡ a + 1 + j
    next j = omega arith

sum_same : (f h : ℕ → ℕ) (a n : ℕ) → ((j : ℕ) → j < n → f (a + j) ≡ h (a + j))
    → sum_by f (range_with_len a n) ≡ sum_by h (range_with_len a n)
sum_same f h a zero each = refl
sum_same f h a (suc n) each =
    let zeroth : a + 0 ≡ a = omega arith in
    let first : f a ≡ h a = subst (λ (k : ℕ). f k ≡ h k) zeroth (each 0 (omega arith)) in
    let rest = sum_same f h (a + 1) n (λ j low. subst (λ (k : ℕ). f k ≡ h k) (next j) (each (suc j) (omega (arith, low)))) in
    let left = sum_by-cons f a (range_with_len (a + 1) n) in
    let right = sum_by-cons h a (range_with_len (a + 1) n) in
    omega (arith, first, rest, left, right)
  where
    next : (j : ℕ) → a + suc j ≡ a + 1 + j
    next j = omega arith

-- ---- one frame of a graph

module _ (g : Graph) (lead : EndsReached meaning_of g) where
  abbrev over : Images → Nodes
  over images = graph_nodes meaning_of g images

  abbrev tiles : ℕ → List Bounds
  tiles side = window_tiles side g.project

  -- the output is reached at the frame itself
  itself : (t : ℤ) → IsReached (over no_images) g.output t t g.output t
  itself t s closed = closed.start t (omega (arith, ints)) (omega (arith, ints))

  module _ (old new : Images) (is_new : scene.AreImages new) (side : ℕ) (t : ℤ) (same : SameEnds meaning_of g t old new) where
    ends_same : window_ends (over old) g.output side g.project t ≡ window_ends (over new) g.output side g.project t
    ends_same =
        ap (λ (e : Bounds → EndShown). map e (tiles side))
        (fun_ext (λ r. (same g.output t r (itself t)).0))

    renders_at : (e : EndShown) → ((s : NodeFrames) → IsClosed (over no_images) g.output t t s → EndIn s e)
        → end_renders (over old) side e ≡ end_renders (over new) side e
    renders_at Void lies = refl
    renders_at (Frame node frame region through) lies = refl
    renders_at (Render node frame region cut through) lies =
        ap (λ needs. count_by (λ n. is_asked n.end) needs) ((same node frame region lies).1 side)

    renders_same :
        let some = window_ends (over old) g.output side g.project t in
        let all = window_ends (over new) g.output side g.project t in
        renders_for (over old) side some ≡ renders_for (over new) side all
    renders_same =
        ap (renders_for (over old) side) ends_same
        ∙ sum_map_same (end_renders (over old) side) (end_renders (over new) side) (end_of (over new) g.output t) (tiles side)
        (λ r. renders_at (end_of (over new) g.output t r) (λ s closed. lead new t is_new g.output t r (itself t) s closed))

-- ---- the first moments of a reel

module _ (r : Reel) (n : ℕ) (hold : EndsHold r n) (old new : Images) (is_old : scene.AreImages old) (is_new : scene.AreImages new)
    (grown : HasGrown old new) (side : ℕ) (has : (j : ℕ) → j < n → WantsIn r j old) where
  ends_at : (j : ℕ) → j < n → moment_ends r old side j ≡ moment_ends r new side j
  ends_at j low =
      let h = hold j low in
      let t = pos (frame_in r j) in
      ends_same (graph_in r j) h.1 old new is_new side t (h.0 old new t is_old is_new grown (has j low))

  renders_of : (j : ℕ) → j < n → moment_renders r old side j ≡ moment_renders r new side j
  renders_of j low =
      let h = hold j low in
      let t = pos (frame_in r j) in
      renders_same (graph_in r j) h.1 old new is_new side t (h.0 old new t is_old is_new grown (has j low))

  from_first : (P : ℕ → Type 0) → ((j : ℕ) → j < n → P j) → (j : ℕ) → j < n → P (0 + j)
  from_first P each j low =
      let at : j ≡ 0 + j = omega arith in
      subst P at (each j low)

  all_ends : ends_in r old side n ≡ ends_in r new side n
  all_ends =
      flat_same (moment_ends r old side) (moment_ends r new side) 0 n
      (from_first (λ j. moment_ends r old side j ≡ moment_ends r new side j) ends_at)

  all_renders : renders_in r old side n ≡ renders_in r new side n
  all_renders =
      sum_same (moment_renders r old side) (moment_renders r new side) 0 n
      (from_first (λ j. moment_renders r old side j ≡ moment_renders r new side j) renders_of)

  -- what was counted over the frames that were there is what is counted over more
  pub counted_grown : (cache : ℕ) (count : TileCount) → HasCounted r old side cache n count → HasCounted r new side cache n count
  counted_grown cache count counted =
      record {
        void_tiles = counted.void_tiles ∙ ap (count_by is_void) all_ends;
        passed = counted.passed ∙ ap (count_by is_passed) all_ends;
        asked = counted.asked ∙ ap (count_by is_asked) all_ends;
        enough = counted.enough;
        no_hits = counted.no_hits;
        none_kept = λ none. let all = counted.none_kept none in let same = all_renders in omega (arith, all, same);
      }

-- what one moment's tiles came to over some images they come to over others
pub tiles_same : (r : Reel) (j : ℕ) → EndsReached meaning_of (graph_in r j) → (old new : Images) → scene.AreImages new
    → SameEnds meaning_of (graph_in r j) (pos (frame_in r j)) old new → (side : ℕ) (count : TileCount)
    → CountsTiles (nodes_in r old j) side (moment_ends r old side j) count → CountsTiles (nodes_in r new j) side (moment_ends r new side j) count
tiles_same r j lead old new is_new same side count tiles =
    let ends = ends_same (graph_in r j) lead old new is_new side (pos (frame_in r j)) same in
    let renders = renders_same (graph_in r j) lead old new is_new side (pos (frame_in r j)) same in
    record {
      void_tiles = tiles.void_tiles ∙ ap (count_by is_void) ends;
      passed = tiles.passed ∙ ap (count_by is_passed) ends;
      asked = tiles.asked ∙ ap (count_by is_asked) ends;
      enough = tiles.enough;
      none_kept = λ none. let all = tiles.none_kept none in omega (arith, all, renders);
    }

-- ---- files

module _ (r : Reel) (stay : PicturesStay meaning_of r.graph r.edits) (all : Images) (is_all : scene.AreImages all) where
  -- the images of these frames, at the reel's size, have what moment j wants, and all have them too
  pub record Serves (seen : List SourceFrame) (j : ℕ) : Type 0 where
    pub are : scene.AreImages (scaled_in r (images_of seen))
    pub grown : HasGrown (scaled_in r (images_of seen)) all
    pub has : WantsIn r j (scaled_in r (images_of seen))

  text_stays : (seen : List SourceFrame) (j : ℕ) → Serves seen j → file_text r (scaled_in r (images_of seen)) j ≡ file_text r all j
  unfolding picture_text
  text_stays seen j serves =
      ap (pam_text r.graph.format) (stay (scaled_in r (images_of seen)) all (take_in r j) (pos (frame_in r j)) serves.are is_all serves.grown serves.has)

  -- one file more
  file_more : (m : ℕ) (seen : List SourceFrame) (d : Made) (old mid : Files) → IsMomentFile r seen m d → Serves seen m
      → HasGained r all m old mid → HasGained r all (suc m) old (with_file d.name d.bytes.items mid)
  file_more m seen d old mid file serves gained name =
      ap (λ (files : Files). with_file d.name d.bytes.items files name) (fun_ext gained)
      ∙ ap (λ (n : List ℕ). with_file n d.bytes.items (with_moments r all m old) name) file.name
      ∙ ap (λ (b : List ℕ). with_file (file_name r m) b (with_moments r all m old) name)
      (file.text ∙ text_stays seen m serves)

  -- what was made of moments is what their files are over all images
  pub made_gains : (before fs : List (List SourceFrame)) (ds : List Made) (old mid : Files)
      → AreMade (IsMomentFile r) (all_of before) (length before) fs ds
      → ((ps : List (List SourceFrame)) (f : List SourceFrame) (rest : List (List SourceFrame)) → before ++ fs ≡ ps ++ f ∷ rest
      → Serves (all_of ps ++ f) (length ps))
      → HasGained r all (length before) old mid
      → HasGained r all (length before + length ds) old (with_all ds mid)
  made_gains before [] [] old mid made serves gained =
      let at : length before ≡ length before + length {A = Made} [] = omega arith in
      subst (λ (n : ℕ). HasGained r all n old mid) at gained
  made_gains before [] (d ∷ ds) old mid made serves gained = absurd made
  made_gains before (f ∷ fs) [] old mid made serves gained = absurd made
  made_gains before (f ∷ fs) (d ∷ ds) old mid made serves gained =
      let next : List (List SourceFrame) = before ++ f ∷ [] in
      let long : length next ≡ length before + 1 = length-append before (f ∷ []) in
      let more : suc (length before) ≡ length next = omega (arith, long) in
      let end : length next + length ds ≡ length before + length (d ∷ ds) = omega (arith, long) in
      let here : Serves (all_of before ++ f) (length before) = serves before f fs refl in
      let one : HasGained r all (length next) old (with_file d.name d.bytes.items mid) =
      subst (λ (n : ℕ). HasGained r all n old (with_file d.name d.bytes.items mid)) more
      (file_more (length before) (all_of before ++ f) d old mid made.0 here gained) in
      let rest : AreMade (IsMomentFile r) (all_of next) (length next) fs ds =
      subst (λ (n : ℕ). AreMade (IsMomentFile r) (all_of next) n fs ds) (sym long)
      (subst (λ (xs : List SourceFrame). AreMade (IsMomentFile r) xs (length before + 1) fs ds) (sym (all-one before f)) made.1) in
      subst (λ (n : ℕ). HasGained r all n old (with_all ds (with_file d.name d.bytes.items mid))) end
      (made_gains next fs ds old (with_file d.name d.bytes.items mid) rest
      (λ ps h after split. serves ps h after (sym (append_assoc before (f ∷ []) fs) ∙ split)) one)
