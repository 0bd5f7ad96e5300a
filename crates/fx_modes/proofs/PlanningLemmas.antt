-- The plans of a graph's frames, one after another.
use Rattle.std.proofs.Common.{◌≡◌, ◌<◌, ◌≤◌, ◌+◌, ◌*◌, ℕ, ℤ, pos, IsSome, Option, None, List, [], ◌∷◌, ◌++◌, length, Some, Ok, refl, sym, ap, subst, ◌∙◌, arith}
use Rattle.std.specs.List.{AllZip}
use Rattle.std.proofs.Math.Nat.{div-eq_of_lt, mod-eq_of_lt}
use Rattle.std.proofs.lemmas.Bool.{false≢true}
use Rattle.std.proofs.lemmas.List.{length-append}
use Rattle.fx_base.specs.declared.limits.TheConstants.{LAST_FRAME}
use Rattle.fx_outside.specs.Outside.{Files}
use Rattle.fx_seq.specs.Held.{got_frames, held_frames}
use Rattle.fx_seq.specs.Lists.{AreFramesOf, used_size}
use Rattle.fx_seq.specs.Moments.{AreOnce, due_until}
use Rattle.fx_seq.specs.declared.source.SourceFrame.{SourceFrame}
use Rattle.fx_seq.specs.declared.store.Store.{Store}
use Rattle.fx_seq.specs.declared.used.Use.{Use}
use Rattle.fx_image.specs.Image.{Image}
use Rattle.fx_proxy.specs.Proxy.{IsScaledFrame, scaled_images}
use Rattle.fx_proxy.specs.Reduced.{IsScale}
use Rattle.fx_scene.specs.Depends as scene
use Rattle.fx_scene.specs.Right.{HasGrown, HasWanted}
use Rattle.fx_scene.specs.Scenes.{Images, fetched_in, images_in}
use Rattle.fx_scene.specs.Takes.{graph_of_take}
use Rattle.fx_scene.specs.declared.take.Edit.{Edit}
use Rattle.fx_shipped.specs.Shipped.{meaning_of}
use Rattle.fx_words.specs.Ordered.{Ordered}
use Rattle.fx_words.specs.declared.plan.PlanFrame.{PlanFrame}
use Rattle.fx_modes.specs.declared.planning.Planning.{Planning}
use Rattle.fx_modes.specs.declared.sources.TheConstants.{MOST_BYTES}
use Rattle.fx_modes.specs.Files.{AreAccepted, AreImages, AreUsesOf}
use Rattle.fx_modes.specs.Graphs.{FileShown, Graph, first_of, frame_count, graph_under, last_of}
use Rattle.fx_modes.specs.Moments.{images_of}
use Rattle.fx_modes.specs.Making.{HoldsScaled}
use Rattle.fx_modes.specs.Planning.{IsPlanning, MayPlan, done_by, seen_by}
use Rattle.fx_modes.specs.Plans.{AreLinesOf, ArePlanned, ArePlansOf}
use Rattle.fx_modes.specs.Reels.{IsReelOf, Reel, frame_in, graph_in, moments_in, ordered_file, plain_reel, scaled_in, takes_for}
use Rattle.fx_modes.specs.Run.{Job}
use Rattle.fx_modes.specs.Sources.{HasSources}
use Rattle.fx_modes.proofs.GrownLemmas.{images_grow}
use Rattle.fx_modes.proofs.ReadLemmas.{all_due, holds_wanted, images_read, uses_are_once}
use Rattle.fx_modes.proofs.ReelLemmas.{plain_of}
use Rattle.fx_modes.proofs.ScaledLemmas.{holds_none, same_images, small_grow, small_images}
use Rattle.fx_scene.proofs.StoreLemmas.{held_fetched}

-- ---- what is held, and other images

-- what is held agrees on what is wanted with images that have all that was handed in, at the size at which it is held
held_agree : (q : ℕ) (seen : List SourceFrame) (store : Store) → AllZip (IsScaledFrame q) seen (got_frames store) → (g : Graph) (t : ℤ)
    → HasWanted meaning_of g (images_in store) g.output t → (more : Images) → HasGrown (scaled_images q (images_of seen)) more
    → scene.AgreeOnWanted meaning_of g g.output t t (images_in store) more
held_agree q seen store are g t has more grown k f wanted = by (images_in store k f) refl (has k f wanted)
  where
    small : Option Image
    small = scaled_images q (images_of seen) k f

    there : (i : Image) (o : Option Image) → small ≡ o → scene.AreSame (Some i) o → scene.AreSame (Some i) (more k f)
    there i None is same = absurd same
    there i (Some j) is same = subst (λ (p : Option Image). scene.AreSame (Some i) p) (sym (grown k f j is)) same

    by : (o : Option Image) → images_in store k f ≡ o → IsSome o → scene.AreSame o (more k f)
    by None is some = absurd (false≢true some)
    by (Some i) is some =
        let got : fetched_in store k f ≡ Some i = held_fetched store store.among k f i is in
        there i small refl (subst (λ (p : Option Image). scene.AreSame p small) got (same_images q seen store are k f))

-- ---- a reel without takes

-- its moments are its frames
pub plain_many : (r : Reel) → r.edits ≡ [] → moments_in r ≡ r.count
plain_many r plain =
    let one : r.count * (length {A = List Edit} [] + 1) ≡ r.count = omega arith in
    ap (λ es. r.count * (length es + 1)) plain ∙ one

-- each of its frame of the graph as it is written
pub plain_graph : (r : Reel) (n : ℕ) → n < r.count → graph_in r n ≡ r.graph
plain_graph r n low = ap (graph_of_take r.graph r.edits) (div-eq_of_lt low)

pub plain_frame : (r : Reel) (n : ℕ) → n < r.count → frame_in r n ≡ r.first + n
plain_frame r n low = ap (λ k. r.first + k) (mod-eq_of_lt low)

-- ---- one frame more

planned_more : (g : Graph) (images : Images) (side t : ℕ) (fs : List PlanFrame) (f : PlanFrame) → ArePlanned g images side t fs
    → f.frame ≡ t + length fs → AreLinesOf g images side (t + length fs) f.entries → ArePlanned g images side t (fs ++ f ∷ [])
planned_more g images side t [] f before frame lines =
    let at : t + length {A = PlanFrame} [] ≡ t = omega arith in
    (frame ∙ at, subst (λ (u : ℕ). AreLinesOf g images side u f.entries) at lines, tt)
planned_more g images side t (x ∷ fs) f before frame lines =
    let at : t + length (x ∷ fs) ≡ t + 1 + length fs = omega arith in (
      before.0,
      before.1,
      planned_more g images side (t + 1) fs f before.2 (frame ∙ at) (subst (λ (u : ℕ). AreLinesOf g images side u f.entries) at lines),
    )

module _ (r : Reel) (uses : List Use) (side frame : ℕ) (old : Planning) (may : MayPlan r uses side frame old) where
  abbrev was : IsPlanning r uses side old
  was = may.planning

  abbrev n : ℕ
  n = done_by old

  pub once : AreOnce uses
  once = uses_are_once r uses was.are

  pub frame_low : frame ≤ LAST_FRAME
  frame_low = let few = was.few in let low = may.low in let next = may.next in omega (arith, few, low, next)

  -- what the frame wants is held
  pub wants_now : (graph : Graph) (seen : List SourceFrame) (store : Store) (moment : ℕ) → graph ≡ old.scene.graph → moment ≡ n
      → HoldsScaled r.scale uses (moment + 1) seen store → HasWanted meaning_of graph (images_in store) graph.output (pos frame)
  wants_now graph seen store moment same at read =
      let low = may.low in
      let many = plain_many r was.plain in
      subst (λ (g : Graph). HasWanted meaning_of g (images_in store) g.output (pos frame)) (sym (same ∙ was.graph))
      (subst (λ (t : ℕ). HasWanted meaning_of r.graph (images_in store) r.graph.output (pos t)) (plain_frame r n may.low ∙ sym may.next)
      (subst (λ (g : Graph). HasWanted meaning_of g (images_in store) r.graph.output (pos (frame_in r n))) (plain_graph r n may.low)
      (holds_wanted r uses was.are n (omega (arith, low, many)) seen store
      (subst (λ (m : ℕ). HoldsScaled r.scale uses (m + 1) seen store) at read))))

  -- then it is planned
  pub goes_on : (moment : ℕ) (frames : List SourceFrame) (new : Planning) (f : PlanFrame) → moment ≡ n
      → new.scene.graph ≡ old.scene.graph
      → new.scale ≡ old.scale → seen_by new ≡ seen_by old ++ frames → HoldsScaled r.scale uses (moment + 1) (seen_by new) new.scene.store
      → used_size uses (moment + 1) (held_frames new.scene.store) ≤ MOST_BYTES → new.frames.items ≡ old.frames.items ++ f ∷ []
      → f.frame ≡ frame
      → (let g = new.scene.graph in (other : Images) → scene.AreImages other
      → scene.AgreeOnWanted meaning_of g g.output (pos frame) (pos frame) (images_in new.scene.store) other
      → AreLinesOf g other side frame f.entries)
      → IsPlanning r uses side new
  goes_on moment frames new f at graph scale got read size added numbered lines =
      record {
        are = was.are;
        plain = was.plain;
        few = was.few;
        scale = scale ∙ was.scale;
        small = was.small;
        graph = same;
        read = subst (λ (m : ℕ). HoldsScaled r.scale uses m (seen_by new) new.scene.store) (sym count) read;
        size = subst (λ (m : ℕ). used_size uses m (held_frames new.scene.store) ≤ MOST_BYTES) (sym count) size;
        planned = λ more are grown.
            subst (ArePlanned r.graph more side r.first) (sym added)
            (planned_more r.graph more side r.first old.frames.items f
            (was.planned more are (λ node at image there. grown node at image (among node at image there))) (numbered ∙ may.next)
            (subst (λ (t : ℕ). AreLinesOf r.graph more side t f.entries) may.next
            (subst (λ (g : Graph). AreLinesOf g more side frame f.entries) same
            (lines more are
            (held_agree r.scale (seen_by new) new.scene.store read.got new.scene.graph (pos frame)
            (wants_now new.scene.graph (seen_by new) new.scene.store moment graph at read) more grown)))));
      }
    where
      same : new.scene.graph ≡ r.graph
      same = graph ∙ was.graph

      count : done_by new ≡ moment + 1
      count =
          let long = ap length added ∙ length-append old.frames.items (f ∷ []) in
          let one : length (f ∷ []) ≡ 1 = refl in
          omega (arith, long, one, at)

      among : HasGrown (scaled_in r (images_of (seen_by old))) (scaled_in r (images_of (seen_by new)))
      among =
          small_grow r.scale (images_of (seen_by old)) (images_of (seen_by new))
          (subst (λ (ss : List SourceFrame). HasGrown (images_of (seen_by old)) (images_of ss)) (sym got)
          (images_grow (seen_by old) frames))

-- a frame of the range is next
pub may_plan : (q : ℕ) (g : Graph) (a b side frame : ℕ) (uses : List Use) (m : Planning) → IsPlanning (plain_reel q g a b) uses side m
    → done_by m + a ≡ frame → frame < b + 1 → MayPlan (plain_reel q g a b) uses side frame m
may_plan q g a b side frame uses m planning next low =
    record { planning = planning; next = omega (arith, next); low = omega (arith, next, low) }

-- ---- before the first

pub none_seen : (seen : List SourceFrame) → AreFramesOf [] seen → seen ≡ []
none_seen [] are = refl
none_seen (s ∷ ss) are = absurd are

pub starts : (q : ℕ) (g : Graph) (a b side : ℕ) (uses : List Use) (m : Planning) → IsScale q → a ≤ LAST_FRAME → b ≤ LAST_FRAME
    → AreUsesOf (plain_reel q g a b) uses → m.scale ≡ q → m.scene.graph ≡ g → seen_by m ≡ [] → held_frames m.scene.store ≡ []
    → got_frames m.scene.store ≡ [] → m.frames.items ≡ [] → IsPlanning (plain_reel q g a b) uses side m
starts q g a b side uses m small low high are scale graph seen held got none =
    record {
      are = are;
      plain = refl;
      few = omega (arith, low, high);
      scale = scale;
      small = small;
      graph = graph;
      read =
          subst (λ (n : ℕ). HoldsScaled q uses n (seen_by m) m.scene.store) (sym zero_done)
          (holds_none q uses (seen_by m) m.scene.store seen held got);
      size = subst (λ (ss : List SourceFrame). used_size uses (done_by m) ss ≤ MOST_BYTES) (sym held) (omega arith);
      planned = λ more is grown. subst (ArePlanned g more side a) (sym none) tt;
    }
  where
    zero_done : done_by m ≡ 0
    zero_done = ap length none

-- ---- all of them

module _ (order : Ordered) (library : Files) (file : FileShown) (g : Graph) (a b : ℕ) (uses : List Use)
    (there : graph_under library order.graph ≡ Some (Ok file)) (none : takes_for order.mode file.takes ≡ [])
    (same : g ≡ (ordered_file order file).graph) (first : a ≡ first_of g order) (last : b ≡ last_of g order)
    (are : AreUsesOf (plain_reel order.scale g a b) uses) where
  abbrev reel : Reel
  reel = plain_reel order.scale g a b

  pub is_ordered : IsReelOf order file reel
  is_ordered =
      subst (λ (h : Graph). IsReelOf order file (plain_reel order.scale h a b)) (sym same)
      (plain_of order file none a b (first ∙ ap (λ (h : Graph). first_of h order) same) (last ∙ ap (λ (h : Graph). last_of h order) same))

  abbrev pub job : Job (Some order) library
  job =
      record {
        order = order;
        ordered = refl;
        file = file;
        there = there;
        reel = reel;
        is = is_ordered;
        uses = uses;
        are = are;
      }

  pub many : moments_in reel ≡ frame_count a b
  many = plain_many reel refl

  pub all_planned : (tells : Type 0) → tells → (m : Planning) → IsPlanning reel uses order.tile m → done_by m ≡ frame_count a b
      → HasSources tells library uses (done_by m) (seen_by m) → ArePlansOf (Some order) library m.frames.items
  all_planned tells told m is all has =
      let count : done_by m ≡ moments_in reel = all ∙ sym many in
      let images = images_of (seen_by m) in
      let shown : AreImages library (due_until uses (done_by m)) images =
      images_read library uses (uses_are_once reel uses are) (done_by m) (seen_by m) is.read.seen_are (has.pictures told) in
      record {
        known = record { job = job; accepted = subst (AreAccepted library uses) count (has.accepted told) };
        images = images;
        are = all_due library reel uses are images (subst (λ (n : ℕ). AreImages library (due_until uses n) images) count shown);
        many = count;
        planned = is.planned (scaled_in reel images) (small_images order.scale is.small (seen_by m)) (λ n f image at. at);
      }
