-- The first moment of a run.
use Rattle.std.proofs.Common.{◌≡◌, ◌≤◌, ◌+◌, ◌-◌, ◌*◌, ℕ, suc, List, [], ◌∷◌, ◌++◌, map, length, slice_index_or, All, Option, Some, None, refl, sym, ap, subst, ◌∙◌, arith}
use Rattle.std.proofs.Math.Nat.{zero-div, zero-mul}
use Rattle.std.proofs.lemmas.List.{append-nil, append_assoc, length-append, length-map}
use Rattle.fx_base.specs.Grid.{tiles_of}
use Rattle.fx_base.specs.declared.limits.TheConstants.{LAST_FRAME}
use Rattle.fx_text.specs.declared.raw.TheConstants.{MOST_TAKES}
use Rattle.fx_seq.specs.declared.used.Use.{Use}
use Rattle.fx_proxy.specs.Reduced.{IsScale}
use Rattle.fx_scene.specs.Scenes.{Script, Shot}
use Rattle.fx_scene.specs.Takes.{edits_of, graph_of_take}
use Rattle.fx_scene.specs.Uses.{AreUses, wanting}
use Rattle.fx_scene.specs.Wants.{IsNamedIn}
use Rattle.fx_scene.specs.declared.take.Take.{Take}
use Rattle.fx_shipped.specs.declared.shipped.Shipped.{Shipped}
use Rattle.fx_shipped.specs.Shipped.{meaning_of}
use Rattle.fx_tile.specs.Counts.{no_count}
use Rattle.fx_tile.specs.Moments.{count_weight, seat_weight}
use Rattle.fx_takes.specs.Shown.{TakeShown, edit_shown, take_shown}
use Rattle.fx_whole.specs.Capacity.{capacity}
use Rattle.fx_words.specs.Ordered.{Ordered}
use Rattle.fx_modes.specs.declared.crew.Crew.{Crew}
use Rattle.fx_modes.specs.declared.making.Making.{Making}
use Rattle.fx_modes.specs.Crews.{IsCrew, IsNewCrew}
use Rattle.fx_modes.specs.Files.{AreUsesOf}
use Rattle.fx_modes.specs.Graphs.{FileShown, Graph, first_of, frame_count, last_of}
use Rattle.fx_modes.specs.Making.{AreTakesFrom, HoldsScaled, IsAt, IsMaking, MayMake, Plan, pattern_in, seen_by}
use Rattle.fx_modes.specs.Moments.{images_of}
use Rattle.fx_modes.specs.Reels.{IsReelOf, Reel, moments_in, ordered_file, pattern_at, reel_with, scaled_in}
use Rattle.fx_modes.specs.Tiles.{HasCounted}
use Rattle.fx_modes.proofs.CountLemmas.{counted_none}
use Rattle.fx_modes.proofs.MakingLemmas.{grown_itself}

-- ---- those who render at first

-- where no tile may be kept, no whole image is
pub no_wholes : (order : Ordered) (scene : Shot Shipped) (crew : Crew) → IsNewCrew order scene crew → order.cache ≡ 0
    → crew.shared.wholes.capacity ≡ 0
no_wholes order scene crew is none =
    is.wholes
    ∙ ap (λ (n : ℕ). capacity n scene.graph.project order.tile) none
    ∙ zero-div (length (tiles_of order.tile scene.graph.project))

-- ---- the takes that are left at first are all of them

at_middle : {A B : Type 0} (f : A → B) (d : B) (done rest : List A) (x : A) → slice_index_or (map f (done ++ x ∷ rest)) (length done) d ≡ f x
at_middle f d [] rest x = refl
at_middle f d (y ∷ done) rest x = at_middle f d done rest x

takes_behind : (r : Reel) (done rest : List Take) → r.edits ≡ edits_of (done ++ rest) → r.files ≡ map (λ t. t.file) (done ++ rest)
    → AreTakesFrom r (length done) rest
takes_behind r done [] edits files =
    ap length edits ∙ length-map (done ++ []) (λ t. t.edits.items) ∙ ap length (append-nil done)
takes_behind r done (take ∷ rest) edits files = (
  record {
    edits = ap (λ es. slice_index_or es (length done) []) edits ∙ at_middle (λ (t : Take). t.edits.items) [] done rest take;
    file = ap (λ fs. slice_index_or fs (length done) []) files ∙ at_middle (λ (t : Take). t.file) [] done rest take;
  },
  subst (λ (k : ℕ). AreTakesFrom r k rest) long
      (takes_behind r (done ++ take ∷ []) rest (edits ∙ ap edits_of split) (files ∙ ap (map (λ (t : Take). t.file)) split)),
)
  where
    split : done ++ take ∷ rest ≡ (done ++ take ∷ []) ++ rest
    split = sym (append_assoc done (take ∷ []) rest)

    long : length (done ++ take ∷ []) ≡ suc (length done)
    long = let both = length-append done (take ∷ []) in omega (arith, both)

pub all_takes : (q : ℕ) (g : Graph) (takes : List Take) (a b : ℕ) → AreTakesFrom (reel_with q g takes a b) 0 takes
all_takes q g takes a b = takes_behind (reel_with q g takes a b) [] takes refl refl

-- ---- what an order of a file renders

edits_shown : (takes : List Take) → map (map edit_shown) (edits_of takes) ≡ map (λ (t : TakeShown). t.edits) (map take_shown takes)
edits_shown [] = refl
edits_shown (take ∷ takes) = ap (λ es. map edit_shown take.edits.items ∷ es) (edits_shown takes)

files_shown : (takes : List Take) → map (λ t. t.file) takes ≡ map (λ (t : TakeShown). t.file) (map take_shown takes)
files_shown [] = refl
files_shown (take ∷ takes) = ap (λ fs. take.file ∷ fs) (files_shown takes)

module _ (order : Ordered) (file : FileShown) (g : Graph) (takes : List Take) (first last : ℕ)
    (same : record { graph = g; takes = map take_shown takes } ≡ ordered_file order file)
    (first_is : first ≡ first_of g order) (last_is : last ≡ last_of g order) where
  graph_same : g ≡ (ordered_file order file).graph
  graph_same = ap (λ (f : FileShown). f.graph) same

  takes_same : map take_shown takes ≡ (ordered_file order file).takes
  takes_same = ap (λ (f : FileShown). f.takes) same

  pub is_reel : IsReelOf order file (reel_with order.scale g takes first last)
  is_reel =
      record {
        scale = refl;
        graph = graph_same;
        edits = edits_shown takes ∙ ap (map (λ (t : TakeShown). t.edits)) takes_same;
        files = files_shown takes ∙ ap (map (λ (t : TakeShown). t.file)) takes_same;
        first = first_is ∙ ap (λ (h : Graph). first_of h order) graph_same;
        count =
            ap (λ a. frame_count a last) first_is ∙ ap (λ b. frame_count (first_of g order) b) last_is
            ∙ ap (λ (h : Graph). frame_count (first_of h order) (last_of h order)) graph_same;
      }

-- ---- its moments

-- what its moments are
abbrev pub plan_of : Graph → List Take → ℕ → ℕ → Ordered → List Use → Plan
plan_of g takes a b order uses =
    record { reel = reel_with order.scale g takes a b; uses = uses; side = order.tile; cache = order.cache }

module _ (q : ℕ) (g : Graph) (takes : List Take) (a b : ℕ) where
  pub uses_of : (uses : List Use)
      → AreUses (wanting meaning_of g (edits_of takes) a (b + 1 - a)) ((b + 1 - a) * (length (edits_of takes) + 1)) uses
      → All (λ u. IsNamedIn g u.wanted) uses → AreUsesOf (reel_with q g takes a b) uses
  uses_of uses moments names = record { moments = moments; names = names }

  -- there are as many moments as frames of all takes
  pub many_moments : moments_in (reel_with q g takes a b) ≡ frame_count a b * (length takes + 1)
  many_moments = ap (λ n. frame_count a b * (n + 1)) (length-map takes (λ t. t.edits.items))

  pub no_moments : b + 1 ≤ a → moments_in (reel_with q g takes a b) ≡ 0
  no_moments low =
      let none : frame_count a b ≡ 0 = omega (arith, low) in
      ap (λ n. n * (length (edits_of takes) + 1)) none ∙ zero-mul (length (edits_of takes) + 1)

-- and they may be made
pub may_begin : (g : Graph) (takes : List Take) (a b : ℕ) (order : Ordered) (uses : List Use) (making : Making) → a ≤ b → b ≤ LAST_FRAME
    → length takes ≤ MOST_TAKES → IsScale order.scale
    → AreUsesOf (reel_with order.scale g takes a b) uses → making.next ≡ 0 → IsMaking (plan_of g takes a b order uses) making
    → MayMake (plan_of g takes a b order uses) uses 0 making
may_begin g takes a b order uses making some low few size are next is =
    record {
      plan = record {
        are = are;
        few = omega (arith, some, low);
        some = omega (arith, some);
        few_takes = takes_low;
        size = size;
      };
      uses_are = refl;
      few = omega (arith, next);
      making = is;
    }
  where
    takes_low : length (edits_of takes) + 1 ≤ MOST_TAKES + 1
    takes_low = let long = length-map takes (λ t. t.edits.items) in omega (arith, long, few)

-- ---- what stands before the first

-- a scene of the graph as it is written, which remembers the takes
abbrev pub first_script : Graph → List Take → Script Shipped
first_script g takes = record { written = g; takes = edits_of takes; take = 0 }

module _ (q : ℕ) (g : Graph) (takes : List Take) (a b : ℕ) (low : a ≤ b) (p : Plan) (reel : p.reel ≡ reel_with q g takes a b)
    (m : Making) (scale : m.scale ≡ q) (script : m.scene.script ≡ first_script g takes) (graph : m.scene.graph ≡ g) (items : m.takes.items ≡ takes) (file : m.file ≡ None)
    (first : m.first ≡ a) (last : m.last ≡ b) (frame : m.frame ≡ a) (next : m.next ≡ 0) where
  abbrev Stands : Reel → Type 0
  Stands r = IsAt (record p { reel = r }) m

  at_first : IsAt p m
  at_first =
      subst Stands (sym reel)
      (record {
        scale = scale;
        written = ap (λ (s : Script Shipped). s.written) script;
        takes = ap (λ (s : Script Shipped). s.takes) script;
        graph = graph ∙ sym (ap (λ (s : Script Shipped). graph_of_take g (edits_of takes) s.take) script);
        left =
            subst (λ (k : ℕ). AreTakesFrom (reel_with q g takes a b) k m.takes.items) (sym (ap (λ (s : Script Shipped). s.take) script))
            (subst (λ (ts : List Take). AreTakesFrom (reel_with q g takes a b) 0 ts) (sym items) (all_takes q g takes a b));
        file =
            ap (λ (f : Option (List ℕ)). pattern_in f g.file) file
            ∙ sym (ap (λ (s : Script Shipped). pattern_at (reel_with q g takes a b) s.take) script);
        first = first;
        last = omega (arith, last, low);
        from = omega (arith, first, frame);
        to = omega (arith, frame, last, low);
        next =
            zero_first (m.scene.script.take * frame_count a b)
            (ap (λ (s : Script Shipped). s.take * frame_count a b) script ∙ zero-mul (frame_count a b));
      })
    where
      zero_first : (x : ℕ) → x ≡ 0 → m.next + m.first ≡ x + m.frame
      zero_first x none = omega (arith, none, first, frame, next)

  pub stands_first : (crew : Crew) → m.crew ≡ Some crew → IsCrew m.scene crew → crew.shared.grid ≡ p.side
      → crew.shared.directory.capacity ≡ p.cache → (p.cache ≡ 0 → crew.shared.wholes.capacity ≡ 0) → seat_weight crew.seat ≡ (0, 0) → m.sum ≡ no_count
      → HoldsScaled p.reel.scale p.uses 0 (seen_by m) m.scene.store → IsMaking p m
  stands_first crew there is side capacity wholes weight sum read =
      record {
        at = at_first;
        read = subst (λ (n : ℕ). HoldsScaled p.reel.scale p.uses n (seen_by m) m.scene.store) (sym next) read;
        crew = crew;
        crew_is = record { there = there; side = side; capacity = capacity; wholes = wholes; weight = weight ∙ sym (ap count_weight sum) };
        knew = record { was = m.scene; is = is; nodes = refl; grown = grown_itself m.scene };
        hold = λ j under. absurd (omega (arith, under, next));
        counted =
            let small = scaled_in p.reel (images_of (seen_by m)) in
            subst (HasCounted p.reel small p.side p.cache m.next) (sym sum) (counted_none p.reel small p.side p.cache m.next next);
      }
