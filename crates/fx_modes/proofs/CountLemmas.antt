-- The counts of a run: moment by moment, and as its report tells them.
use Rattle.std.proofs.Common.{◌≡◌, ◌+◌, ◌*◌, ℕ, zero, suc, Bool, List, [], ◌++◌, length, cond, Some, Ok, refl, sym, ap, subst, ◌∙◌, arith}
use Rattle.std.specs.Prelude.{count_by, sum_by}
use Rattle.std.specs.List.{flat_map, range_with_len}
use Rattle.std.proofs.Math.Nat.{mul_comm}
use Rattle.std.proofs.lemmas.List.{append-nil, append_assoc}
use Rattle.std.proofs.lemmas.List.Concat.{flat_map-cons}
use Rattle.std.proofs.lemmas.List.Sums.{sum_by-append, sum_by-cons}
use Rattle.fx_outside.specs.Outside.{Files}
use Rattle.fx_region.specs.Counts.{TileCounts, count_ends, is_asked, is_passed, is_void}
use Rattle.fx_region.specs.Ends.{EndShown}
use Rattle.fx_region.proofs.CountLaws.{sum_of_kinds}
use Rattle.fx_scene.specs.Scenes.{Images}
use Rattle.fx_tile.specs.declared.count.TileCount.{TileCount}
use Rattle.fx_tile.specs.Counts.{both_counts, no_count}
use Rattle.fx_tile.specs.Moments.{CountsTiles}
use Rattle.fx_words.specs.Ordered.{Ordered}
use Rattle.fx_words.specs.Texts.{report_text}
use Rattle.fx_words.specs.declared.order.Mode.{Mode}
use Rattle.fx_words.specs.declared.order.Mode.TheVariants.{Render, Check, Bench, Migrate, Takes, Plan}
use Rattle.fx_modes.specs.Graphs.{FileShown, graph_under, first_of, last_of, frame_count}
use Rattle.fx_modes.specs.Reels.{Reel, takes_for, takes_in}
use Rattle.fx_modes.specs.Run.{IsRenderReport, count_in, lines_for, tile_ends}
use Rattle.fx_modes.specs.Moments.{HasRendered}
use Rattle.fx_modes.specs.Tiles.{HasCounted, ends_in, moment_ends, moment_renders, nodes_in, report_of}
use Rattle.fx_modes.proofs.JobLemmas.{moments_counted, order_here, reel_here, takes_counted}

-- ---- lists of numbers

-- n numbers from a on and one more behind them
flat_more : {A : Type 0} (f : ℕ → List A) (a n t : ℕ) → t ≡ a + n
    → flat_map f (range_with_len a (n + 1)) ≡ flat_map f (range_with_len a n) ++ f t
flat_more f a zero t is =
    let one : zero + 1 ≡ 1 = omega arith in
    let at : a ≡ t = omega (arith, is) in
    ap (λ m. flat_map f (range_with_len a m)) one ∙ flat_map-cons f a [] ∙ append-nil (f a) ∙ ap f at
flat_more f a (suc n) t is =
    let more : suc n + 1 ≡ suc (n + 1) = omega arith in
    ap (λ m. flat_map f (range_with_len a m)) more
    ∙ flat_map-cons f a (range_with_len (a + 1) (n + 1))
    ∙ ap (λ ys. f a ++ ys) (flat_more f (a + 1) n t (omega (arith, is)))
    ∙ sym (append_assoc (f a) (flat_map f (range_with_len (a + 1) n)) (f t))
    ∙ ap (λ ys. ys ++ f t) (sym (flat_map-cons f a (range_with_len (a + 1) n)))

sum_more : (f : ℕ → ℕ) (a n t : ℕ) → t ≡ a + n → sum_by f (range_with_len a (n + 1)) ≡ sum_by f (range_with_len a n) + f t
sum_more f a zero t is =
    let one : zero + 1 ≡ 1 = omega arith in
    let at : a ≡ t = omega (arith, is) in
    let same : f a ≡ f t = ap f at in
    let cons = sum_by-cons f a [] in
    ap (λ m. sum_by f (range_with_len a m)) one ∙ omega (arith, cons, same)
sum_more f a (suc n) t is =
    let more : suc n + 1 ≡ suc (n + 1) = omega arith in
    let all = sum_by-cons f a (range_with_len (a + 1) (n + 1)) in
    let rest = sum_more f (a + 1) n t (omega (arith, is)) in
    let first = sum_by-cons f a (range_with_len (a + 1) n) in
    ap (λ m. sum_by f (range_with_len a m)) more ∙ omega (arith, all, rest, first)

-- ---- what is counted

pub counted_none : (r : Reel) (images : Images) (side cache n : ℕ) → n ≡ 0 → HasCounted r images side cache n no_count
counted_none r images side cache n none =
    subst (λ m. HasCounted r images side cache m no_count) (sym none)
    (record {
      void_tiles = refl;
      passed = refl;
      asked = refl;
      enough = omega arith;
      no_hits = λ nothing. refl;
      none_kept = λ nothing. omega arith;
    })

-- the window tiles of one moment more
pub counted_more : (r : Reel) (images : Images) (side cache n : ℕ) (sum count more : TileCount) → more ≡ both_counts sum count
    → HasCounted r images side cache n sum → CountsTiles (nodes_in r images n) side (moment_ends r images side n) count
    → (cache ≡ 0 → count.hits ≡ 0) → HasCounted r images side cache (n + 1) more
counted_more r images side cache n sum count more adds before one kept =
    subst (HasCounted r images side cache (n + 1)) (sym adds)
    (record {
      void_tiles = of is_void sum.void_tiles count.void_tiles before.void_tiles one.void_tiles;
      passed = of is_passed sum.passed count.passed before.passed one.passed;
      asked = of is_asked sum.asked count.asked before.asked one.asked;
      enough = let first = before.enough in let then = one.enough in omega (arith, first, then);
      no_hits = λ nothing. let first = before.no_hits nothing in let then = kept nothing in omega (arith, first, then);
      none_kept = λ nothing.
          let first = before.none_kept nothing in
          let then = one.none_kept (kept nothing) in
          let renders = sum_more (moment_renders r images side) 0 n n (omega arith) in
          omega (arith, first, then, renders);
    })
  where
    ends : ends_in r images side (n + 1) ≡ ends_in r images side n ++ moment_ends r images side n
    ends = flat_more (moment_ends r images side) 0 n n (omega arith)

    of : (is : EndShown → Bool) (a b : ℕ) → a ≡ count_by is (ends_in r images side n) → b ≡ count_by is (moment_ends r images side n)
        → a + b ≡ count_by is (ends_in r images side (n + 1))
    of is a b first then =
        let split =
        ap (count_by is) ends
        ∙ sum_by-append (λ (e : EndShown). cond (is e) 1 0) (ends_in r images side n) (moment_ends r images side n) in
        omega (arith, first, then, split)

-- ---- the report

-- the lines of a count's report are those of its ends
report_as : (mode : Mode) (takes takes' frames frames' : ℕ) (e : TileCounts) (c : TileCount) → takes ≡ takes' → frames ≡ frames'
    → c.void_tiles + c.passed + c.asked ≡ e.tiles → c.void_tiles ≡ e.void_tiles → c.passed ≡ e.passed → c.asked ≡ e.asked
    → report_text (report_of mode takes frames c) ≡ lines_for mode takes' frames' e c.landed c.hits
report_as mode takes takes' frames frames' e c same_takes same_frames tiles v p q =
    by mode ∙ ap (λ k. lines_for mode k frames e c.landed c.hits) same_takes ∙ ap (λ k. lines_for mode takes' k e c.landed c.hits) same_frames
  where
    counts : record {
      tiles = c.void_tiles + c.passed + c.asked;
      void_tiles = c.void_tiles;
      passed = c.passed;
      asked = c.asked;
    } ≡ e
    counts i = record { tiles = tiles i; void_tiles = v i; passed = p i; asked = q i }

    by : (m : Mode) → report_text (report_of m takes frames c) ≡ lines_for m takes frames e c.landed c.hits
    by Render = ap (λ k. lines_for Render takes frames k c.landed c.hits) counts
    by Check = ap (λ k. lines_for Check takes frames k c.landed c.hits) counts
    by Bench = ap (λ k. lines_for Bench takes frames k c.landed c.hits) counts
    by Migrate = ap (λ k. lines_for Migrate takes frames k c.landed c.hits) counts
    by Takes = ap (λ k. lines_for Takes takes frames k c.landed c.hits) counts
    by Plan = ap (λ k. lines_for Plan takes frames k c.landed c.hits) counts

pub render_is : {tells : Type 0} (order : Ordered) (library old new : Files) (file : FileShown) (takes frames : ℕ) (count : TileCount)
    → graph_under library order.graph ≡ Some (Ok file) → takes ≡ length (takes_for order.mode file.takes) + 1
    → frames ≡ takes * frame_count (first_of file.graph order) (last_of file.graph order)
    → HasRendered tells (Some order) library old new count
    → IsRenderReport (Some order) library (report_text (report_of order.mode takes frames count))
render_is order library old new file takes frames count there takes_are frames_are r =
    let job = r.known.job in
    let n = count_in job in
    let ends = tile_ends job r.images in
    let e = count_ends ends in
    let same : job.order ≡ order = order_here order library file job there in
    let here = reel_here order library file job there in
    let frames_each = frame_count (first_of file.graph order) (last_of file.graph order) in
    let long : takes ≡ takes_in job.reel = takes_are ∙ sym (takes_counted order file job.reel here) in
    let many : frames ≡ n =
    frames_are ∙ mul_comm takes frames_each ∙ ap (λ k. frames_each * k) takes_are ∙ sym (moments_counted order file job.reel here) in
    let kinds = sum_of_kinds ends in
    let v = r.counted.void_tiles in let p = r.counted.passed in let q = r.counted.asked in
    let enough = r.counted.enough in
    record {
      known = r.known;
      images = r.images;
      are = r.are;
      landed = count.landed;
      hits = count.hits;
      told =
          ap (λ (m : Mode). report_text (report_of m takes frames count)) (ap (λ (o : Ordered). o.mode) (sym same))
          ∙ report_as job.order.mode takes (takes_in job.reel) frames n e count long many (omega (arith, kinds, v, p, q)) v p q;
      enough = omega (arith, enough, q);
      none_kept = λ nothing.
          let none = r.counted.no_hits nothing in
          let all = r.counted.none_kept nothing in
          (none, omega (arith, all, q));
    }
