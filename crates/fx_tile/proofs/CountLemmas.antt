-- Counts of tiles add up: of each tile by where it is found, and of two lists of tiles together.
use Rattle.std.proofs.Common.{◌≡◌, ℕ, ◌≤◌, ◌+◌, List, [], ◌∷◌, ◌++◌, map, cond, refl, sym, subst, arith, inl, inr, ◌⊎◌, All}
use Rattle.std.proofs.lemmas.List.Elements.{All-head, All-tail}
use Rattle.std.proofs.lemmas.List.Sums.{sum_by-append, sum_by-cons}
use Rattle.fx_effect.specs.Meaning.{Meaning}
use Rattle.fx_scene.specs.Nodes.{Nodes}
use Rattle.fx_scene.specs.Sites.{scene_nodes}
use Rattle.fx_region.specs.Counts.{is_asked, is_passed, is_void}
use Rattle.fx_region.specs.Ends.{EndShown, Frame, Render, Void, end_of}
use Rattle.fx_tile.specs.declared.count.TileCount.{TileCount}
use Rattle.fx_tile.specs.declared.found.FoundTile.{FoundTile}
use Rattle.fx_tile.specs.declared.setup.Setup.{Setup}
use Rattle.fx_tile.specs.Counts.{CountsEnd, CountsWay, both_counts, no_count}
use Rattle.fx_tile.specs.Moments.{CountsTiles, IsFoundTile, count_of_all, rects_of}
use Rattle.fx_tile.specs.Setups.{end_renders}

-- ---- one tile

void_is : (end : EndShown) (n : TileCount) → CountsEnd end n → n.void_tiles ≡ cond (is_void end) 1 0
void_is Void n is = is.0
void_is (Frame node frame region through) n is = is.0
void_is (Render node frame region cut through) n is = is.0

passed_is : (end : EndShown) (n : TileCount) → CountsEnd end n → n.passed ≡ cond (is_passed end) 1 0
passed_is Void n is = is.1
passed_is (Frame node frame region through) n is = is.1
passed_is (Render node frame region cut through) n is = is.1

asked_is : (end : EndShown) (n : TileCount) → CountsEnd end n → n.asked ≡ cond (is_asked end) 1 0
asked_is Void n is = is.2
asked_is (Frame node frame region through) n is = is.2
asked_is (Render node frame region cut through) n is = is.2

some_by : (r landed hits : ℕ) → ((landed ≡ 0) × (hits ≡ 1)) ⊎ ((1 ≤ landed) × (1 + r ≤ landed + hits)) → 1 ≤ landed + hits
some_by r landed hits (inl kept) = let one = kept.1 in omega (arith, one)
some_by r landed hits (inr made) = let some = made.0 in omega (arith, some)

all_by : (r landed hits : ℕ) → ((landed ≡ 0) × (hits ≡ 1)) ⊎ ((1 ≤ landed) × (1 + r ≤ landed + hits)) → hits ≡ 0 → 1 + r ≤ landed
all_by r landed hits (inl kept) none = let one = kept.1 in absurd (omega (arith, one, none))
all_by r landed hits (inr made) none = let all = made.1 in omega (arith, all, none)

module _ (nodes : Nodes) (side : ℕ) where
  enough : (end : EndShown) (n : TileCount) → CountsEnd end n → CountsWay (end_renders nodes side end) n → n.asked ≤ n.landed + n.hits
  enough Void n is way = let none = is.2 in omega (arith, none)
  enough (Frame node frame region through) n is way = let none = is.2 in omega (arith, none)
  enough (Render node frame region cut through) n is way =
      let one = is.2 in let some = some_by _ n.landed n.hits (way one) in omega (arith, one, some)

  all_landed : (end : EndShown) (n : TileCount) → CountsEnd end n → CountsWay (end_renders nodes side end) n → n.hits ≡ 0
      → n.asked + end_renders nodes side end ≤ n.landed
  all_landed Void n is way none = let no = is.2 in omega (arith, no)
  all_landed (Frame node frame region through) n is way none = let no = is.2 in omega (arith, no)
  all_landed (Render node frame region cut through) n is way none =
      let one = is.2 in
      let all = all_by (end_renders nodes side (Render node frame region cut through)) n.landed n.hits (way one) none in
      omega (arith, one, all)

  -- ---- lists of tiles

  pub counts_none : CountsTiles nodes side [] no_count
  counts_none = record { void_tiles = refl; passed = refl; asked = refl; enough = omega arith; none_kept = λ none. omega arith }

  pub counts_one : (end : EndShown) (n : TileCount) → CountsEnd end n → CountsWay (end_renders nodes side end) n → CountsTiles nodes side (end ∷ []) n
  counts_one end n is way =
      let v = sum_by-cons (λ (z : EndShown). cond (is_void z) 1 0) end [] in
      let p = sum_by-cons (λ (z : EndShown). cond (is_passed z) 1 0) end [] in
      let a = sum_by-cons (λ (z : EndShown). cond (is_asked z) 1 0) end [] in
      let r = sum_by-cons (end_renders nodes side) end [] in
      let v1 = void_is end n is in let p1 = passed_is end n is in let a1 = asked_is end n is in
      record {
        void_tiles = omega (arith, v, v1);
        passed = omega (arith, p, p1);
        asked = omega (arith, a, a1);
        enough = enough end n is way;
        none_kept = λ none. let all = all_landed end n is way none in omega (arith, r, all);
      }

  pub counts_both : (xs ys : List EndShown) (a b : TileCount) → CountsTiles nodes side xs a → CountsTiles nodes side ys b → CountsTiles nodes side (xs ++ ys) (both_counts a b)
  counts_both xs ys a b m n =
      let v = sum_by-append (λ (z : EndShown). cond (is_void z) 1 0) xs ys in
      let p = sum_by-append (λ (z : EndShown). cond (is_passed z) 1 0) xs ys in
      let q = sum_by-append (λ (z : EndShown). cond (is_asked z) 1 0) xs ys in
      let r = sum_by-append (end_renders nodes side) xs ys in
      let v1 = m.void_tiles in let v2 = n.void_tiles in
      let p1 = m.passed in let p2 = n.passed in
      let q1 = m.asked in let q2 = n.asked in
      let e1 = m.enough in let e2 = n.enough in
      record {
        void_tiles = omega (arith, v, v1, v2);
        passed = omega (arith, p, p1, p2);
        asked = omega (arith, q, q1, q2);
        enough = omega (arith, e1, e2);
        none_kept = λ (none : a.hits + b.hits ≡ 0).
            let first = m.none_kept (omega (arith, none)) in
            let rest = n.none_kept (omega (arith, none)) in
            omega (arith, r, first, rest);
      }

pub count_cons : (f : ℕ × FoundTile) (fs : List (ℕ × FoundTile)) → count_of_all (f ∷ fs) ≡ both_counts f.1.count (count_of_all fs)
count_cons f fs i =
    record {
      void_tiles = sum_by-cons (λ (g : ℕ × FoundTile). g.1.count.void_tiles) f fs i;
      passed = sum_by-cons (λ (g : ℕ × FoundTile). g.1.count.passed) f fs i;
      asked = sum_by-cons (λ (g : ℕ × FoundTile). g.1.count.asked) f fs i;
      landed = sum_by-cons (λ (g : ℕ × FoundTile). g.1.count.landed) f fs i;
      hits = sum_by-cons (λ (g : ℕ × FoundTile). g.1.count.hits) f fs i;
    }

-- the tiles that were found count what becomes of them
pub counts_found : {E : Type 0} {c e : _} (meaning : E → Meaning) (setup : Setup E c e) (frame : _) (found : List (ℕ × FoundTile))
    → All (λ f. IsFoundTile meaning setup frame f.1) found
    → let nodes = scene_nodes meaning setup.scene.now in
    CountsTiles nodes setup.shared.now.grid (map (end_of nodes setup.scene.now.graph.output frame) (rects_of found)) (count_of_all found)
counts_found meaning setup frame [] each = counts_none (scene_nodes meaning setup.scene.now) setup.shared.now.grid
counts_found meaning setup frame (f ∷ fs) each =
    let nodes = scene_nodes meaning setup.scene.now in
    let side = setup.shared.now.grid in
    let end = end_of nodes setup.scene.now.graph.output frame in
    let is = All-head (λ (g : ℕ × FoundTile). IsFoundTile meaning setup frame g.1) f fs each in
    let rest = counts_found meaning setup frame fs (All-tail (λ (g : ℕ × FoundTile). IsFoundTile meaning setup frame g.1) f fs each) in
    subst (CountsTiles nodes side (map end (rects_of (f ∷ fs)))) (sym (count_cons f fs))
    (counts_both nodes side (end f.1.tile ∷ []) (map end (rects_of fs)) f.1.count (count_of_all fs)
    (counts_one nodes side (end f.1.tile) f.1.count is.count is.way) rest)
