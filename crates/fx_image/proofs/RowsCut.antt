-- Rows that are cut into their blocks, and put together again.
use Rattle.std.proofs.Common.{ℕ, ◌≡◌, ◌≤◌, ◌<◌, ◌+◌, ◌-◌, ◌*◌, ◌/◌, ◌%◌, min, List, [], ◌++◌, ◌∷◌, length, take, drop, slice_index_or, refl, sym, ap, subst, arith, ◌∙◌, ◌≢◌, ◌⊎◌, inl, inr}
use Rattle.std.proofs.Math.Nat.{suc-mul, mul-le-mul_right, mod-eq_of_lt}
use Rattle.std.proofs.lemmas.Bool.{cases_eq, cases_lt}
use Rattle.std.proofs.lemmas.Nat.{mod_below, div-add-mod', div-mul-add, mod-mul-add, div_below}
use Rattle.std.proofs.lemmas.List.{drop_more, length-drop, length_push, get_or_append_left, get_or_push, get_or_default}
use Rattle.fx_image.specs.Rows.{Raster, row_of, rows_in, HasRows, IsBlock, AreBlocks, HaveRows}
use Rattle.fx_image.proofs.RowsLaws.{rows_apart}
use Rattle.fx_image.proofs.RowsMade.{place_of, get_push}

-- a block of s, with rows of its own
abbrev pub block_alone : Raster → ℕ → List ℕ → Raster
block_alone s rows block = record { pitch = s.pitch; height = rows; step = s.step; blocks = block ∷ [] }

-- s is cut as far as `all` goes: `left` rows are still to come, with the blocks `rest`
pub record CutSoFar (s : Raster) (all : List Raster) (rest : List (List ℕ)) (left : ℕ) : Type 0 where
  pub rest_is : drop (length all) s.blocks ≡ rest
  pub left_is : left ≡ s.height - length all * s.step
  pub few : length all ≤ length s.blocks
  pub cut : (k : ℕ) (d : Raster) → k < length all → slice_index_or all k d ≡ block_alone s (rows_in s k) (slice_index_or s.blocks k [])

-- the next of the items that are left
pub record IsHead {X : Type 0} (xs : List X) (k : ℕ) (x : X) (rest : List X) (d : X) : Type 0 where
  pub there : k < length xs
  pub is : slice_index_or xs k d ≡ x
  pub rest_is : drop (k + 1) xs ≡ rest

pub head_of : {X : Type 0} (xs : List X) (k : ℕ) (x : X) (rest : List X) (d : X) → drop k xs ≡ x ∷ rest → IsHead xs k x rest d
head_of xs k x rest d e =
    let low : k < length xs = omega (arith, length-drop k xs, ap length e) in
    let split = sym (drop_more xs k d low) ∙ e in
    record { there = low; is = ap (λ l. slice_index_or l 0 d) split; rest_is = ap (λ l. drop 1 l) split }

one_more : (n step : ℕ) → (n + 1) * step ≡ n * step + step
one_more n step = omega (arith, suc-mul n step)

-- a row within one block
pub small_div : (r step : ℕ) → r < step → r / step ≡ 0
small_div r step h = omega (arith, div_below r step 1 (omega arith) (omega arith))

pub none_cut : (s : Raster) → CutSoFar s [] s.blocks s.height
none_cut s = record { rest_is = refl; left_is = omega arith; few = omega arith; cut = λ k d low. absurd (omega arith) }

pub cut_more : (s : Raster) (all : List Raster) (rest rest' : List (List ℕ)) (left : ℕ) (block : List ℕ) → CutSoFar s all rest left → rest ≡ block ∷ rest' → CutSoFar s (all ++ block_alone s (min s.step left) block ∷ []) rest' (left - min s.step left)
cut_more s all rest rest' left block done e =
    let head = head_of s.blocks (length all) block rest' [] (done.rest_is ∙ e) in
    let more = length_push all (block_alone s (min s.step left) block) in
    record {
      rest_is = rw more head.rest_is;
      left_is = rw more (omega (arith, one_more (length all) s.step, done.left_is));
      few = rw more (omega (arith, head.there));
      cut = λ k d low. get_push all _ k d _ (λ h. done.cut k d h) (λ q. rw (q, done.left_is, head.is) refl) (rw (sym more) low) (cases_lt k (length all));
    }

-- each block of s has a row
some_left : (s : Raster) (k : ℕ) → HasRows s → k < length s.blocks → k * s.step < s.height
some_left s k has low = omega (arith, has.no_spare, one_more k s.step, mul-le-mul_right s.step low)

pub block_has_rows : (s : Raster) (all : List Raster) (rest rest' : List (List ℕ)) (left : ℕ) (block : List ℕ) → HasRows s → CutSoFar s all rest left → rest ≡ block ∷ rest' → HasRows (block_alone s (min s.step left) block)
block_has_rows s all rest rest' left block has done e =
    let head = head_of s.blocks (length all) block rest' [] (done.rest_is ∙ e) in
    record {
      some_rows = has.some_rows;
      no_spare = omega (arith, has.some_rows, done.left_is, some_left s (length all) has head.there);
      block_there = λ y low. let inside : y < s.step = omega arith in rw (small_div y s.step inside) (omega arith);
      row_there = λ y low.
          let inside : y < s.step = omega arith in
          let here = has.row_there (length all * s.step + y) (omega (arith, done.left_is)) in
          let fits = subst (λ (b : List ℕ). y * s.pitch + s.pitch ≤ length b) head.is (rw (div-mul-add (length all) s.step y inside, mod-mul-add (length all) s.step y inside) at here) in
          rw (small_div y s.step inside, mod-eq_of_lt inside) fits;
    }

blocks_enough : (s : Raster) → HasRows s → (s.height ≡ 0) ⊎ (s.height ≢ 0) → s.height ≤ length s.blocks * s.step
blocks_enough s has (inl e) = omega arith
blocks_enough s has (inr n) =
    let y = s.height - 1 in
    let here = has.block_there y (omega arith) in
    omega (arith, rows_apart (y / s.step) (length s.blocks) s.step here, div-add-mod' y s.step, mod_below y s.step has.some_rows)

fewer : {X : Type 0} (xs : List X) (n : ℕ) → drop n xs ≡ [] → length xs ≤ n
fewer xs n e = omega (arith, length-drop n xs, ap length e)

pub cut_all : (s : Raster) (all : List Raster) (left : ℕ) → HasRows s → CutSoFar s all [] left → AreBlocks s all × HaveRows s all
cut_all s all left has done =
    let enough : s.height ≤ length all * s.step = omega (arith, blocks_enough s has (cases_eq s.height 0), mul-le-mul_right s.step (fewer s.blocks (length all) done.rest_is)) in (
      record {
        enough = enough;
        no_spare = omega (arith, has.no_spare, mul-le-mul_right s.step done.few);
        each = λ k d low. rw (done.cut k d low) (record { pitch = refl; step = refl; height = refl });
      },
      λ y d low.
          let k : y / s.step < length all = div_below y s.step (length all) has.some_rows (omega arith) in
          let inside = mod_below y s.step has.some_rows in
          rw (done.cut (y / s.step) d k, small_div (y % s.step) s.step inside, mod-eq_of_lt inside) refl,
    )

-- the one block of rows that are no more than a block has
abbrev pub first_block : Raster → List ℕ
first_block b = slice_index_or b.blocks 0 []

-- the blocks are those of the rows of `all`, as far as they go; `rest` are still to come
pub record JoinSoFar (all rest : List Raster) (blocks : List (List ℕ)) : Type 0 where
  pub rest_is : drop (length blocks) all ≡ rest
  pub few : length blocks ≤ length all
  pub joined : (k : ℕ) (d : Raster) → k < length blocks → HasRows (slice_index_or all k d) × (slice_index_or blocks k [] ≡ first_block (slice_index_or all k d))

pub none_joined : (all : List Raster) → JoinSoFar all all []
none_joined all = record { rest_is = refl; few = omega arith; joined = λ k d low. absurd (omega arith) }

one_block : (bs : List (List ℕ)) → length bs ≡ 1 → bs ≡ slice_index_or bs 0 [] ∷ []
one_block [] e = absurd (omega arith)
one_block (b ∷ []) e = refl
one_block (b ∷ (c ∷ bs)) e = absurd (omega arith)

join_at : (all : List Raster) (blocks : List (List ℕ)) (b : Raster) (k : ℕ) (d : Raster)
    → (k < length blocks → HasRows (slice_index_or all k d) × (slice_index_or blocks k [] ≡ first_block (slice_index_or all k d))) → HasRows b → slice_index_or all (length blocks) d ≡ b
    → k < length blocks + 1 → (k < length blocks) ⊎ (length blocks ≤ k) → HasRows (slice_index_or all k d) × (slice_index_or (blocks ++ first_block b ∷ []) k [] ≡ first_block (slice_index_or all k d))
join_at all blocks b k d old has e low (inl h) = ((old h).0, get_or_append_left blocks (first_block b ∷ []) [] k h ∙ (old h).1)
join_at all blocks b k d old has e low (inr h) =
    let q : k ≡ length blocks = omega arith in
    rw (q, e) (has, get_or_push blocks (first_block b) [] (length blocks) refl)

two_blocks : (n step : ℕ) → 2 ≤ n → step + step ≤ n * step
two_blocks n step h = omega (arith, mul-le-mul_right step h)

-- rows that are no more than a block has are one block
blocks_are_one : (s b : Raster) (k : ℕ) → IsBlock s k b → HasRows b → k * s.step < s.height → length b.blocks ≡ 1
blocks_are_one s b k is has there = go (cases_lt (length b.blocks) 2)
  where
    some : 0 < b.height
    some = omega (arith, is.height, is.step, has.some_rows)

    go : (length b.blocks < 2) ⊎ (2 ≤ length b.blocks) → length b.blocks ≡ 1
    go (inl low) = omega (arith, has.block_there 0 some)
    go (inr high) = absurd (omega (arith, has.no_spare, two_blocks (length b.blocks) b.step high, is.height, is.step))

pub join_more : (s : Raster) (all rest rest' : List Raster) (blocks : List (List ℕ)) (b : Raster) → AreBlocks s all → JoinSoFar all rest blocks → rest ≡ b ∷ rest' → HasRows b → JoinSoFar all rest' (blocks ++ b.blocks)
join_more s all rest rest' blocks b have done e has =
    let head = head_of all (length blocks) b rest' b (done.rest_is ∙ e) in
    let there : length blocks * s.step < s.height = omega (arith, have.no_spare, one_more (length blocks) s.step, mul-le-mul_right s.step head.there) in
    let one = one_block b.blocks (blocks_are_one s b (length blocks) (subst (λ (x : Raster). IsBlock s (length blocks) x) head.is (have.each (length blocks) b head.there)) has there) in
    rw one
    (record {
      rest_is = rw (length_push blocks (first_block b)) head.rest_is;
      few = rw (length_push blocks (first_block b)) (omega (arith, head.there));
      joined = λ k d low. join_at all blocks b k d (done.joined k d) has (get_or_default all (length blocks) d b head.there ∙ head.is) (rw (sym (length_push blocks (first_block b))) low) (cases_lt k (length blocks));
    })

-- row r of the rows of a block
block_row : (s b : Raster) (k r : ℕ) → IsBlock s k b → r < s.step → row_of b r ≡ take s.pitch (drop (r * s.pitch) (first_block b))
block_row s b k r is inside = rw (is.pitch, is.step, small_div r s.step inside, mod-eq_of_lt inside) refl

block_fits : (s b : Raster) (k r : ℕ) → IsBlock s k b → HasRows b → r < s.step → r < b.height → r * s.pitch + s.pitch ≤ length (first_block b)
block_fits s b k r is has inside low = rw (is.pitch, is.step, small_div r s.step inside, mod-eq_of_lt inside) at (has.row_there r low)

module _ (s : Raster) (all : List Raster) (pos : 0 < s.step) (have : AreBlocks s all) (done : JoinSoFar all [] s.blocks) where
  in_all : (y : ℕ) → y < s.height → y / s.step < length all
  in_all y low = div_below y s.step (length all) pos (omega (arith, have.enough))

  in_blocks : (y : ℕ) → y < s.height → y / s.step < length s.blocks
  in_blocks y low = omega (arith, in_all y low, fewer all (length s.blocks) done.rest_is)

  row_fits_block : (y : ℕ) → y < s.height → (y % s.step) * s.pitch + s.pitch ≤ length (slice_index_or s.blocks (y / s.step) [])
  row_fits_block y low =
      let b = slice_index_or all (y / s.step) s in
      let is = have.each (y / s.step) s (in_all y low) in
      let place = place_of y s.step s.height pos low in
      let known = done.joined (y / s.step) s (in_blocks y low) in
      rw known.1 (block_fits s b (y / s.step) (y % s.step) is known.0 place.0 (omega (arith, is.height, place)))

  pub join_all : HasRows s × HaveRows s all
  join_all = (
    record { some_rows = pos; no_spare = omega (arith, have.no_spare, mul-le-mul_right s.step done.few); block_there = in_blocks; row_there = row_fits_block },
    λ y d low.
        let known = done.joined (y / s.step) d (in_blocks y low) in
        rw (block_row s (slice_index_or all (y / s.step) d) (y / s.step) (y % s.step) (have.each (y / s.step) d (in_all y low)) (place_of y s.step s.height pos low).0, known.1) refl,
  )
