-- Seats that are split off from the first one, and joined into it again.
use Rattle.std.proofs.Common.{◌≡◌, ◌+◌, ◌-◌, ◌<◌, ℕ, List, [], ◌∷◌, ◌++◌, All, refl, sym, ap, ◌∙◌, subst, arith}
use Rattle.std.specs.List.{sum_by}
use Rattle.std.proofs.lemmas.List.{length_push}
use Rattle.std.proofs.lemmas.List.Elements.{All-head, All-nil, All-push, All-tail}
use Rattle.std.proofs.lemmas.List.Sums.{sum_by-cons, sum_by_push}
use Rattle.fx_directory.specs.Rows.{DirRow}
use Rattle.fx_directory.specs.Seats.{both_made}
use Rattle.fx_pool.specs.Weights.{plus, weigh}
use Rattle.fx_tile.specs.declared.count.TileCount.{TileCount}
use Rattle.fx_tile.specs.declared.name.SceneName.{SceneName}
use Rattle.fx_tile.specs.declared.share.Shared.{Shared}
use Rattle.fx_tile.specs.declared.share.TileSeat.{TileSeat}
use Rattle.fx_tile.specs.Kept.{made_of}
use Rattle.fx_tile.specs.Moments.{IsFree, IsIdle, count_weight, seat_weight}
use Rattle.fx_tile.specs.Seats.{AreAll}

two : (a b c d : ℕ) → a ≡ c → b ≡ d → ◌≡◌ {A = ℕ × ℕ} (a, b) (c, d)
two a b c d first second i = (first i, second i)

-- what seats weigh, and one more
pub weigh_push : {A : Type 0} (f : A → ℕ × ℕ) (xs : List A) (x : A) → weigh f (xs ++ x ∷ []) ≡ plus (weigh f xs) (f x)
weigh_push f xs x =
    two (sum_by (λ y. (f y).0) (xs ++ x ∷ [])) (sum_by (λ y. (f y).1) (xs ++ x ∷ [])) (sum_by (λ y. (f y).0) xs + (f x).0) (sum_by (λ y. (f y).1) xs + (f x).1)
    (sum_by_push (λ y. (f y).0) xs x) (sum_by_push (λ y. (f y).1) xs x)

module _ {E : Type 0} (shared : Shared E) (old new : TileSeat E) (seats : List (TileSeat E)) (seat : TileSeat E) where
  -- the last of the seats was joined into the first one
  pub joined : AreAll shared old (seats ++ seat ∷ []) → IsIdle shared (old.directory.parts + 1) new → All (IsFree shared) seats → AreAll shared new seats
  joined all idle free =
      let more = length_push seats seat in
      let has = all.all in
      let is = idle.parts_are in
      record {
        first_is = subst (λ n. IsIdle shared n new) (sym is) idle;
        free = free;
        all = omega (arith, more, has, is);
      }

  pub joined_weight : made_of new ≡ both_made (made_of old) (made_of seat)
      → plus (seat_weight new) (weigh seat_weight seats) ≡ plus (seat_weight old) (weigh seat_weight (seats ++ seat ∷ []))
  joined_weight both =
      let l = ap (λ m. m.landed) both in
      let h = ap (λ m. m.hits) both in
      let lp = sum_by_push (λ (s : TileSeat E). (seat_weight s).0) seats seat in
      let hp = sum_by_push (λ (s : TileSeat E). (seat_weight s).1) seats seat in
      two _ _ _ _ (omega (arith, l, lp)) (omega (arith, h, hp))

  -- a seat more was split off
  pub split_off : AreAll shared old seats → IsIdle shared (old.directory.parts - 1) new → 0 < old.directory.parts → IsFree shared seat
      → AreAll shared new (seats ++ seat ∷ [])
  split_off all idle some free =
      let more = length_push seats seat in
      let has = all.all in
      let is = idle.parts_are in
      record {
        first_is = subst (λ n. IsIdle shared n new) (sym is) idle;
        free = All-push (IsFree shared) seats seat all.free free;
        all = omega (arith, more, has, is);
      }

-- through free seats of directories that may keep nothing, nothing was found kept
none_found : {E : Type 0} (shared : Shared E) (seats : List (TileSeat E)) → All (IsFree shared) seats → shared.directory.capacity ≡ 0
    → shared.wholes.capacity ≡ 0 → sum_by (λ (s : TileSeat E). (seat_weight s).1) seats ≡ 0
none_found shared [] free none no_whole = refl
none_found shared (s ∷ ss) free none no_whole =
    let first = All-head (IsFree shared) s ss free in
    let rest = none_found shared ss (All-tail (IsFree shared) s ss free) none no_whole in
    let own = first.finds_none (ap (λ d. d.capacity) first.row ∙ none) in
    let whole = first.whole_finds_none (ap (λ d. d.capacity) first.whole_row ∙ no_whole) in
    let one = sum_by-cons (λ z. (seat_weight z).1) s ss in
    omega (arith, own, whole, rest, one)

pub nothing_kept : {E : Type 0} (shared : Shared E) (old new : List (TileSeat E)) (count : TileCount) → All (IsFree shared) old → All (IsFree shared) new
    → weigh seat_weight new ≡ plus (weigh seat_weight old) (count_weight count) → shared.directory.capacity ≡ 0
    → shared.wholes.capacity ≡ 0 → count.hits ≡ 0
nothing_kept shared old new count before after rises none no_whole =
    let first = none_found shared old before none no_whole in
    let last = none_found shared new after none no_whole in
    let more = ap (λ (w : ℕ × ℕ). w.1) rises in
    omega (arith, first, last, more)

-- ---- names that are renewed

module _ {E : Type 0} (shared : Shared E) (first : TileSeat E) (all : AreAll shared first []) (row : DirRow (SceneName E)) where
  is : IsIdle shared first.directory.parts first
  is = all.first_is

  -- all parts are still there once the row of whole images is another with as much room
  pub with_wholes : row.capacity ≡ shared.wholes.capacity
      → AreAll (record shared { wholes = row }) (record first { wholes = record first.wholes { row = row } }) []
  with_wholes room =
      record {
        first_is = record {
          row = is.row;
          parts_are = is.parts_are;
          aloft = is.aloft;
          finds_none = is.finds_none;
          whole_row = refl;
          whole_parts = is.whole_parts;
          whole_aloft = is.whole_aloft;
          whole_finds_none = λ none. is.whole_finds_none (ap (λ d. d.capacity) is.whole_row ∙ sym room ∙ none);
          gates = is.gates;
          gate_parts = is.gate_parts;
          no_turn = is.no_turn;
        };
        free = All-nil (IsFree (record shared { wholes = row }));
        all = all.all;
      }

  -- and once that of tiles is
  pub with_tiles : row.capacity ≡ shared.directory.capacity
      → AreAll (record shared { directory = row }) (record first { directory = record first.directory { row = row } }) []
  with_tiles room =
      record {
        first_is = record {
          row = refl;
          parts_are = is.parts_are;
          aloft = is.aloft;
          finds_none = λ none. is.finds_none (ap (λ d. d.capacity) is.row ∙ sym room ∙ none);
          whole_row = is.whole_row;
          whole_parts = is.whole_parts;
          whole_aloft = is.whole_aloft;
          whole_finds_none = is.whole_finds_none;
          gates = is.gates;
          gate_parts = is.gate_parts;
          no_turn = is.no_turn;
        };
        free = All-nil (IsFree (record shared { directory = row }));
        all = all.all;
      }

-- the same by equations
pub wholes_renewed : {E : Type 0} (shared now : Shared E) (first seat : TileSeat E) → AreAll shared first []
    → now ≡ record shared { wholes = now.wholes } → seat ≡ record first { wholes = record first.wholes { row = now.wholes } }
    → now.wholes.capacity ≡ shared.wholes.capacity → AreAll now seat []
wholes_renewed shared now first seat all rest is room =
    subst (λ (s : Shared _). AreAll s seat []) (sym rest)
    (subst (λ (t : TileSeat _). AreAll (record shared { wholes = now.wholes }) t []) (sym is) (with_wholes shared first all now.wholes room))

pub tiles_renewed : {E : Type 0} (shared now : Shared E) (first seat : TileSeat E) → AreAll shared first []
    → now ≡ record shared { directory = now.directory } → seat ≡ record first { directory = record first.directory { row = now.directory } }
    → now.directory.capacity ≡ shared.directory.capacity → AreAll now seat []
tiles_renewed shared now first seat all rest is room =
    subst (λ (s : Shared _). AreAll s seat []) (sym rest)
    (subst (λ (t : TileSeat _). AreAll (record shared { directory = now.directory }) t []) (sym is) (with_tiles shared first all now.directory room))
