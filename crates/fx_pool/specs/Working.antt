-- What a worker begins with, and what it has done.
use Rattle.std.specs.Prelude.{◌≡◌, ℕ, ◌<◌, false, List, [], map, length, flat_map, All, Option, slice_index_or}
use Rattle.std.specs.List.{range_with_len}
use Rattle.fx_pool.specs.declared.worker.Worker.{Worker}
use Rattle.fx_pool.specs.Draws.{DrawState, DrawSeatState, IsItem}
use Rattle.fx_pool.specs.Weights.{plus, weigh}

-- the numbers below the count, rising
abbrev pub numbers_below : ℕ → List ℕ
numbers_below count = range_with_len 0 count

abbrev pub numbers_of : {T : Type 0} → List (ℕ × T) → List ℕ
numbers_of outs = map (λ o. o.0) outs

-- a seat with one part, which has drawn nothing
abbrev pub fresh_seat : {D : Type 0} → DrawState D → DrawSeatState D
fresh_seat d = record { draw = d; parts = 1; drawn = []; past = [] }

module _ {S D T : Type 0} where
  -- a worker that has not begun
  pub record IsFresh (d : DrawState D) (w : Worker S D T) : Type 0 where
    pub draw : w.draw ≡ fresh_seat d
    pub outs : w.outs.items ≡ []
    pub works : w.failed ≡ false

  -- A worker that has ended. Where memory was not wanting, it was told that no number is left, and its outs are those
  -- of the numbers that it drew
  pub record HasEnded (d : DrawState D) (w : Worker S D T) : Type 0 where
    pub draw : w.draw.draw ≡ d
    pub parts : w.draw.parts ≡ 1
    pub told : w.failed ≡ false → 0 < length w.draw.past
    pub numbers : w.failed ≡ false → w.draw.drawn ≡ numbers_of w.outs.items

  abbrev pub seats_of : List (Worker S D T) → List S
  seats_of ws = map (λ w. w.seat) ws

  abbrev pub outs_of : List (Worker S D T) → List (ℕ × T)
  outs_of ws = flat_map (λ w. w.outs.items) ws

  module _ (fits : S → Type 0) where
    -- ready to work
    pub record Ready (d : DrawState D) (w : Worker S D T) : Type 0 where
      pub fit : fits w.seat
      pub fresh : IsFresh d w

    module _ (right : ℕ → T → Type 0) (weight : S → ℕ × ℕ) (out_weight : T → ℕ × ℕ) where
      -- what a worker v has become so far
      pub record IsWorking (d : DrawState D) (v w : Worker S D T) : Type 0 where
        pub fit : fits w.seat
        pub draw : w.draw ≡ record (fresh_seat d) { drawn = numbers_of w.outs.items }
        pub outs_right : All (λ o. right o.0 o.1) w.outs.items
        pub weighs : weight w.seat ≡ plus (weight v.seat) (weigh (λ o. out_weight o.1) w.outs.items)
        pub works : w.failed ≡ false

      -- what a worker v has become in the end
      pub record HasWorked (d : DrawState D) (v w : Worker S D T) : Type 0 where
        pub fit : fits w.seat
        pub ended : HasEnded d w
        pub outs_right : All (λ o. right o.0 o.1) w.outs.items
        pub weighs : w.failed ≡ false → weight w.seat ≡ plus (weight v.seat) (weigh (λ o. out_weight o.1) w.outs.items)

module _ {I : Type 0} where
  module _ {T : Type 0} (right : ℕ → I → I → T → Type 0) where
    -- what a turn made with the item of the number n: the item as it is now, and the out
    abbrev pub MadeRight : List (Option I) → ℕ → I × T → Type 0
    MadeRight slots n made = (item : I) × IsItem slots n item × right n item made.0 made.1

    -- what a worker v that takes items has become in the end
    pub record HasWorkedItems {S : Type 0} (fits : S → Type 0) (weight : S → ℕ × ℕ) (out_weight : T → ℕ × ℕ)
        (d : DrawState (Option I)) (v w : Worker S (Option I) (I × T)) : Type 0 where
      pub worked : HasWorked fits (MadeRight d.items) weight (λ made. out_weight made.1) d v w

    -- each out is right for its index, the item before and the item after
    abbrev pub EachRight : List I → List I → List T → Type 0
    EachRight before after outs =
        (k : ℕ) (i : I) (o : T) → k < length before
        → right k (slice_index_or before k i) (slice_index_or after k i) (slice_index_or outs k o)
