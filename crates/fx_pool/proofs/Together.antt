-- What the workers did together.
use Rattle.std.proofs.Common.{◌≡◌, ℕ, zero, suc, ◌+◌, ◌<◌, List, [], ◌∷◌, All, IsPermutation, false, length, get_or, reverse, sum_by, refl, ap, ◌∙◌, arith}
use Rattle.std.proofs.lemmas.List.{length-map, length-reverse}
use Rattle.std.proofs.lemmas.List.Sums.{sum_by-cons, sum_by-append}
use Rattle.std.proofs.lemmas.List.Sorted.{sum_by-IsPermutation, IsPermutation-reverse, All-permutation}
use Rattle.std.proofs.lemmas.List.Elements.{All-append, All-head, All-tail, All-map, All-same, All-nil}
use Rattle.fx_pool.specs.declared.worker.Worker.{Worker}
use Rattle.fx_pool.specs.Draws.{DrawState}
use Rattle.fx_pool.specs.Weights.{plus, weigh}
use Rattle.fx_pool.specs.Working.{HasEnded, HasWorked, IsFresh, Ready, outs_of, seats_of}

module _ {S D T : Type 0} where
  unmapped : (P : S → Type 0) (ws : List (Worker S D T)) → All P (seats_of ws) → All (λ w. P w.seat) ws
  unmapped P [] all k d h = absurd (omega arith)
  unmapped P (w ∷ ws) all zero d h = all zero w.seat (omega arith)
  unmapped P (w ∷ ws) all (suc k) d h = unmapped P ws (λ i e lt. all (suc i) e (omega arith)) k d (omega arith)

  -- fresh workers with seats that fit are ready
  pub all_ready : (fits : S → Type 0) (d : DrawState D) (ws : List (Worker S D T)) (seats : List S) → seats_of ws ≡ reverse seats → All fits seats → All (IsFresh d) ws → All (Ready fits d) ws
  all_ready fits d ws seats same fit fresh k e h = record {
    fit = unmapped fits ws (All-same fits (seats_of ws) (reverse seats) same (All-permutation fits seats (reverse seats) (IsPermutation-reverse seats) fit)) k e h;
    fresh = fresh k e h;
  }

  all_outs : (P : ℕ × T → Type 0) (ws : List (Worker S D T)) → All (λ w. All P w.outs.items) ws → All P (outs_of ws)
  all_outs P [] all = All-nil P
  all_outs P (w ∷ ws) all = All-append P w.outs.items (outs_of ws) (All-head (λ (v : Worker S D T). All P v.outs.items) w ws all) (all_outs P ws (All-tail (λ (v : Worker S D T). All P v.outs.items) w ws all))

  sum_outs : (g : ℕ × T → ℕ) (ws : List (Worker S D T)) → sum_by g (outs_of ws) ≡ sum_by (λ w. sum_by g w.outs.items) ws
  sum_outs g [] = refl
  sum_outs g (w ∷ ws) = let h = sum_outs g ws in omega (arith, sum_by-append g w.outs.items (outs_of ws), sum_by-cons (λ (v : Worker S D T). sum_by g v.outs.items) w ws)

  sum_each : (f : S → ℕ) (g : ℕ × T → ℕ) (old new : List (Worker S D T)) → length new ≡ length old → ((i : ℕ) (e : Worker S D T) → i < length old → f (get_or new i e).seat ≡ f (get_or old i e).seat + sum_by g (get_or new i e).outs.items)
      → sum_by f (seats_of new) ≡ sum_by f (seats_of old) + sum_by (λ w. sum_by g w.outs.items) new
  sum_each f g [] [] len each = refl
  sum_each f g [] (w ∷ new) len each = absurd (omega arith)
  sum_each f g (v ∷ old) [] len each = absurd (omega arith)
  sum_each f g (v ∷ old) (w ∷ new) len each = let here : f w.seat ≡ f v.seat + sum_by g w.outs.items = each zero w (omega arith) in
      let rest = sum_each f g old new (omega arith) (λ i e h. each (suc i) e (omega arith)) in
      omega (arith, sum_by-cons f w.seat (seats_of new), sum_by-cons f v.seat (seats_of old), sum_by-cons (λ (u : Worker S D T). sum_by g u.outs.items) w new)

  module _ (fits : S → Type 0) (right : ℕ → T → Type 0) (weight : S → ℕ × ℕ) (out_weight : T → ℕ × ℕ) (d : DrawState D) (old new : List (Worker S D T)) (len : length new ≡ length old)
      (each : (i : ℕ) (e : Worker S D T) → i < length old → HasWorked fits right weight out_weight d (get_or old i e) (get_or new i e)) where
    pub all_ended : All (HasEnded d) new
    all_ended i e h = (each i e (omega arith)).ended

    all_fit : All fits (reverse (seats_of new))
    all_fit = All-permutation fits (seats_of new) (reverse (seats_of new)) (IsPermutation-reverse (seats_of new)) (All-map fits (λ (w : Worker S D T). w.seat) new (λ i e h. (each i e (omega arith)).fit))

    -- the seats that came back
    pub all_back : (seats : List S) → seats ≡ reverse (seats_of new) → (length seats ≡ length old) × All fits seats
    all_back seats same = (ap length same ∙ (length-reverse (seats_of new) ∙ (length-map new (λ (w : Worker S D T). w.seat) ∙ len)), All-same fits seats (reverse (seats_of new)) same all_fit)

    pub all_right : (outs : List (ℕ × T)) → IsPermutation (outs_of (reverse new)) outs → All (λ o. right o.0 o.1) outs
    all_right outs same = let P : ℕ × T → Type 0 = λ o. right o.0 o.1 in
        All-permutation P (outs_of (reverse new)) outs same (all_outs P (reverse new)
        (All-permutation (λ (w : Worker S D T). All P w.outs.items) new (reverse new) (IsPermutation-reverse new) (λ i e h. (each i e (omega arith)).outs_right)))

    part : (f : S → ℕ) (g : ℕ × T → ℕ) → ((i : ℕ) (e : Worker S D T) → i < length old → f (get_or new i e).seat ≡ f (get_or old i e).seat + sum_by g (get_or new i e).outs.items)
        → (seats : List S) → seats_of old ≡ reverse seats → (outs : List (ℕ × T)) → IsPermutation (outs_of (reverse new)) outs → sum_by f (reverse (seats_of new)) ≡ sum_by f seats + sum_by g outs
    part f g more seats same outs perm = let a = sum_each f g old new len more in
        let b = sum_by-IsPermutation f (seats_of new) (reverse (seats_of new)) (IsPermutation-reverse (seats_of new)) in
        let c : sum_by f (seats_of old) ≡ sum_by f seats = ap (sum_by f) same ∙ sum_by-IsPermutation f seats (reverse seats) (IsPermutation-reverse seats) in
        let h = sum_by-IsPermutation g (outs_of (reverse new)) outs perm in
        let i = sum_outs g (reverse new) in
        let j = sum_by-IsPermutation (λ (w : Worker S D T). sum_by g w.outs.items) new (reverse new) (IsPermutation-reverse new) in omega arith

    pub all_weigh : All (λ w. w.failed ≡ false) new → (seats : List S) → seats_of old ≡ reverse seats → (outs : List (ℕ × T)) → IsPermutation (outs_of (reverse new)) outs
        → weigh weight (reverse (seats_of new)) ≡ plus (weigh weight seats) (weigh (λ o. out_weight o.1) outs)
    all_weigh works seats same outs perm =
        let first = part (λ s. (weight s).0) (λ o. (out_weight o.1).0) (λ i e h. ap (λ (v : ℕ × ℕ). v.0) ((each i e h).weighs (works i e (omega arith)))) seats same outs perm in
        let second = part (λ s. (weight s).1) (λ o. (out_weight o.1).1) (λ i e h. ap (λ (v : ℕ × ℕ). v.1) ((each i e h).weighs (works i e (omega arith)))) seats same outs perm in
        λ k. (first k, second k)
