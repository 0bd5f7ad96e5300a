-- What one more turn makes of a worker.
use Rattle.std.proofs.Common.{◌≡◌, ℕ, ◌+◌, ◌∷◌, ◌++◌, [], List, true, All, length, sym, ap, ◌∙◌, subst, arith}
use Rattle.std.proofs.lemmas.List.{map-append, length-append}
use Rattle.std.proofs.lemmas.List.Sums.{sum_by_push}
use Rattle.std.proofs.lemmas.List.Elements.{All-push}
use Rattle.fx_pool.specs.declared.worker.Worker.{Worker}
use Rattle.fx_pool.specs.Draws.{DrawState, DrawSeatState, with_drawn, with_past}
use Rattle.fx_pool.specs.Weights.{plus, weigh}
use Rattle.fx_pool.specs.Working.{HasWorked, IsWorking, numbers_of}

-- what one more of them adds
weigh-push : {A : Type 0} (f : A → ℕ × ℕ) (xs : List A) (x : A) → weigh f (xs ++ x ∷ []) ≡ plus (weigh f xs) (f x)
weigh-push f xs x = λ k. (sum_by_push (λ y. (f y).0) xs x k, sum_by_push (λ y. (f y).1) xs x k)

plus_assoc : (u v w : ℕ × ℕ) → plus (plus u v) w ≡ plus u (plus v w)
plus_assoc u v w = let first : (u.0 + v.0) + w.0 ≡ u.0 + (v.0 + w.0) = omega arith in let second : (u.1 + v.1) + w.1 ≡ u.1 + (v.1 + w.1) = omega arith in λ k. (first k, second k)

module _ {S D T : Type 0} (fits : S → Type 0) (right : ℕ → T → Type 0) (weight : S → ℕ × ℕ) (out_weight : T → ℕ × ℕ) (d : DrawState D) (v w new : Worker S D T) (so_far : IsWorking fits right weight out_weight d v w) where
  -- memory was wanting
  gives_up : fits new.seat → new.draw.draw ≡ d → new.draw.parts ≡ 1 → new.outs.items ≡ w.outs.items → new.failed ≡ true → HasWorked fits right weight out_weight d v new
  gives_up fit draw parts outs failed = record {
    fit = fit;
    ended = record { draw = draw; parts = parts; told = λ works. cc; numbers = λ works. cc };
    outs_right = subst (All (λ (o : ℕ × T). right o.0 o.1)) (sym outs) so_far.outs_right;
    weighs = λ works. cc;
  }

  -- memory was wanting before a number was drawn
  pub stops_before : new.seat ≡ w.seat → new.draw ≡ w.draw → new.outs.items ≡ w.outs.items → new.failed ≡ true → HasWorked fits right weight out_weight d v new
  stops_before seat draw outs failed = gives_up (subst fits (sym seat) so_far.fit) (ap (λ (s : DrawSeatState D). s.draw) (draw ∙ so_far.draw)) (ap (λ (s : DrawSeatState D). s.parts) (draw ∙ so_far.draw)) outs failed

  -- memory was wanting at the turn for the number n
  pub stops_at : (n : ℕ) → fits new.seat → new.draw ≡ with_drawn w.draw n → new.outs.items ≡ w.outs.items → new.failed ≡ true → HasWorked fits right weight out_weight d v new
  stops_at n fit draw outs failed = gives_up fit (ap (λ (s : DrawSeatState D). s.draw) draw ∙ ap (λ (s : DrawSeatState D). s.draw) so_far.draw) (ap (λ (s : DrawSeatState D). s.parts) draw ∙ ap (λ (s : DrawSeatState D). s.parts) so_far.draw) outs failed

  -- no number was left
  pub ends : new.seat ≡ w.seat → (word : ℕ) → new.draw ≡ with_past w.draw word → new.outs.items ≡ w.outs.items → HasWorked fits right weight out_weight d v new
  ends seat word draw outs = record {
    fit = subst fits (sym seat) so_far.fit;
    ended = record {
      draw = ap (λ (s : DrawSeatState D). s.draw) draw ∙ ap (λ (s : DrawSeatState D). s.draw) so_far.draw;
      parts = ap (λ (s : DrawSeatState D). s.parts) draw ∙ ap (λ (s : DrawSeatState D). s.parts) so_far.draw;
      told = λ works. let e = ap (λ (s : DrawSeatState D). length s.past) draw in omega (arith, length-append w.draw.past (word ∷ []));
      numbers = λ works. ap (λ (s : DrawSeatState D). s.drawn) draw ∙ (ap (λ (s : DrawSeatState D). s.drawn) so_far.draw ∙ ap numbers_of (sym outs));
    };
    outs_right = subst (All (λ (o : ℕ × T). right o.0 o.1)) (sym outs) so_far.outs_right;
    weighs = λ works. ap weight seat ∙ (so_far.weighs ∙ ap (λ (os : List (ℕ × T)). plus (weight v.seat) (weigh (λ o. out_weight o.1) os)) (sym outs));
  }

  -- a turn was done for the number n
  pub goes_on : (n : ℕ) (o : T) → fits new.seat → new.draw ≡ with_drawn w.draw n → new.outs.items ≡ w.outs.items ++ (n, o) ∷ [] → right n o → weight new.seat ≡ plus (weight w.seat) (out_weight o) → new.failed ≡ w.failed
      → IsWorking fits right weight out_weight d v new
  goes_on n o fit draw outs is_right rises failed = record {
    fit = fit;
    draw = draw ∙ (ap (λ (s : DrawSeatState D). with_drawn s n) so_far.draw
        ∙ ap (λ (ns : List ℕ). record { draw = d; parts = 1; drawn = ns; past = [] })
        (sym (map-append {A = ℕ × T} {B = ℕ} (λ x. x.0) w.outs.items ((n, o) ∷ [])) ∙ ap numbers_of (sym outs)));
    outs_right = subst (All (λ (x : ℕ × T). right x.0 x.1)) (sym outs) (All-push (λ (x : ℕ × T). right x.0 x.1) w.outs.items (n, o) so_far.outs_right is_right);
    weighs = rises ∙ (ap (λ (u : ℕ × ℕ). plus u (out_weight o)) so_far.weighs
        ∙ (plus_assoc (weight v.seat) (weigh (λ (x : ℕ × T). out_weight x.1) w.outs.items) (out_weight o)
        ∙ ap (plus (weight v.seat)) (sym (weigh-push (λ (x : ℕ × T). out_weight x.1) w.outs.items (n, o)) ∙ ap (weigh (λ (x : ℕ × T). out_weight x.1)) (sym outs))));
    works = failed ∙ so_far.works;
  }
