use Rattle.std.proofs.Common.{◌≡◌, ◌≤◌, ◌<◌, ◌⊎◌, inl, inr, ◌+◌, ◌-◌, ℕ, ℤ, false, length, get_or, subst, ◌∙◌, arith, below_more, w64, to_z, of_z, FitsSigned}
use Rattle.std.proofs.lemmas.Int.{to_z-of_z}
use Rattle.std.proofs.lemmas.List.{get_or_default}
use Rattle.fx_base.specs.Rect.{Holds}
use Rattle.fx_effect.specs.Tap.{tap}
use Rattle.fx_effect.specs.Given.{holds_tap}
use Rattle.fx_effect.specs.Placed.{given_piece}
use Rattle.fx_effect.specs.declared.piece.Placed.{Placed}
use Rattle.fx_effect.proofs.PieceLaws.{first_of_near}
use Rattle.fx_effect.proofs.inputs.near_row.Goals as goal
use Rattle.fx_effect.proofs.inputs.near_row.Goals.{then-meets, then-to-eq0, else-to-eq0, else-meets}

-- what lies beside the pieces up to the one that was asked lies beside those up to the one before it
first_found : (from to i j from' to' : ℕ) → to ≡ 0 → from' ≡ i → to' ≡ i + 1 → j < i + 1 → (j < from') ⊎ (to' ≤ j) → (j < i) × ((j < from) ⊎ (to ≤ j))
first_found from to i j from' to' none f t low (inl before) = (omega (arith, before, f), inr (omega (arith, none)))
first_found from to i j from' to' none f t low (inr behind) = absurd (omega (arith, behind, t, low))

next_found : (from to i j from' to' : ℕ) → from ≤ to → to ≤ i → from' ≡ from → to' ≡ i + 1 → j < i + 1 → (j < from') ⊎ (to' ≤ j) → (j < i) × ((j < from) ⊎ (to ≤ j))
next_found from to i j from' to' order up f t low (inl before) = (omega (arith, before, f, order, up), inl (omega (arith, before, f)))
next_found from to i j from' to' order up f t low (inr behind) = absurd (omega (arith, behind, t, low))

passed_by : (from to j from' to' : ℕ) → from' ≡ from → to' ≡ to → (j < from') ⊎ (to' ≤ j) → (j < from) ⊎ (to ≤ j)
passed_by from to j from' to' f t (inl before) = inl (omega (arith, before, f))
passed_by from to j from' to' f t (inr behind) = inr (omega (arith, behind, t))

pub loop-i-preserved : goal.loop-i-preserved
loop-i-preserved c =
    let frame : FitsSigned w64 c.args.frame = c.ranges.frame in
    let row : FitsSigned w64 c.args.y = c.ranges.y in
    let inv = c.loop-i.invariant in
    elim c.if-meets.branch [
      | then-meets w ↦ elim w.if-to-eq0.branch [
        | then-to-eq0 v ↦
            let none : c.loop-i.to ≡ 0 = omega (arith, v.if-to-eq0) in
            let f : c.if-meets.from ≡ c.loop-i.i = w.from-is ∙ v.from-is in
            record {
              order = omega (arith, f, w.to-is);
              up_to = omega (arith, w.to-is);
              none = λ e. absurd (omega (arith, e, w.to-is));
              apart = λ x inside j d low out. let at = first_found c.loop-i.from c.loop-i.to c.loop-i.i j _ _ none f w.to-is low out in inv.apart x inside j d at.0 at.1;
            }
        | else-to-eq0 v ↦
            let f : c.if-meets.from ≡ c.loop-i.from = w.from-is ∙ v.from-is in
            record {
              order = omega (arith, f, w.to-is, inv.order, inv.up_to);
              up_to = omega (arith, w.to-is);
              none = λ e. absurd (omega (arith, e, w.to-is));
              apart = λ x inside j d low out. let at = next_found c.loop-i.from c.loop-i.to c.loop-i.i j _ _ inv.order inv.up_to f w.to-is low out in inv.apart x inside j d at.0 at.1;
            }
      ]
      | else-meets w ↦
          record {
            order = omega (arith, w.from-is, w.to-is, inv.order);
            up_to = omega (arith, w.to-is, inv.up_to);
            none = λ e. omega (arith, w.from-is, inv.none (omega (arith, e, w.to-is)));
            apart = λ x inside j d low out. passed w.if-meets.false x inside j d low (passed_by c.loop-i.from c.loop-i.to j _ _ w.from-is w.to-is out);
          }
    ]
  where
    passed : c.meets.result ≡ false → (x : ℤ) → Holds c.args.rect x (to_z w64 (of_z w64 c.args.y)) → (j : ℕ) (d : Placed) → j < c.loop-i.i + 1 → (j < c.loop-i.from) ⊎ (c.loop-i.to ≤ j)
        → holds_tap (given_piece (get_or c.args.pieces.now j d)) (tap c.args.clip (to_z w64 (of_z w64 c.args.frame)) x (to_z w64 (of_z w64 c.args.y))) ≡ false
    passed miss x inside j d low out =
        let pieces = c.args.pieces.now in
        let i = c.loop-i.i in
        let t = tap c.args.clip (to_z w64 (of_z w64 c.args.frame)) x (to_z w64 (of_z w64 c.args.y)) in
        let some : i < length pieces = omega (arith, c.loop-i-test.true) in
        let this : c.index-pieces-i.result ≡ get_or pieces i d = c.index-pieces-i.is ∙ get_or_default pieces i c.index-pieces-i.result d some in
        let here : holds_tap (given_piece (get_or pieces i d)) t ≡ false =
        subst (λ (p : Placed). holds_tap (given_piece p) t ≡ false) this (c.meets.ensures.apart miss x inside) in
        below_more (λ k. (k < c.loop-i.from) ⊎ (c.loop-i.to ≤ k) → holds_tap (given_piece (get_or pieces k d)) t ≡ false) i
        (λ k less beside. c.loop-i.invariant.apart x inside k d less beside) (λ beside. here) j low out

pub returns-clause-pixels : goal.returns-clause-pixels
returns-clause-pixels c depth k x inside =
    let frame : FitsSigned w64 c.args.frame = c.ranges.frame in
    let row : FitsSigned w64 c.args.y = c.ranges.y in
    let pieces = c.args.pieces.now in
    let from = c.loop-i.from in
    let to = c.loop-i.to in
    let i = c.loop-i.i in
    let order = c.loop-i.invariant.order in
    let apart = simp to_z-of_z at c.loop-i.invariant.apart in
    first_of_near depth k pieces from (to - from) (tap c.args.clip c.args.frame x c.args.y) (λ j d low out. apart x inside j d (omega (arith, low, c.loop-i-test.false)) (outside j out))
  where
    outside : (j : ℕ) → (j < c.loop-i.from) ⊎ (c.loop-i.from + (c.loop-i.to - c.loop-i.from) ≤ j) → (j < c.loop-i.from) ⊎ (c.loop-i.to ≤ j)
    outside j (inl before) = inl before
    outside j (inr behind) = inr (omega (arith, behind))
