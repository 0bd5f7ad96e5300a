use Rattle.std.proofs.Common.{◌≡◌, ◌≤◌, ◌<◌, ◌⊎◌, inl, inr, ◌+◌, ◌-◌, ℕ, false, length, get_or, subst, arith, below_more, w64, to_z, of_z, FitsSigned}
use Rattle.std.proofs.lemmas.Int.{to_z-of_z}
use Rattle.std.proofs.lemmas.List.{get_or_default}
use Rattle.fx_effect.specs.Tap.{tap}
use Rattle.fx_effect.specs.Given.{holds_tap}
use Rattle.fx_effect.specs.Placed.{given_piece}
use Rattle.fx_effect.specs.Bands.{IsBand}
use Rattle.fx_effect.specs.declared.bands.Band.{Band}
use Rattle.fx_effect.proofs.PieceLaws.{first_of_near}
use Rattle.fx_effect.proofs.BandLaws.{blank, beside_fewer, not_beside, is_max}
use Rattle.fx_effect.proofs.bands.pieces_in_row.Goals as goal
use Rattle.fx_effect.proofs.bands.pieces_in_row.Goals.{then-has_row, else-has_row}

pub loop-band-preserved : goal.loop-band-preserved
loop-band-preserved c =
    let bands = c.args.bands.now in
    let i = c.loop-band.band-index in
    let some : i < length bands = c.loop-band-test.true in
    let inv = c.loop-band.invariant in
    let this : IsBand c.args.pieces.now (get_or bands i blank) = c.requires.bands.each i blank some in
    elim c.if-has_row.branch [
      | then-has_row w ↦
          let most = is_max c.loop-band.to (get_or bands i blank).to in
          let low : c.if-has_row.from ≤ c.loop-band.from = omega (arith, w.from-is, w.min-from.ensures) in
          let high : c.loop-band.to ≤ c.if-has_row.to = omega (arith, w.to-is, w.max-to.ensures, most.one) in
          let first : (b : Band) → c.if-has_row.from ≤ (get_or bands i b).from =
          λ b. subst (λ (z : Band). c.if-has_row.from ≤ z.from) (get_or_default bands i blank b some) (omega (arith, w.from-is, w.min-from.ensures)) in
          let end : (b : Band) → (get_or bands i b).to ≤ c.if-has_row.to =
          λ b. subst (λ (z : Band). z.to ≤ c.if-has_row.to) (get_or_default bands i blank b some) (omega (arith, w.to-is, w.max-to.ensures, most.other)) in
          record {
            room = omega (arith, w.to-is, w.max-to.ensures, most.least (length c.args.pieces.now) inv.room this.there);
            apart = λ x k less b j d from to out.
                below_more (λ m. (get_or bands m b).from ≤ j → j < (get_or bands m b).to → holds_tap (given_piece (get_or c.args.pieces.now j d)) (tap c.args.clip (to_z w64 (of_z w64 c.args.frame)) x (to_z w64 (of_z w64 c.args.y))) ≡ false) i
                (λ m before f t. inv.apart x m before b j d f t (beside_fewer c.loop-band.from c.loop-band.to _ _ j low high out))
                (λ f t. absurd (not_beside (get_or bands i b).from (get_or bands i b).to _ _ j (first b) (end b) f t out)) k less from to;
          }
      | else-has_row w ↦
          let low : c.if-has_row.from ≤ c.loop-band.from = omega (arith, w.from-is) in
          let high : c.loop-band.to ≤ c.if-has_row.to = omega (arith, w.to-is) in
          record {
            room = omega (arith, w.to-is, inv.room);
            apart = λ x k less b j d from to out.
                below_more (λ m. (get_or bands m b).from ≤ j → j < (get_or bands m b).to → holds_tap (given_piece (get_or c.args.pieces.now j d)) (tap c.args.clip (to_z w64 (of_z w64 c.args.frame)) x (to_z w64 (of_z w64 c.args.y))) ≡ false) i
                (λ m before f t. inv.apart x m before b j d f t (beside_fewer c.loop-band.from c.loop-band.to _ _ j low high out))
                (λ f t. let same = get_or_default bands i b blank some in c.has_row.ensures w.if-has_row.false _ (this.same j d (subst (λ (z : Band). z.from ≤ j) same f) (subst (λ (z : Band). j < z.to) same t)) x) k less from to;
          }
    ]

pub returns-clause-pixels : goal.returns-clause-pixels
returns-clause-pixels c depth k x =
    let frame : FitsSigned w64 c.args.frame = c.ranges.frame in
    let row : FitsSigned w64 c.args.y = c.ranges.y in
    let apart = simp to_z-of_z at c.loop-band.invariant.apart in
    first_of_near depth k c.args.pieces.now c.min.result (c.loop-band.to - c.min.result) (tap c.args.clip c.args.frame x c.args.y)
    (λ j d low out. let has = c.requires.bands.all j low in apart x has.band (omega (arith, has.there, c.loop-band-test.false)) blank j d (has.from blank) (has.to blank) (outside j out))
  where
    outside : (j : ℕ) → (j < c.min.result) ⊎ (c.min.result + (c.loop-band.to - c.min.result) ≤ j) → (j < c.loop-band.from) ⊎ (c.loop-band.to ≤ j)
    outside j (inl before) = inl (omega (arith, before, c.min.ensures))
    outside j (inr behind) = inr (omega (arith, behind, c.min.ensures))
