use Rattle.std.proofs.Common.{rules, ◌≡◌, ◌+◌, ◌∷◌, ◌++◌, [], Option, Some, length, ap, sym, ◌∙◌, subst}
use Rattle.atomic_table.specs.Table.{Me, rest}
use Rattle.fx_turn.specs.declared.rule.View.{View}
use Rattle.fx_turn.specs.Turning.{MayStand}
use Rattle.fx_turn.proofs.Moves.{allows_reach, allows_move}
use Rattle.fx_turn.proofs.fill.move_in.Goals as goal

pub compare_exchange-requires : goal.compare_exchange-requires
compare_exchange-requires g c = let n = c.requires.next in (
  search rules,
  search rules,
  allows_reach g.V.Fits.fits g.V.Fits.tally g.V.Fits.claims _ _ _ _ _ n.moved n.turn n.count n.free (search rules),
)

pub store-requires : goal.store-requires
store-requires g c =
    let n = c.requires.next in
    let M : Type 0 = Me (Option g.row.V.Denot) (View g.row.N.Denot g.row.V.Denot g.row.V-Mark.Denot) in
    let reached = c.compare_exchange.ensures.2 n.moved n.turn n.count n.free in
    let in_hand = c.exchange-found.ensures.3 ∙ ap (λ (m : M). (m.0, (c.args.place, Some c.args.value) ∷ rest m.1)) reached in (
      search rules,
      search rules,
      allows_move g.V.Fits.fits g.V.Fits.tally g.V.Fits.claims _ _ _ _ _ n.moved c.args.value
          (ap (λ (m : M). m.0.turn) in_hand) n.count (ap (λ (m : M). m.1) in_hand) c.requires.place
          (subst (λ (m : M). length n.moved + 1 ≡ c.args.slots.now.shared.table_id.slots → MayStand g.V.Fits.fits g.V.Fits.tally g.V.Fits.claims c.args.slots.now.shared.key.name.value (n.moved ++ c.args.value ∷ []) m.0.tally m.0.claims) (sym in_hand) n.last),
    )
