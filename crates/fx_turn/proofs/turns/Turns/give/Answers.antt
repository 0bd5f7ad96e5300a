use Rattle.std.proofs.Common.{◌≡◌, ◌<◌, ◌∷◌, ℕ, List, Option, Some, sym, ap, ◌∙◌, subst, arith}
use Rattle.atomic_table.specs.Table.{Me, rest}
use Rattle.atomic_table.specs.Seated.{TableId}
use Rattle.fx_turn.specs.declared.rule.View.{View}
use Rattle.fx_turn.specs.declared.rule.Turn.TheVariants.{Has}
use Rattle.fx_turn.specs.Tallies.{IsAtMost}
use Rattle.fx_turn.specs.Claims.{OnlyOwnLeft}
use Rattle.fx_turn.specs.Seats.{after_turn}
use Rattle.fx_turn.specs.Turning.{given}
use Rattle.fx_turn.specs.Sitting.{IsSeat, seat_view}
use Rattle.fx_turn.proofs.Keeps.{allows_give}
use Rattle.fx_turn.proofs.Sittings.{same_table, has_turn, given_sits, given_shows, some_and, and_some, if_some, if_some_is}
use Rattle.fx_turn.proofs.turns.Turns.give.Goals as goal

pub store-requires : goal.store-requires
store-requires g c =
    let M : Type 0 = Me (Option g.row.V.Denot) (View g.row.N.Denot g.row.V.Denot g.row.V-Mark.Denot) in
    let parts = c.into_parts-value in
    let took = some_and c.args.seat.now.turn (λ t. t.0 ≡ c.args.held.slot) c.requires.took in
    let before = took.0.1 in
    let has = has_turn _ _ _ took.0.0 before c.seat.invariant (ap (λ s. s.turn) c.seat.view_is ∙ took.1) in
    let place : took.0.0 ≡ parts.result.1 = took.2 ∙ sym parts.ensures.1 in
    let in_hand = c.exchange-found.ensures.3 ∙ ap (λ (z : List (ℕ × Option g.row.V.Denot)). (c.seat.inside.token.me.0, (parts.result.1, Some parts.result.0) ∷ rest z)) has.1 in
    let row = ap (λ s. s.row) c.seat.view_is ∙ (c.requires.row ∙ sym c.self.view_is) in
    let name = ap (λ r. r.name) c.self.view_is in
    let mine = ap (λ (m : M). m.0.claims) in_hand ∙ ap (λ s. s.claims) c.seat.view_is in
    let rises = if_some _ (λ t. IsAtMost (g.V.Fits.tally t.1) (g.V.Fits.tally c.args.held.value)) took.0 c.requires.rises took.1 in
    let leaves = if_some _ (λ t. OnlyOwnLeft c.args.seat.now.claims (g.V.Fits.claims t.1) (g.V.Fits.claims c.args.held.value)) took.0 c.requires.leaves took.1 in (
      c.exchange-found.ensures.0 ∙ same_table _ _ _ _ row,
      (let inside = c.seat.invariant.within took.0.0 before (ap (λ s. s.turn) c.seat.view_is ∙ took.1) in let same = ap (λ (z : TableId). z.slots) (same_table _ _ _ _ row) in let words = c.self.invariant.words in omega arith),
      allows_give g.V.Fits.fits g.V.Fits.tally g.V.Fits.claims _ (g.V.Fits.numbers_differ _) _ _ _ _ before parts.result.0
          (ap (λ (m : M). m.0.turn) in_hand ∙ (has.0 ∙ ap (λ k. Has k before) place))
          (ap (λ (m : M). m.1) in_hand)
          (rw (name, parts.ensures.0) c.requires.fit)
          (rw parts.ensures.0 rises)
          (rw (mine, parts.ensures.0) leaves)
          (rw (parts.ensures.0, ap (λ r. r.slots) c.self.view_is) c.requires.plain),
    )

pub invariant_of-seat : goal.invariant_of-seat
invariant_of-seat g c =
    let M : Type 0 = Me (Option g.row.V.Denot) (View g.row.N.Denot g.row.V.Denot g.row.V-Mark.Denot) in
    let parts = c.into_parts-value in
    let took = some_and c.args.seat.now.turn (λ t. t.0 ≡ c.args.held.slot) c.requires.took in
    let before = took.0.1 in
    let has = has_turn _ _ _ took.0.0 before c.seat.invariant (ap (λ s. s.turn) c.seat.view_is ∙ took.1) in
    let place : took.0.0 ≡ parts.result.1 = took.2 ∙ sym parts.ensures.1 in
    let in_hand = c.exchange-found.ensures.3 ∙ ap (λ (z : List (ℕ × Option g.row.V.Denot)). (c.seat.inside.token.me.0, (parts.result.1, Some parts.result.0) ∷ rest z)) has.1 in
    let after = c.store.ensures.2 before parts.result.0 (ap (λ (m : M). m.0.turn) in_hand ∙ (has.0 ∙ ap (λ k. Has k before) place)) (ap (λ (m : M). m.1) in_hand) in
    subst (λ (m : M). IsSeat c.seat.inside.name.value c.store.new.seat.table_id m) (sym after)
    (given_sits g.V.Fits.tally g.V.Fits.claims _ _ c.exchange-found.new.seat.me.0 before parts.result.0
    (ap (λ (m : M). m.0.name) in_hand ∙ c.seat.invariant.named)
    (subst (λ (m : M). 0 < m.0.parts) (sym in_hand) c.seat.invariant.some_part))

pub returns : goal.returns
returns g c =
    let M : Type 0 = Me (Option g.row.V.Denot) (View g.row.N.Denot g.row.V.Denot g.row.V-Mark.Denot) in
    let parts = c.into_parts-value in
    if_some_is _ _ (λ took shown.
    let has = has_turn _ _ _ took.0 took.1 c.seat.invariant (ap (λ s. s.turn) c.seat.view_is ∙ shown) in
    let place : took.0 ≡ parts.result.1 = and_some c.args.seat.now.turn (λ t. t.0 ≡ c.args.held.slot) took c.requires.took shown ∙ sym parts.ensures.1 in
    let in_hand = c.exchange-found.ensures.3 ∙ ap (λ (z : List (ℕ × Option g.row.V.Denot)). (c.seat.inside.token.me.0, (parts.result.1, Some parts.result.0) ∷ rest z)) has.1 in
    let after = c.store.ensures.2 took.1 parts.result.0 (ap (λ (m : M). m.0.turn) in_hand ∙ (has.0 ∙ ap (λ k. Has k took.1) place)) (ap (λ (m : M). m.1) in_hand) in
    let shows : seat_view c.seat.inside.name.value c.store.new.seat.table_id c.store.new.seat.me.0 ≡ after_turn g.V.Fits.tally g.V.Fits.claims took.1 c.args.held.value c.args.seat.now =
    given_shows g.V.Fits.tally g.V.Fits.claims c.seat.inside.name.value c.seat.inside.token.table_id c.store.new.seat.table_id c.seat.inside.token.me.0 c.store.new.seat.me.0 took.1 c.args.held.value c.args.seat.now
    (c.store.ensures.0 ∙ c.exchange-found.ensures.0)
    (ap (λ (m : M). m.0) after ∙ (λ q. given g.V.Fits.tally g.V.Fits.claims took.1 (parts.ensures.0 q) (in_hand q).0))
    c.seat.view_is in
    shows)
