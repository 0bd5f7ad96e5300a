use Rattle.std.proofs.Common.{rules, ap, ◌∙◌, subst}
use Rattle.fx_turn.specs.Turning.{Won}
use Rattle.fx_turn.proofs.Keeps.{allows_take, won_of}
use Rattle.fx_turn.proofs.turns.win.Goals as goal

pub compare_exchange-requires : goal.compare_exchange-requires
compare_exchange-requires g c = (
  search rules,
  search rules,
  allows_take g.V.Fits.fits g.V.Fits.tally g.V.Fits.claims _ (g.V.Fits.numbers_differ _) _ _ _ _ (search rules) (search rules) (search rules),
)

pub returns-then-compare_exchange-eq0-clause-won : goal.returns-then-compare_exchange-eq0-clause-won
returns-then-compare_exchange-eq0-clause-won g c =
    let same = c.loop.invariant.1 in
    subst (λ w. Won g.V.Fits.fits g.V.Fits.tally g.V.Fits.claims c.args.place w c.compare_exchange.new.seat.me) (ap (λ m. m.0) same)
    (won_of g.V.Fits.fits g.V.Fits.tally g.V.Fits.claims c.args.slots.now.shared.table_id.slots c.args.place c.compare_exchange.result c.loop.token.me _ c.compare_exchange.ensures.2 c.if-compare_exchange-eq0.true (ap (λ m. m.1) same ∙ c.requires.free.0))
