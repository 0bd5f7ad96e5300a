use Rattle.std.proofs.Common.{rules, List, sym, subst, ◌∙◌}
use Rattle.fx_turn.specs.Turning.{MayStand}
use Rattle.fx_turn.proofs.Lists.{map_Some-inj}
use Rattle.fx_turn.proofs.Moves.{ends}
use Rattle.fx_turn.proofs.fill.empty_out.Goals as goal

pub take_all-requires-clause-slots : goal.take_all-requires-clause-slots
take_all-requires-clause-slots g c = let all = c.requires.all in
    let e = ends g.V.Fits.fits g.V.Fits.tally g.V.Fits.claims _ _ _ _ _ all.2 c.close_with.ensures.values.2 all.0 all.1 in
    (search rules, c.close_with.ensures.values.1, (e.0, e.1))

pub returns-clause-stood : goal.returns-clause-stood
returns-clause-stood g c = let all = c.requires.all in
    let e = ends g.V.Fits.fits g.V.Fits.tally g.V.Fits.claims _ _ _ _ _ all.2 c.close_with.ensures.values.2 all.0 all.1 in
    subst (λ (vs : List g.row.V.Denot). MayStand g.V.Fits.fits g.V.Fits.tally g.V.Fits.claims c.args.slots.shared.key.name.value vs c.args.token.me.0.tally c.args.token.me.0.claims)
    (map_Some-inj _ _ (sym e.1 ∙ sym c.take_all.ensures.0)) e.2
