use Rattle.std.proofs.Common.{rules, ◌≡◌, replicate, refl}
use Rattle.std.proofs.lemmas.Grind.{common_steps}
use Rattle.fx_turn.specs.Turning.{first_view}
use Rattle.fx_turn.proofs.Moves.{opens}
use Rattle.fx_turn.proofs.fill.vacant.Goals as goal

pub vacant-requires : goal.vacant-requires
vacant-requires g c =
    let words : c.as_slice.result.now ≡ replicate c.args.count 0 = search (rules, common_steps) in
    let w = first_view g.V.Fits.tally g.V.Fits.claims c.args.start.now in
    rw words (opens g.V.Fits.fits g.V.Fits.tally g.V.Fits.claims _ c.args.count w refl refl refl)
