use Rattle.std.proofs.Common.{◌≡◌, ap, ◌∙◌, subst}
use Rattle.fx_directory.specs.Rows.{DirRow}
use Rattle.fx_directory.specs.Seats.{AddsUp, DirSeatState, totals_of}
use Rattle.fx_directory.specs.Sitting.{made_of}
use Rattle.fx_directory.proofs.Closing.{Ended, ended, totals_are, sums}
use Rattle.fx_directory.proofs.directory.Directory.close.Goals as goal
use Rattle.fx_directory.proofs.directory.Directory.close.Goals.{After-the_core}
use Rattle.fx_directory.proofs.directory.Directory.close.Given.{Over}

module _ (g : Over) (c : After-the_core g) where
  end : Ended g.K.PartialEq.eq g.V.Suits.suits c.self.inside.turns.name c.the_core.result (made_of c.seat.inside.seat.tally)
  end = ended g.K.PartialEq.eq g.V.Suits.suits c.self.inside.turns.name c.in-Ok.cores.items c.the_core.result c.seat.inside.seat.tally c.seat.inside.seat.claims c.the_core.ensures c.in-Ok.ensures.fit c.in-Ok.ensures.tally c.in-Ok.ensures.claims
      (ap (λ (z : DirSeatState g.row.N.Denot g.row.K.Denot). z.aloft) c.seat.view_is ∙ c.requires.ended)

  scene : c.self.inside.turns.name.scene ≡ c.args.self.scene
  scene = ap (λ (z : DirRow g.row.N.Denot). z.scene) c.self.view_is

  capacity : c.self.inside.turns.name.capacity ≡ c.args.self.capacity
  capacity = ap (λ (z : DirRow g.row.N.Denot). z.capacity) c.self.view_is

  made : made_of c.seat.inside.seat.tally ≡ c.args.seat.made
  made = ap (λ (z : DirSeatState g.row.N.Denot g.row.K.Denot). z.made) c.seat.view_is

pub finish-requires : goal.finish-requires
finish-requires g c = (end g (goal.at.finish-requires g c).After-the_core).flying

pub returns-in-Ok-clause-permit : goal.returns-in-Ok-clause-permit
returns-in-Ok-clause-permit g c =
    let b = (goal.at.returns-in-Ok-clause-permit g c).After-the_core in
    c.finish.ensures.permit ∙ ((end g b).fit.scene ∙ scene g b)

pub returns-in-Ok-clause-totals : goal.returns-in-Ok-clause-totals
returns-in-Ok-clause-totals g c =
    let b = (goal.at.returns-in-Ok-clause-totals g c).After-the_core in
    let inside = totals_are g.K.PartialEq.eq g.V.Suits.suits c.self.inside.turns.name c.the_core.result (made_of c.seat.inside.seat.tally) (end g b) in
    c.finish.ensures.totals ∙ (inside ∙ (λ i. totals_of (capacity g b i) (made g b i)))

pub returns-in-Ok-clause-sums : goal.returns-in-Ok-clause-sums
returns-in-Ok-clause-sums g c =
    let b = (goal.at.returns-in-Ok-clause-sums g c).After-the_core in
    subst AddsUp (made g b) (sums g.K.PartialEq.eq g.V.Suits.suits c.self.inside.turns.name c.the_core.result (made_of c.seat.inside.seat.tally) (end g b))
