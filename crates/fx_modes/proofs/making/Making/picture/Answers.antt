use Rattle.std.proofs.Common.{◌≡◌, ◌∙◌, Some, refl, sym, subst}
use Rattle.std.proofs.lemmas.Option.{same_Some}
use Rattle.fx_modes.specs.declared.crew.Crew.{Crew}
use Rattle.fx_modes.specs.declared.making.Making.{Making}
use Rattle.fx_modes.specs.Making.{HasDrawn}
use Rattle.fx_modes.proofs.making.Making.picture.Goals as goal

pub returns-clause-drawn : goal.returns-clause-drawn
returns-clause-drawn g c = λ crew there.
    let old = c.args.self.now in
    let is = c.in_ok-image.ensures in
    let new : Making = record old { crew = Some c.picture.new.self; sum = c.in-Some-plus.sum } in
    let drawn : HasDrawn old.frame c.in-Some.crew old new =
    record {
      count = c.in_ok-image.count;
      tiles = is.count;
      none_kept = is.none_kept;
      sum = c.in-Some-plus.ensures.both;
      after = c.picture.new.self;
      there = refl;
      is = is.crew;
      keeps = is.keeps;
    } in
    let same : c.in-Some.crew ≡ crew = same_Some c.in-Some.crew crew (sym c.in-Some.is ∙ there) in
    subst (λ (k : Crew). HasDrawn old.frame k old new) same drawn
