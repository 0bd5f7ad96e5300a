use Rattle.std.proofs.Common.{◌≡◌, ◌∙◌, refl, sym, subst}
use Rattle.std.proofs.lemmas.Option.{same_Some}
use Rattle.fx_modes.specs.declared.crew.Crew.{Crew}
use Rattle.fx_modes.specs.Crews.{IsRenewed}
use Rattle.fx_modes.proofs.making.Making.renew.Goals as goal

pub returns-in-Ok-clause-renewed : goal.returns-in-Ok-clause-renewed
returns-in-Ok-clause-renewed c = λ crew there.
    let same : c.in-Some.crew ≡ crew = same_Some c.in-Some.crew crew (sym c.in-Some.is ∙ c.replace.ensures.value ∙ there) in (
      c.in-Ok.crew,
      refl,
      subst (λ (k : Crew). IsRenewed c.args.self.now.scene k c.in-Ok.crew) same c.in-Ok.ensures.renewed,
    )
