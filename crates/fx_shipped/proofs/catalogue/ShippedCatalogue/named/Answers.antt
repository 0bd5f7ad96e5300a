use Rattle.std.proofs.Common.{◌∙◌, ap, sym}
use Rattle.std.specs.Str.{bytes_eq}
use Rattle.fx_shipped.specs.Shipped.{all}
use Rattle.fx_shipped.proofs.NameLaws.{ended, nowhere, passed}
use Rattle.fx_shipped.proofs.catalogue.ShippedCatalogue.named.Goals as goal

pub loop-effect-preserved : goal.loop-effect-preserved
loop-effect-preserved c =
    passed all c.loop-effect.effect-index c.args.name.now _ c.loop-effect-test.true
    (ap (bytes_eq c.args.name.now) (sym c.name.ensures) ∙ sym c.eq.ensures ∙ c.if-eq.false)
    ∙ c.loop-effect.invariant

pub returns-clause-value : goal.returns-clause-value
returns-clause-value c = sym (ended all c.loop-effect.effect-index c.args.name.now c.loop-effect-test.false) ∙ c.loop-effect.invariant

pub returns-clause-none : goal.returns-clause-none
returns-clause-none c = λ same. nowhere c.args.name.now (returns-clause-value c)
