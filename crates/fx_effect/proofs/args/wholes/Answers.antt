use Rattle.std.proofs.Common.{◌≡◌, ◌∙◌, map, All, ap, refl, sym, subst, arith}
use Rattle.std.proofs.lemmas.List.{take_all}
use Rattle.std.proofs.lemmas.List.Elements.{All-map}
use Rattle.fx_props.specs.Value.{kind_of}
use Rattle.fx_props.specs.Entries.{whole}
use Rattle.fx_props.specs.declared.value.PropKind.TheVariants as kind
use Rattle.fx_effect.proofs.args.wholes.Goals as goal

pub returns-clause-values : goal.returns-clause-values
returns-clause-values c =
    c.loop-n.invariant ∙ ap (map whole) (take_all c.loop-n.n-index c.args.numbers.now (omega (arith, c.loop-n-test.false)))

pub returns-clause-kinds : goal.returns-clause-kinds
returns-clause-kinds c =
    subst (All (λ v. kind_of v ≡ kind.Fix)) (sym (returns-clause-values c)) (All-map (λ v. kind_of v ≡ kind.Fix) whole c.args.numbers.now (λ k d inside. refl))
