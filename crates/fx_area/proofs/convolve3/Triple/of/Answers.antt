use Rattle.std.proofs.Common.{◌∙◌, ◌+◌, subst, sym, w64, to_z, of_z, FitsSigned, rules}
use Rattle.std.proofs.lemmas.Int.{to_z-of_z}
use Rattle.fx_effect.specs.Numbers.{number}
use Rattle.fx_area.specs.ConvolveRows.{IsTriple}
use Rattle.fx_area.proofs.ConvolveLaws.{triple_near, same_triple}
use Rattle.fx_area.proofs.convolve3.Triple.of.Goals as goal

pub returns-clause-value : goal.returns-clause-value
returns-clause-value c =
    let v = c.args.values.now in
    let k = c.args.first in
    let left : FitsSigned w64 c.number.result = search rules in
    let middle : FitsSigned w64 c.number-2.result = search rules in
    let right : FitsSigned w64 c.number-3.result = search rules in
    same_triple (to_z w64 (of_z w64 c.number.result)) (to_z w64 (of_z w64 c.number-2.result))
    (to_z w64 (of_z w64 c.number-3.result)) (number v k) (number v (k + 1)) (number v (k + 2))
    (to_z-of_z w64 c.number.result left ∙ c.number.ensures)
    (to_z-of_z w64 c.number-2.result middle ∙ c.number-2.ensures)
    (to_z-of_z w64 c.number-3.result right ∙ c.number-3.ensures)

pub returns-clause-few : goal.returns-clause-few
returns-clause-few c =
    let lawful = c.requires.lawful in
    subst IsTriple (sym (returns-clause-value c))
    (triple_near lawful.context c.args.values.now lawful.there c.args.first c.requires.first)
