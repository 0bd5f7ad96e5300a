use Rattle.std.proofs.Common.{refl, FitsSigned, w64, rules}
use Rattle.std.proofs.lemmas.Result.{err_from_is_err_and}
use Rattle.std.proofs.lemmas.Int.{to_z-of_z}
use Rattle.fx_params.proofs.ParamLemmas.{accepted_within, IsSound-with_plain}
use Rattle.fx_params.proofs.param.Param.set_value.Goals as goal

pub returns-in_err-self-inside-clause-answer : goal.returns-in_err-self-inside-clause-answer
returns-in_err-self-inside-clause-answer c =
    let p = err_from_is_err_and c.from_residual.result c.from_residual.ensures.1 in
    rw (p.1, p.2, ← c.self.view_is, c.in_err-self-inside.ensures.refused) refl

pub invariant_of-self : goal.invariant_of-self
invariant_of-self c =
    let accepted = accepted_within c.self.inside.def c.args.v c.in_ok-self-inside.ensures.accepted in
    let within = rw (← c.in_ok-self-inside.ensures.number) at accepted in
    let fits : FitsSigned w64 c.in_ok-self-inside.field-0 = search rules in
    IsSound-with_plain _ _ c.self.invariant (rw (to_z-of_z w64 c.in_ok-self-inside.field-0 fits) within)
