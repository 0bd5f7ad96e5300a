use Rattle.std.proofs.Common.{◌≡◌, ◌∙◌, ◌<◌, ap, sym, subst, length, slice_get, Some}
use Rattle.std.proofs.lemmas.List.Elements.{All-get_or}
use Rattle.std.proofs.lemmas.Option.{slice_get-get_or}
use Rattle.fx_effect.specs.Shape.{IsParam}
use Rattle.fx_params.specs.Parameter.{Parameter}
use Rattle.fx_graph.proofs.NamedLaws.{HasParam, found_param}
use Rattle.fx_graph.proofs.named.param_in.Goals as goal

pub returns-in-Some-clause-value : goal.returns-in-Some-clause-value
returns-in-Some-clause-value c =
    let params = c.args.params.now in
    let i = c.in-Some.place in
    let p = c.index-params-place.result in
    let within : i < length params = c.in-Some.ensures.within in
    let there : slice_get params i ≡ Some p = slice_get-get_or params i p within ∙ ap Some (sym c.index-params-place.is) in
    ap (λ d. Some (i, d)) c.def.ensures.same ∙ found_param params c.args.name.now i p (sym c.in-Some.ensures.value) there

pub returns-in-Some-clause-lawful : goal.returns-in-Some-clause-lawful
returns-in-Some-clause-lawful c =
    let params = c.args.params.now in
    let p = c.index-params-place.result in
    let all = All-get_or HasParam params c.in-Some.place p c.in-Some.ensures.within c.requires.lawful in
    subst IsParam (sym c.def.ensures.same) (subst HasParam (sym c.index-params-place.is) all)
