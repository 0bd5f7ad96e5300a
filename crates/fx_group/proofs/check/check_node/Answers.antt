use Rattle.std.proofs.Common.{[], ◌∷◌}
use Rattle.std.proofs.lemmas.Result.{err_from_is_err_and, IfErr-weaker}
use Rattle.fx_graph.specs.Refusal.{first_of}
use Rattle.fx_group.specs.Faults.{work_fault}
use Rattle.fx_group.specs.Known.{in_map}
use Rattle.fx_group.proofs.Checks.{tells_or, tells_last}
use Rattle.fx_group.proofs.check.check_node.Goals as goal

pub returns-in_err-check_name-clause-err : goal.returns-in_err-check_name-clause-err
returns-in_err-check_name-clause-err c =
    let p = err_from_is_err_and c.from_residual.result c.from_residual.ensures.1 in
    let h = rw (c.is_known.ensures, c.text-name.ensures, c.text-path.ensures) at c.in_err-check_name.ensures.err in
    let works = work_fault c.args.groups.now (in_map c.args.known.now) c.node.inside.path c.node.inside.work in
    rw (p.1, p.2, ← c.node.view_is) (tells_or _ (first_of (works ∷ [])) c.in_err-check_name.field-0.0 h)

pub returns-clause-err : goal.returns-clause-err
returns-clause-err c =
    let none = rw (c.is_known.ensures, c.text-name.ensures, c.text-path.ensures) at c.in_ok-check_name.ensures.ok in
    let works = work_fault c.args.groups.now (in_map c.args.known.now) c.node.inside.path c.node.inside.work in
    let h = rw c.text-path.ensures at c.check_work.ensures.err in
    rw (← c.node.view_is) (IfErr-weaker c.check_work.result _ _ (λ e told. tells_last _ works e none told) h)
