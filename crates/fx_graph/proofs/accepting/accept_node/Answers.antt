use Rattle.std.proofs.Common.{◌≡◌, ap, rules}
use Rattle.std.specs.Prelude.{is_some, None, codes, length, Option, ℕ, map}
use Rattle.std.proofs.lemmas.Result.{err_from_is_err_and, IfErr-weaker}
use Rattle.fx_text.specs.Fault.{Fault}
use Rattle.fx_text.specs.declared.fault.GraphCode.TheVariants.{NameRepeated}
use Rattle.fx_graph.specs.Refusal.{where_so, node_path}
use Rattle.fx_graph.specs.Shown.{shown, names_of}
use Rattle.fx_graph.specs.Nodes.{place_of, work_of}
use Rattle.fx_graph.proofs.Making.{told_after, told_behind}
use Rattle.fx_graph.proofs.accepting.accept_node.Goals as goal

pub returns-in_err-check_name-clause-err : goal.returns-in_err-check_name-clause-err
returns-in_err-check_name-clause-err g c =
    let p = err_from_is_err_and c.from_residual.result c.from_residual.ensures.1 in
    let h = rw (c.text.ensures, c.text-2.ensures) at c.in_err-check_name.ensures.err in
    let given = work_of g.E.Catalogue.find g.E.ImageEffect.meaning c.args.project (map shown c.args.before.now) c.raw.inside.path c.raw.inside.name c.raw.inside.work in
    rw (p.1, p.2, ← c.raw.view_is) (told_after _ given c.in_err-check_name.field-0.0 h)

pub returns-clause-err : goal.returns-clause-err
returns-clause-err g c =
    let before = map shown c.args.before.now in
    let row : Option ℕ → Option Fault = λ o. where_so (is_some o) NameRepeated (node_path c.raw.inside.path (codes "name")) in
    let given = work_of g.E.Catalogue.find g.E.ImageEffect.meaning c.args.project before c.raw.inside.path c.raw.inside.name c.raw.inside.work in
    let fresh = rw c.text-2.ensures at c.in_ok-check_name.ensures.fresh in
    let h = rw (c.text-3.ensures, c.text-4.ensures) at c.accept_work.ensures.err in
    rw (← c.raw.view_is) (IfErr-weaker c.accept_work.result _ _ (λ e h. told_behind _ given e (ap row fresh) h) h)
