use Rattle.std.proofs.Common.{◌≡◌, sym, subst, map, IfErr, Some, codes}
use Rattle.std.specs.Prelude.{Option, ℕ}
use Rattle.fx_params.specs.declared.def.ParamDef.{ParamDef}
use Rattle.fx_text.specs.declared.fault.GraphCode.TheVariants.{UnknownParam}
use Rattle.fx_text.specs.Json.{after}
use Rattle.fx_graph.specs.Refusal.{TellsErr, found_or, node_path}
use Rattle.fx_graph.specs.Named.{param_named, params_at}
use Rattle.fx_graph.specs.Shown.{shown}
use Rattle.fx_takes.specs.Accepted.{param_edit}
use Rattle.fx_takes.proofs.accepting.node_edit.Goals as goal

pub returns-in-Some-clause-err : goal.returns-in-Some-clause-err
returns-in-Some-clause-err g c =
    let raw = c.args.raw.now in
    let found : param_named (params_at (map shown c.args.graph.now.nodes.items) c.args.node) raw.param ≡ Some (c.in-Some.param, c.in-Some.def.now) =
    sym (rw c.text.ensures at c.in-Some.ensures.value) in
    let P = λ (o : Option (ℕ × ParamDef)). IfErr c.param_edit.result (λ e. TellsErr (after (found_or UnknownParam (node_path c.args.path.now (codes "param")) o) (λ p. param_edit c.args.path.now c.args.node p.0 p.1 raw.value)) e) in
    subst P (sym found) c.param_edit.ensures.err
