use Rattle.std.proofs.Common.{◌≡◌, ◌∙◌, subst, map, IfErr, List, ℕ}
use Rattle.fx_text.specs.Paths.{inside}
use Rattle.fx_graph.specs.Refusal.{TellsErr}
use Rattle.fx_graph.specs.Shown.{shown}
use Rattle.fx_takes.specs.Accepted.{edit_of}
use Rattle.fx_takes.proofs.Walks.{inside_is}
use Rattle.fx_takes.proofs.accepting.edit_at.Goals as goal

pub returns-clause-err : goal.returns-clause-err
returns-clause-err g c =
    let path : c.as_str.result.now ≡ inside c.args.path.now c.args.k = c.as_str.ensures.value ∙ c.in_ok-path.ensures.ok ∙ inside_is c.args.path.now c.args.k in
    subst (λ (p : List ℕ). IfErr c.edit_of.result (λ e. TellsErr (edit_of (map shown c.args.graph.now.nodes.items) p c.args.raw.now) e)) path c.edit_of.ensures.err
