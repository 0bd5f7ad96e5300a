use Rattle.std.proofs.Common.{◌≡◌, ◌∙◌, subst, map, codes, IfOk, IfErr, Ok, List, ℕ}
use Rattle.fx_graph.specs.Refusal.{TellsErr, node_path}
use Rattle.fx_graph.specs.Shown.{shown}
use Rattle.fx_takes.specs.Shown.{edit_shown}
use Rattle.fx_takes.specs.Accepted.{edits_of}
use Rattle.fx_takes.proofs.Walks.{under_is}
use Rattle.fx_takes.proofs.accepting.edits_under.Goals as goal

pub returns-clause-ok : goal.returns-clause-ok
returns-clause-ok g c =
    let path : c.as_str.result.now ≡ node_path c.args.path.now (codes "edits") = c.as_str.ensures.value ∙ c.in_ok-path.ensures.ok ∙ under_is c.args.path.now (codes "edits") in
    subst (λ (p : List ℕ). IfOk c.edits_of.result (λ edits. edits_of (map shown c.args.graph.now.nodes.items) p c.args.raws.now ≡ Ok (map edit_shown edits.items))) path c.edits_of.ensures.ok

pub returns-clause-err : goal.returns-clause-err
returns-clause-err g c =
    let path : c.as_str.result.now ≡ node_path c.args.path.now (codes "edits") = c.as_str.ensures.value ∙ c.in_ok-path.ensures.ok ∙ under_is c.args.path.now (codes "edits") in
    subst (λ (p : List ℕ). IfErr c.edits_of.result (λ e. TellsErr (edits_of (map shown c.args.graph.now.nodes.items) p c.args.raws.now) e)) path c.edits_of.ensures.err
