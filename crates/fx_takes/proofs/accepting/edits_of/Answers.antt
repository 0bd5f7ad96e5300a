use Rattle.std.proofs.Common.{◌≡◌, ◌∙◌, ◌<◌, ◌∷◌, [], ◌++◌, ap, arith, length, map, ℕ}
use Rattle.std.proofs.lemmas.List.{map-append}
use Rattle.std.proofs.lemmas.Result.{err_from_is_err_and}
use Rattle.fx_text.specs.Paths.{inside}
use Rattle.fx_text.specs.declared.raw.RawEdit.{RawEdit}
use Rattle.fx_graph.specs.Shown.{shown}
use Rattle.fx_takes.specs.Shown.{edit_shown}
use Rattle.fx_takes.specs.Accepted.{edit_of, edits_of}
use Rattle.fx_takes.proofs.Walks.{next_made, next_told}
use Rattle.fx_takes.proofs.accepting.edits_of.Goals as goal

pub returns-in_err-edit-clause-err : goal.returns-in_err-edit-clause-err
returns-in_err-edit-clause-err g c =
    let nodes = map shown c.args.graph.now.nodes.items in
    let f = λ (k : ℕ) (raw : RawEdit). edit_of nodes (inside c.args.path.now k) raw in
    let within : c.loop-k.k < length c.args.raws.now = omega arith in
    let p = err_from_is_err_and c.from_residual.result c.from_residual.ensures.1 in
    rw (p.1, p.2) (next_told f c.args.raws.now c.loop-k.k c.index-raws-k.result within c.index-raws-k.is (map edit_shown c.loop-k.edits.items)
    (edits_of nodes c.args.path.now c.args.raws.now) c.in_err-edit.field-0.0 c.in_err-edit.ensures.err c.loop-k.invariant)

pub loop-k-preserved : goal.loop-k-preserved
loop-k-preserved g c =
    let nodes = map shown c.args.graph.now.nodes.items in
    let f = λ (k : ℕ) (raw : RawEdit). edit_of nodes (inside c.args.path.now k) raw in
    let within : c.loop-k.k < length c.args.raws.now = omega arith in
    let one = edit_shown c.in_ok-edit.edit in
    let pushed : map edit_shown c.push.new.self.items ≡ map edit_shown c.loop-k.edits.items ++ one ∷ [] =
    ap (map edit_shown) c.in_ok-push.ensures.items ∙ map-append edit_shown c.loop-k.edits.items (c.in_ok-edit.edit ∷ []) in
    rw pushed (next_made f c.args.raws.now c.loop-k.k c.index-raws-k.result within c.index-raws-k.is (map edit_shown c.loop-k.edits.items) one
    (edits_of nodes c.args.path.now c.args.raws.now) c.in_ok-edit.ensures.ok c.loop-k.invariant)
