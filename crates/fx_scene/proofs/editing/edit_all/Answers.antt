use Rattle.std.proofs.Common.{ℕ, List, length, map, take, sym, ap, ◌∙◌, subst, arith, refl}
use Rattle.std.proofs.lemmas.Iterator.Adapters.{YieldsList-from_vec}
use Rattle.std.proofs.lemmas.Iterator.Consumers.{YieldsList-end, YieldsList-turn}
use Rattle.std.proofs.lemmas.List.{length_push, take_all}
use Rattle.fx_graph.specs.Edits.{with_edit}
use Rattle.fx_graph.specs.Shown.{Shown, shown}
use Rattle.fx_scene.specs.declared.take.Edit.{Edit}
use Rattle.fx_scene.specs.Takes.{IsEdit, edited_all}
use Rattle.fx_scene.proofs.ScriptLemmas.{edit_at, edited_next, same_itself, same_then}
use Rattle.fx_scene.proofs.editing.edit_all.Goals as goal

pub loop-edit-init : goal.loop-edit-init
loop-edit-init g c = record { nodes = refl; others = same_itself c.args.graph.now }

pub set_param-requires : goal.set_param-requires
set_param-requires g c =
    let gives = c.into_iter-edit-iterator.ensures.into_iter_gives in
    let list = YieldsList-from_vec {s = c.into_iter-edit-iterator.result} c.args.edits.items gives.0 (gives.1 ∙ c.args.edits.ok.0) in
    let turn = YieldsList-turn list c.loop-edit.yielded c.loop-edit.edit-iterator c.loop-edit.yielded_by c.next.result c.next.new.self c.in-Some.edit c.in-Some.is c.next.ensures.steps in
    let e = c.in-Some.edit in
    subst (λ (ns : List (Shown _)). IsEdit ns e) (sym c.loop-edit.invariant.nodes)
    (edit_at (map shown c.args.graph.now.nodes.items) c.args.edits.items (length c.loop-edit.yielded) e turn.0 turn.1 c.requires)

pub loop-edit-preserved : goal.loop-edit-preserved
loop-edit-preserved g c =
    let gives = c.into_iter-edit-iterator.ensures.into_iter_gives in
    let list = YieldsList-from_vec {s = c.into_iter-edit-iterator.result} c.args.edits.items gives.0 (gives.1 ∙ c.args.edits.ok.0) in
    let turn = YieldsList-turn list c.loop-edit.yielded c.loop-edit.edit-iterator c.loop-edit.yielded_by c.next.result c.next.new.self c.in-Some.edit c.in-Some.is c.next.ensures.steps in
    let e = c.in-Some.edit in
    let start = map shown c.args.graph.now.nodes.items in
    record {
      nodes = c.set_param.ensures.nodes
          ∙ ap (with_edit e.node e.param e.value) c.loop-edit.invariant.nodes
          ∙ sym (edited_next start c.args.edits.items (length c.loop-edit.yielded) e turn.0 turn.1)
          ∙ ap (λ (n : ℕ). edited_all (take n c.args.edits.items) start) (sym (length_push c.loop-edit.yielded e));
      others = same_then c.args.graph.now c.loop-edit.graph c.set_param.new.self c.loop-edit.invariant.others c.set_param.ensures.others;
    }

pub returns : goal.returns
returns g c =
    let gives = c.into_iter-edit-iterator.ensures.into_iter_gives in
    let list = YieldsList-from_vec {s = c.into_iter-edit-iterator.result} c.args.edits.items gives.0 (gives.1 ∙ c.args.edits.ok.0) in
    let end = YieldsList-end list c.loop-edit.yielded c.loop-edit.edit-iterator c.loop-edit.yielded_by c.next.result c.next.new.self c.in-None.is c.next.ensures.steps in
    let long = end.1 in
    record {
      nodes = c.loop-edit.invariant.nodes
          ∙ ap (λ (es : List Edit). edited_all es (map shown c.args.graph.now.nodes.items)) (take_all (length c.loop-edit.yielded) c.args.edits.items (omega (arith, long)));
      others = c.loop-edit.invariant.others;
    }
