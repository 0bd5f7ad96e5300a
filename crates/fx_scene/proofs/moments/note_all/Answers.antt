use Rattle.std.proofs.Common.{◌≡◌, List, [], ◌∷◌, sym, ap, ◌∙◌, subst}
use Rattle.std.proofs.lemmas.Iterator.Adapters.{YieldsList-from_vec}
use Rattle.std.proofs.lemmas.Iterator.Consumers.{YieldsList-end}
use Rattle.std.proofs.lemmas.List.{map-id}
use Rattle.fx_seq.specs.declared.wanted.Wanted.{Wanted}
use Rattle.fx_scene.specs.Uses.{Notes, noted, used_in}
use Rattle.fx_scene.proofs.NotingLemmas.{noted-append}
use Rattle.fx_scene.proofs.moments.note_all.Goals as goal

pub loop-one-preserved : goal.loop-one-preserved
loop-one-preserved c =
    record {
      notes = λ n f.
          c.in_ok-note.ensures.notes n f
          ∙ ap (noted (c.in-Some.one ∷ []) c.args.moment n f) (c.loop-one.invariant.notes n f)
          ∙ sym (noted-append c.loop-one.yielded c.in-Some.one c.args.moment n f (used_in c.args.table.now n f));
      order = λ was. c.in_ok-note.ensures.order;
    }

pub returns-clause-notes : goal.returns-clause-notes
returns-clause-notes c =
    let gives = c.into_iter-one-iterator.ensures.into_iter_gives in
    let list = YieldsList-from_vec {s = c.into_iter-one-iterator.result} c.args.wanted.items gives.0 (gives.1 ∙ c.args.wanted.ok.0) in
    let end = YieldsList-end list c.loop-one.yielded c.loop-one.one-iterator c.loop-one.yielded_by c.next.result c.next.new.self c.in-None.is c.next.ensures.steps in
    let all : c.loop-one.yielded ≡ c.args.wanted.items = sym (map-id c.loop-one.yielded) ∙ end.0 in
    subst (λ (ws : List Wanted). Notes ws c.args.moment c.args.table.now c.loop-one.table) all c.loop-one.invariant.notes
