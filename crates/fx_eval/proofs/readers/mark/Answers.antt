use Rattle.std.proofs.Common.{sym, subst, List}
use Rattle.std.proofs.lemmas.Map.Iter.{rest_all, rest_more}
use Rattle.std.specs.Map.Iter.{deref}
use Rattle.fx_scene.specs.declared.reaching.NodeFrame.{NodeFrame}
use Rattle.fx_eval.proofs.ReaderLemmas.{IsMarked, marked_end, marked_start, marked_step}
use Rattle.fx_eval.proofs.readers.mark.Goals as goal

pub loop-read-init : goal.loop-read-init
loop-read-init c =
    let gives = c.into_iter-read-iterator.ensures.into_iter_gives in
    subst (λ (rest : List NodeFrame). IsMarked c.args.reads.now c.args.reader c.args.last.now rest c.args.last.now) (sym gives.0)
    (marked_start c.args.reads.now c.args.reader c.args.last.now gives.4)

pub loop-read-preserved : goal.loop-read-preserved
loop-read-preserved c =
    let step = rest_more deref c.loop-read.read-iterator c.next.new.self c.next.result c.in-Some.read c.in-Some.is c.next.ensures.steps in
    let marked = subst (λ (rest : List NodeFrame). IsMarked c.args.reads.now c.args.reader c.args.last.now rest c.loop-read.last) step c.loop-read.invariant in
    marked_step c.args.reads.now c.args.reader c.args.last.now c.loop-read.last c.insert.new.self c.in-Some.read.now c.next.new.self marked c.in_ok-insert.ensures.updates.0 c.in_ok-insert.ensures.updates.1

pub returns : goal.returns
returns c =
    let step = rest_all deref c.loop-read.read-iterator c.next.new.self c.next.result c.in-None.is c.next.ensures.steps in
    marked_end c.args.reads.now c.args.reader c.args.last.now c.loop-read.last
    (subst (λ (rest : List NodeFrame). IsMarked c.args.reads.now c.args.reader c.args.last.now rest c.loop-read.last) step c.loop-read.invariant)
