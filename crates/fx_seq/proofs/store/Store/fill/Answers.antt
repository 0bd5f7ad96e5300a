use Rattle.std.proofs.Common.{◌≡◌, ◌+◌, ◌∷◌, [], List, take, drop, append-nil, arith, sym, ap, subst, ◌∙◌}
use mathlib.Core.Path.{fun_ext}
use Rattle.std.proofs.lemmas.List.{take_all}
use Rattle.std.proofs.lemmas.Result.{err_from_is_err_and}
use Rattle.fx_outside.specs.Outside.{Files}
use Rattle.fx_seq.specs.declared.source.SourceFrame.{SourceFrame}
use Rattle.fx_seq.specs.declared.wanted.Wanted.{Wanted}
use Rattle.fx_seq.specs.Lists.{AreFramesOf, ArePictures, ReadsMore, frames_in}
use Rattle.fx_seq.specs.Filling.{IsFetchIn, IsFirstFetch, IsTold, first_refused}
use Rattle.fx_seq.specs.Frames.{HoldsOnly, HoldsPictures}
use Rattle.fx_seq.proofs.FillingLemmas.{quiet_more, read_more, split_at}
use Rattle.fx_seq.proofs.LookLemmas.{only_held, pictures_held}
use Rattle.fx_seq.proofs.Reading.{fetch_all, first_all, reads_more, reads_same, told_all}
use Rattle.fx_seq.proofs.store.Store.fill.Goals as goal

pub returns-in_err-sum-clause-refused : goal.returns-in_err-sum-clause-refused
returns-in_err-sum-clause-refused g c = λ tells.
    let library = g.L.Library in
    let files = library.file c.args.library.now in
    let now = library.file c.loop-frame.library in
    let so_far = c.loop-frame.invariant in
    let same : now ≡ files = fun_ext (so_far.same tells) in
    let ws = c.args.wanted.now in
    let i = c.loop-frame.frame-index in
    let w = c.frame-item.result in
    let e = c.in_err-sum.field-0.0 in
    let told = subst (λ (f : Files). IsTold (first_refused f c.args.most_side c.args.limit c.loop-frame.sum (w ∷ [])) e) same (c.in_err-sum.ensures.refused tells) in
    let p = err_from_is_err_and c.from_residual.result c.from_residual.ensures.1 in
    rw (p.1, p.2)
    (subst (λ (due : List Wanted). IsTold (first_refused files c.args.most_side c.args.limit 0 due) e) (sym (split_at ws i w c.loop-frame-test.true c.frame-item.is))
    (told_all files c.args.most_side c.args.limit 0 c.loop-frame.sum (take i ws) (w ∷ []) (drop (i + 1) ws) (so_far.reads.accepted tells) e told))

pub returns-in_err-sum-clause-fetch : goal.returns-in_err-sum-clause-fetch
returns-in_err-sum-clause-fetch g c =
    let library = g.L.Library in
    let so_far = c.loop-frame.invariant in
    let ws = c.args.wanted.now in
    let i = c.loop-frame.frame-index in
    let w = c.frame-item.result in
    let e = c.in_err-sum.field-0.0 in
    let p = err_from_is_err_and c.from_residual.result c.from_residual.ensures.1 in
    rw (p.1, p.2)
    (subst (λ (due : List Wanted). IsFetchIn (library.faults c.args.library.now) (library.faults c.read_into.new.library) (library.last c.read_into.new.library) due e) (sym (split_at ws i w c.loop-frame-test.true c.frame-item.is))
    (fetch_all (library.faults c.args.library.now) (library.faults c.loop-frame.library) (library.faults c.read_into.new.library) (library.last c.read_into.new.library) (take i ws) (w ∷ []) (drop (i + 1) ws) e so_far.quiet.count c.in_err-sum.ensures.fetch))

pub returns-in_err-sum-clause-fetch_first : goal.returns-in_err-sum-clause-fetch_first
returns-in_err-sum-clause-fetch_first g c = λ tells.
    let library = g.L.Library in
    let files = library.file c.args.library.now in
    let now = library.file c.loop-frame.library in
    let so_far = c.loop-frame.invariant in
    let same : now ≡ files = fun_ext (so_far.same tells) in
    let ws = c.args.wanted.now in
    let i = c.loop-frame.frame-index in
    let w = c.frame-item.result in
    let e = c.in_err-sum.field-0.0 in
    let first = subst (λ (f : Files). IsFirstFetch f c.args.most_side c.args.limit c.loop-frame.sum (w ∷ []) e) same (c.in_err-sum.ensures.fetch_first tells) in
    let p = err_from_is_err_and c.from_residual.result c.from_residual.ensures.1 in
    rw (p.1, p.2)
    (subst (λ (due : List Wanted). IsFirstFetch files c.args.most_side c.args.limit 0 due e) (sym (split_at ws i w c.loop-frame-test.true c.frame-item.is))
    (first_all files c.args.most_side c.args.limit 0 c.loop-frame.sum (take i ws) (w ∷ []) (drop (i + 1) ws) (so_far.reads.accepted tells) e first))

pub loop-frame-preserved : goal.loop-frame-preserved
loop-frame-preserved g c =
    let library = g.L.Library in
    let files = library.file c.args.library.now in
    let now = library.file c.loop-frame.library in
    let so_far = c.loop-frame.invariant in
    let ws = c.args.wanted.now in
    let i = c.loop-frame.frame-index in
    let w = c.frame-item.result in
    let later = c.read_into.ensures.later in
    let was = so_far.later in
    let more =
    reads_more library.tells files c.args.most_side c.args.limit 0 c.loop-frame.sum c.in_ok-sum.sum (take i ws) (w ∷ []) [] c.loop-frame.frames.items c.read_into.new.frames.items so_far.reads
    (reads_same library.tells files now c.args.most_side c.args.limit c.loop-frame.sum (w ∷ []) c.loop-frame.frames.items c.read_into.new.frames.items c.in_ok-sum.sum (λ tells. fun_ext (so_far.same tells)) c.in_ok-sum.ensures.reads) in
    record {
      reads = subst (λ (due : List Wanted). ReadsMore library.tells files c.args.most_side c.args.limit 0 due [] c.read_into.new.frames.items c.in_ok-sum.sum) (sym (read_more ws i w c.loop-frame-test.true c.frame-item.is)) more;
      few = more.few (omega arith) c.requires.limit;
      later = omega (arith, was, later);
      quiet = quiet_more so_far.quiet c.in_ok-sum.ensures.quiet;
      same = λ tells name. c.read_into.ensures.same tells name ∙ so_far.same tells name;
    }

pub returns-clause-accepted : goal.returns-clause-accepted
returns-clause-accepted g c = λ tells.
    let files = g.L.Library.file c.args.library.now in
    let ws = c.args.wanted.now in
    let i = c.loop-frame.frame-index in
    let all = take_all i ws (omega (arith, c.loop-frame-test.false)) in
    ap (first_refused files c.args.most_side c.args.limit 0) (sym all ∙ sym (append-nil (take i ws)))
    ∙ c.loop-frame.invariant.reads.accepted tells []

pub returns-clause-pictures : goal.returns-clause-pictures
returns-clause-pictures g c = λ tells.
    let files = g.L.Library.file c.args.library.now in
    let ws = c.args.wanted.now in
    let i = c.loop-frame.frame-index in
    let reads = c.loop-frame.invariant.reads in
    let all = take_all i ws (omega (arith, c.loop-frame-test.false)) in
    let items : c.in_ok-of.field-0.frames.items ≡ reads.added = c.in_ok-of.ensures.frames ∙ reads.items in
    subst (λ (fs : List SourceFrame). HoldsPictures files c.args.most_side ws (frames_in fs)) (sym items)
    (pictures_held files c.args.most_side ws reads.added c.requires.apart
    (subst (λ (vs : List Wanted). AreFramesOf vs reads.added) all reads.are)
    (subst (λ (vs : List Wanted). ArePictures files c.args.most_side vs reads.added) all (reads.pictures tells)))

pub returns-clause-only : goal.returns-clause-only
returns-clause-only g c =
    let ws = c.args.wanted.now in
    let i = c.loop-frame.frame-index in
    let reads = c.loop-frame.invariant.reads in
    let all = take_all i ws (omega (arith, c.loop-frame-test.false)) in
    let items : c.in_ok-of.field-0.frames.items ≡ reads.added = c.in_ok-of.ensures.frames ∙ reads.items in
    subst (λ (fs : List SourceFrame). HoldsOnly ws (frames_in fs)) (sym items)
    (only_held ws reads.added (subst (λ (vs : List Wanted). AreFramesOf vs reads.added) all reads.are))
