use Rattle.std.proofs.Common.{◌≡◌, ◌+◌, ◌∷◌, [], List, take, drop, append-nil, arith, sym, ap, subst, ◌∙◌}
use mathlib.Core.Path.{fun_ext}
use Rattle.std.proofs.lemmas.List.{take_all}
use Rattle.std.proofs.lemmas.Result.{err_from_is_err_and}
use Rattle.fx_outside.specs.Outside.{Files}
use Rattle.fx_seq.specs.declared.used.Use.{Use}
use Rattle.fx_seq.specs.declared.wanted.Wanted.{Wanted}
use Rattle.fx_seq.specs.Lists.{ReadsMore}
use Rattle.fx_seq.specs.Moments.{due_at}
use Rattle.fx_seq.specs.Filling.{IsFetchIn, IsFirstFetch, IsTold, first_refused}
use Rattle.fx_seq.proofs.FillingLemmas.{quiet_more}
use Rattle.fx_seq.proofs.Reading.{due_more, due_split, fetch_all, first_all, reads_more, reads_same, told_all}
use Rattle.fx_seq.proofs.due.read_due.Goals as goal

pub returns-in_err-sum-clause-refused : goal.returns-in_err-sum-clause-refused
returns-in_err-sum-clause-refused g c = λ tells.
    let library = g.L.Library in
    let files = library.file c.args.library.now in
    let now = library.file c.loop-used.library in
    let so_far = c.loop-used.invariant in
    let same : now ≡ files = fun_ext (so_far.same tells) in
    let uses = c.args.uses.now in
    let i = c.loop-used.used-index in
    let u = c.used-item.result in
    let e = c.in_err-sum.field-0.0 in
    let one = due_at (u ∷ []) c.args.moment in
    let told = subst (λ (f : Files). IsTold (first_refused f c.args.most_side c.args.limit c.loop-used.sum one) e) same (c.in_err-sum.ensures.refused tells) in
    let p = err_from_is_err_and c.from_residual.result c.from_residual.ensures.1 in
    rw (p.1, p.2)
    (subst (λ (due : List Wanted). IsTold (first_refused files c.args.most_side c.args.limit c.args.held due) e) (sym (due_split uses i u c.args.moment c.loop-used-test.true c.used-item.is))
    (told_all files c.args.most_side c.args.limit c.args.held c.loop-used.sum (due_at (take i uses) c.args.moment) one (due_at (drop (i + 1) uses) c.args.moment) (so_far.reads.accepted tells) e told))

pub returns-in_err-sum-clause-fetch : goal.returns-in_err-sum-clause-fetch
returns-in_err-sum-clause-fetch g c =
    let library = g.L.Library in
    let so_far = c.loop-used.invariant in
    let uses = c.args.uses.now in
    let i = c.loop-used.used-index in
    let u = c.used-item.result in
    let e = c.in_err-sum.field-0.0 in
    let p = err_from_is_err_and c.from_residual.result c.from_residual.ensures.1 in
    rw (p.1, p.2)
    (subst (λ (due : List Wanted). IsFetchIn (library.faults c.args.library.now) (library.faults c.read_at.new.library) (library.last c.read_at.new.library) due e) (sym (due_split uses i u c.args.moment c.loop-used-test.true c.used-item.is))
    (fetch_all (library.faults c.args.library.now) (library.faults c.loop-used.library) (library.faults c.read_at.new.library) (library.last c.read_at.new.library) (due_at (take i uses) c.args.moment) (due_at (u ∷ []) c.args.moment) (due_at (drop (i + 1) uses) c.args.moment) e so_far.quiet.count c.in_err-sum.ensures.fetch))

pub returns-in_err-sum-clause-fetch_first : goal.returns-in_err-sum-clause-fetch_first
returns-in_err-sum-clause-fetch_first g c = λ tells.
    let library = g.L.Library in
    let files = library.file c.args.library.now in
    let now = library.file c.loop-used.library in
    let so_far = c.loop-used.invariant in
    let same : now ≡ files = fun_ext (so_far.same tells) in
    let uses = c.args.uses.now in
    let i = c.loop-used.used-index in
    let u = c.used-item.result in
    let e = c.in_err-sum.field-0.0 in
    let one = due_at (u ∷ []) c.args.moment in
    let first = subst (λ (f : Files). IsFirstFetch f c.args.most_side c.args.limit c.loop-used.sum one e) same (c.in_err-sum.ensures.fetch_first tells) in
    let p = err_from_is_err_and c.from_residual.result c.from_residual.ensures.1 in
    rw (p.1, p.2)
    (subst (λ (due : List Wanted). IsFirstFetch files c.args.most_side c.args.limit c.args.held due e) (sym (due_split uses i u c.args.moment c.loop-used-test.true c.used-item.is))
    (first_all files c.args.most_side c.args.limit c.args.held c.loop-used.sum (due_at (take i uses) c.args.moment) one (due_at (drop (i + 1) uses) c.args.moment) (so_far.reads.accepted tells) e first))

pub loop-used-preserved : goal.loop-used-preserved
loop-used-preserved g c =
    let library = g.L.Library in
    let files = library.file c.args.library.now in
    let now = library.file c.loop-used.library in
    let so_far = c.loop-used.invariant in
    let uses = c.args.uses.now in
    let i = c.loop-used.used-index in
    let u = c.used-item.result in
    let one = due_at (u ∷ []) c.args.moment in
    let before = due_at (take i uses) c.args.moment in
    let later = c.read_at.ensures.later in
    let was = so_far.later in
    let more =
    reads_more library.tells files c.args.most_side c.args.limit c.args.held c.loop-used.sum c.in_ok-sum.sum before one [] c.loop-used.frames.items c.read_at.new.frames.items so_far.reads
    (reads_same library.tells files now c.args.most_side c.args.limit c.loop-used.sum one c.loop-used.frames.items c.read_at.new.frames.items c.in_ok-sum.sum (λ tells. fun_ext (so_far.same tells)) c.in_ok-sum.ensures.reads) in
    record {
      reads = subst (λ (due : List Wanted). ReadsMore library.tells files c.args.most_side c.args.limit c.args.held due [] c.read_at.new.frames.items c.in_ok-sum.sum) (sym (due_more uses i u c.args.moment c.loop-used-test.true c.used-item.is)) more;
      few = more.few c.requires.held c.requires.limit;
      later = omega (arith, was, later);
      quiet = quiet_more so_far.quiet c.in_ok-sum.ensures.quiet;
      same = λ tells name. c.read_at.ensures.same tells name ∙ so_far.same tells name;
    }

pub returns-clause-accepted : goal.returns-clause-accepted
returns-clause-accepted g c = λ tells.
    let library = g.L.Library in
    let files = library.file c.args.library.now in
    let uses = c.args.uses.now in
    let i = c.loop-used.used-index in
    let all = take_all i uses (omega (arith, c.loop-used-test.false)) in
    let due = due_at (take i uses) c.args.moment in
    ap (λ (us : List Use). first_refused files c.args.most_side c.args.limit c.args.held (due_at us c.args.moment)) (sym all)
    ∙ ap (first_refused files c.args.most_side c.args.limit c.args.held) (sym (append-nil due))
    ∙ c.loop-used.invariant.reads.accepted tells []
