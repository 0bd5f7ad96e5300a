use Rattle.std.proofs.Common.{rules, ℕ, ◌++◌, sym, ◌∙◌, subst, arith}
use Rattle.fx_outside.specs.Outside.{SameFiles}
use Rattle.fx_seq.proofs.FillingLemmas.{quiet_more}
use Rattle.fx_pipe.specs.Moments.{all_of}
use Rattle.fx_pipe.specs.Reads.{IsUnread}
use Rattle.fx_pipe.specs.Blocks.{fetched_in}
use Rattle.fx_pipe.proofs.ReadLemmas.{fetched_more, knows_still, read_one}
use Rattle.fx_pipe.proofs.read.read_block.Goals as goal

pub returns-in-Err-clause-read : goal.returns-in-Err-clause-read
returns-in-Err-clause-read g c = λ files fs same knows.
    let r = c.loop.invariant.read files fs same knows in
    let s = c.in-Err.ensures.stays in
    rw c.try_reserve.ensures.items (r.0, knows_still c.args.schedule.now (fs ++ fetched_in c.loop.fetched.items) c.loop.reader c.read_moment.new.reader r.1 s.0 s.1)

pub returns-in-Err-clause-unread : goal.returns-in-Err-clause-unread
returns-in-Err-clause-unread g c = λ files fs same knows.
    let l = g.L.Library in
    let r = c.loop.invariant.read files fs same knows in
    let all = fs ++ fetched_in c.loop.fetched.items in
    let now : l.tells → SameFiles files (l.file c.loop.library) = λ tells name. c.loop.invariant.same tells name ∙ same tells name in
    rw c.try_reserve.ensures.items (subst (λ (n : ℕ). IsUnread l.tells files c.args.schedule.now (all_of all) n c.in-Err.fault) (sym c.in-Err.ensures.stays.0)
    (c.in-Err.ensures.unread files all now r.1))

pub loop-preserved : goal.loop-preserved
loop-preserved g c =
    let l = g.L.Library in
    let p = c.args.schedule.now in
    let block = fetched_in c.loop.fetched.items in
    let frames = c.in-Ok.frames.items in
    let more = fetched_more c.loop.fetched.items c.in-Ok.frames in
    record {
      read = λ files fs same knows.
          let r = c.loop.invariant.read files fs same knows in
          let now : l.tells → SameFiles files (l.file c.loop.library) = λ tells name. c.loop.invariant.same tells name ∙ same tells name in
          let one = c.in-Ok.ensures.read files (fs ++ block) now r.1 in
          let both = read_one l.tells files p fs block frames c.args.reader.now.next c.loop.reader c.read_moment.new.reader knows.next r.1 r.0 one in
          search (rules, both, more);
      single = λ none. absurd (omega (arith, none));
      most = c.loop.invariant.most;
      next = search rules;
      few = c.in-Ok.ensures.few;
      quiet = quiet_more c.loop.invariant.quiet c.in-Ok.ensures.quiet;
      later = omega (arith, c.loop.invariant.later, c.read_moment.ensures.later);
      same = λ tells name. c.read_moment.ensures.same tells name ∙ c.loop.invariant.same tells name;
    }

pub returns-then-is_err-clause-read : goal.returns-then-is_err-clause-read
returns-then-is_err-clause-read g c = λ files fs same knows.
    rw c.try_reserve.ensures.items (c.loop.invariant.read files fs same knows)
