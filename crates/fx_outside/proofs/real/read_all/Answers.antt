use Rattle.std.proofs.Common.{◌≡◌, ◌<◌, IfSome, length, subst, arith}
use Rattle.fx_outside.proofs.RealLemmas.{all_given}
use Rattle.fx_outside.proofs.real.read_all.Goals as goal

pub returns-in-Ok-clause-all : goal.returns-in-Ok-clause-all
returns-in-Ok-clause-all g c =
    let read = c.read_to_end-read.new.buf in
    let short : length read.items < c.args.too_many = omega (arith, c.if-len-too_many.true, c.len.ensures, read.ok) in
    subst (λ r. IfSome (g.F.Read.remaining r.now.reader) (λ given. read.items ≡ given)) c.take.ensures.inner
    (all_given _ c.room_for-bytes.result.items _ _ c.args.too_many c.room_for-bytes.ensures c.take.ensures.limit short c.in-Ok.ensures.bytes)
