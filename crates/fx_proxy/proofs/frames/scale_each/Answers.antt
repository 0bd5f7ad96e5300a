use Rattle.std.proofs.Common.{◌∙◌, ℕ, List, length, take, sym, subst, arith}
use Rattle.std.specs.List.{AllZip}
use Rattle.std.proofs.lemmas.Iterator.Adapters.{YieldsList-from_vec}
use Rattle.std.proofs.lemmas.Iterator.Consumers.{YieldsList-end, YieldsList-turn}
use Rattle.std.proofs.lemmas.List.{length_push, take_all}
use Rattle.fx_seq.specs.declared.source.SourceFrame.{SourceFrame}
use Rattle.fx_proxy.specs.Proxy.{IsScaledFrame}
use Rattle.fx_proxy.proofs.FrameLemmas.{frame_next}
use Rattle.fx_proxy.proofs.frames.scale_each.Goals as goal

pub loop-frame-preserved : goal.loop-frame-preserved
loop-frame-preserved c =
    let gives = c.into_iter-frame-iterator.ensures.into_iter_gives in
    let list = YieldsList-from_vec {s = c.into_iter-frame-iterator.result} c.args.frames.items gives.0 (gives.1 ∙ c.args.frames.ok.0) in
    let turn = YieldsList-turn list c.loop-frame.yielded c.loop-frame.frame-iterator c.loop-frame.yielded_by c.next.result c.next.new.self c.in-Some.frame c.in-Some.is c.next.ensures.steps in
    let items = c.args.frames.items in
    let new = c.push.new.self.items in
    let n = length c.loop-frame.yielded in
    let next = frame_next c.args.q items c.loop-frame.small.items new n c.in-Some.frame c.in_ok-scaled.scaled turn.0 turn.1
    c.loop-frame.invariant c.in_ok-push.ensures.items c.in_ok-scaled.ensures in
    subst (λ (m : ℕ). AllZip (IsScaledFrame c.args.q) (take m items) new) (sym (length_push c.loop-frame.yielded c.in-Some.frame)) next

pub returns : goal.returns
returns c =
    let gives = c.into_iter-frame-iterator.ensures.into_iter_gives in
    let list = YieldsList-from_vec {s = c.into_iter-frame-iterator.result} c.args.frames.items gives.0 (gives.1 ∙ c.args.frames.ok.0) in
    let end = YieldsList-end list c.loop-frame.yielded c.loop-frame.frame-iterator c.loop-frame.yielded_by c.next.result c.next.new.self c.in-None.is c.next.ensures.steps in
    let long = end.1 in
    subst (λ (ss : List SourceFrame). AllZip (IsScaledFrame c.args.q) ss c.loop-frame.small.items)
    (take_all (length c.loop-frame.yielded) c.args.frames.items (omega (arith, long))) c.loop-frame.invariant
