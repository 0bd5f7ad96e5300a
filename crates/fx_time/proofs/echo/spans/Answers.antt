use Rattle.std.proofs.Common.{◌≡◌, ◌<◌, ◌+◌, ◌-◌, suc, map, ap, sym, arith, ◌∙◌, w64, to_z, of_z, FitsSigned, rules}
use Rattle.std.proofs.lemmas.Int.{to_z-of_z}
use Rattle.fx_time.specs.Times.{alone}
use Rattle.fx_time.specs.Echo.{back, moments}
use Rattle.fx_time.proofs.EchoRowLaws.{next_span}
use Rattle.fx_time.proofs.echo.spans.Goals as goal

pub loop-n-preserved : goal.loop-n-preserved
loop-n-preserved c =
    let frame : FitsSigned w64 c.args.frame = c.ranges.frame in
    let here : FitsSigned w64 c.back-frame.result = search rules in
    let at : to_z w64 (of_z w64 c.args.frame) ≡ c.args.frame = to_z-of_z w64 c.args.frame frame in
    let low : c.loop-n.n < c.args.count + 1 = omega (arith, c.loop-n-test.true, c.loop-n.auto.n-end) in
    let is : c.back-frame.result ≡ back c.args.frame c.args.gap (c.args.count - c.loop-n.n) = simp to_z-of_z at c.back-frame.ensures in
    let pushed = simp to_z-of_z at c.in_ok-push.ensures.items in
    let moved = ap (λ t. back t c.args.gap (c.args.count - c.loop-n.n)) at in
    next_span c.loop-n.spans.items c.push.new.self.items (to_z w64 (of_z w64 c.args.frame)) c.args.gap c.args.count c.loop-n.n c.back-frame.result
    (map alone (moments (to_z w64 (of_z w64 c.args.frame)) c.args.gap (suc c.args.count))) low (is ∙ sym moved) pushed c.loop-n.invariant
