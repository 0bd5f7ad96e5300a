use Rattle.std.proofs.Common.{ℕ, subst, sym}
use Rattle.std.specs.List.{AllZip}
use Rattle.std.proofs.lemmas.Result.{IfOk-weaker}
use Rattle.fx_proxy.specs.Proxy.{IsScaledFrame}
use Rattle.fx_proxy.proofs.FrameLemmas.{frames_whole, images_scaled}
use Rattle.fx_proxy.proofs.frames.scale_frames.Goals as goal

pub returns-then-q-eq1 : goal.returns-then-q-eq1
returns-then-q-eq1 c =
    let ss = c.args.frames.items in
    let same = subst (λ (q : ℕ). AllZip (IsScaledFrame q) ss ss) (sym c.if-q-eq1.true) (frames_whole ss) in
    record { frames = same; images = λ n f. images_scaled c.args.q n f ss ss same }

pub returns-clause-images : goal.returns-clause-images
returns-clause-images c =
    let ss = c.args.frames.items in
    IfOk-weaker c.scale_each.result (λ small. AllZip (IsScaledFrame c.args.q) ss small.items) _
    (λ small are n f. images_scaled c.args.q n f ss small.items are) c.scale_each.ensures
