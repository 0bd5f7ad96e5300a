use Rattle.std.proofs.Common.{◌≡◌, ◌∙◌, ◌+◌, false, [], get_or, sym, ap, drop, arith}
use Rattle.std.proofs.Math.ListN.{drop_of_length-le}
use Rattle.std.proofs.lemmas.Grind.{common_steps}
use Rattle.fx_actions.proofs.HullLemmas.{hull_step, hull_of, hull_of-none, hull_of-drop}
use Rattle.fx_actions.proofs.region.hull_of_required.Goals as goal
use Rattle.fx_actions.proofs.region.hull_of_required.Goals.{then-connected-clip+then-not-optional-clip, else-connected-clip, else-connected-clip-via-then-connected-clip+else-not-optional-clip, else-connected-clip-via-else-connected-clip}

pub loop-clip-preserved : goal.loop-clip-preserved
loop-clip-preserved c =
    let os = c.args.optional.now in
    let cs = c.args.connected.now in
    let regions = c.args.regions.now in
    let k = c.loop-clip.clip in
    let region = c.index-regions-clip.result in
    let step : c.if-connected-clip.hull ≡ hull_step c.loop-clip.hull (get_or os k false) (get_or cs k false) (get_or regions k region) = elim c.if-connected-clip.branch [
      | then-connected-clip+then-not-optional-clip w ↦ grind (arith, common_steps)
      | else-connected-clip w ↦ elim w.else-connected-clip.branch [
        | else-connected-clip-via-then-connected-clip+else-not-optional-clip w' ↦ grind (arith, common_steps)
        | else-connected-clip-via-else-connected-clip w' ↦ grind (arith, common_steps)
      ]
    ] in
    ap (λ h. hull_of h (drop (k + 1) os) (drop (k + 1) cs) (drop (k + 1) regions)) step
    ∙ sym (hull_of-drop c.loop-clip.hull os cs regions k region c.loop-clip-test.true c.requires.flags c.requires.connected)
    ∙ c.loop-clip.invariant

pub returns : goal.returns
returns c =
    let os = c.args.optional.now in
    let cs = c.args.connected.now in
    let regions = c.args.regions.now in
    let k = c.loop-clip.clip in
    let os_end : drop k os ≡ [] = drop_of_length-le os (omega arith) in
    let stays : hull_of c.loop-clip.hull (drop k os) (drop k cs) (drop k regions) ≡ c.loop-clip.hull = ap (λ rest. hull_of c.loop-clip.hull rest (drop k cs) (drop k regions)) os_end in
    sym stays ∙ c.loop-clip.invariant ∙ hull_of-none os cs regions c.requires.flags c.requires.connected
