use Rattle.std.proofs.Common.{rules, w64, to_z, pos, ◌+ℤ◌, ◌≤ℤ◌, ◌<ℤ◌, arith}
use Rattle.std.proofs.lemmas.Int.{to_z-of_z, ints}
use mir.Val.{SFits}
use Rattle.fx_scene.proofs.SpanLemmas.{up_to, past_it}
use Rattle.fx_scene.proofs.OpenLemmas.{one_of_range, whole_range}
use Rattle.fx_scene.proofs.reaching.open_range.Goals as goal

pub loop-frame-preserved : goal.loop-frame-preserved
loop-frame-preserved c =
    let f1 : SFits w64 c.args.first = search rules in
    let f2 : SFits w64 c.args.last = search rules in
    let f3 : SFits w64 (c.args.last +ℤ pos 1) = search rules in
    let f = to_z w64 c.loop-frame.frame-bits in
    let f4 : SFits w64 (f +ℤ pos 1) = search rules in
    let inv = simp to_z-of_z at c.loop-frame.invariant in
    let test = simp to_z-of_z at c.loop-frame-test.true in
    let low = inv.0 in
    simp to_z-of_z ((
      omega (arith, ints, low),
      one_of_range c.args.node c.args.first c.args.last f c.args.pending.now c.loop-frame.pending
          c.insert.new.self low (up_to f c.args.last test) inv.1 c.in_ok-insert.ensures.updates,
    ))

pub returns : goal.returns
returns c =
    let f1 : SFits w64 c.args.first = search rules in
    let f2 : SFits w64 c.args.last = search rules in
    let f3 : SFits w64 (c.args.last +ℤ pos 1) = search rules in
    let f = to_z w64 c.loop-frame.frame-bits in
    let inv = simp to_z-of_z at c.loop-frame.invariant in
    let test = simp to_z-of_z at c.loop-frame-test.false in
    whole_range c.args.node c.args.first c.args.last f c.args.pending.now c.loop-frame.pending (past_it f c.args.last test) inv.1
