use Rattle.std.proofs.Common.{◌≡◌, ◌*◌, ◌+◌, ◌+ℤ◌, ◌∙◌, ℤ, List, [], ◌∷◌, length, ap, pos, w64, rules, arith, sym, subst}
use Rattle.std.proofs.lemmas.Int.{to_z-of_z, ints}
use Rattle.std.proofs.lemmas.List.{length-append}
use Rattle.std.specs.Int.{int_min}
use Rattle.fx_base.specs.Bounds.{Bounds}
use mir.Val.{SFits}
use Rattle.fx_eval.specs.Cuts.{AddsUpTo}
use Rattle.fx_base.specs.Rect.{rect_of}
use Rattle.fx_eval.proofs.CutLemmas.{count_is, row_step, row_whole}
use Rattle.fx_eval.proofs.cuts.add_row.Goals as goal

pub loop-i-preserved : goal.loop-i-preserved
loop-i-preserved c =
    let f1 : SFits w64 c.args.x1 = c.ranges.x1 in
    let f2 : SFits w64 c.args.x2 = c.ranges.x2 in
    let f3 : SFits w64 c.args.bottom = c.ranges.bottom in
    let f4 : SFits w64 c.args.top = c.ranges.top in
    let fl : SFits w64 c.start-left.result = search rules in
    let fr : SFits w64 c.end-right.result = search rules in
    let x1 = c.args.x1 in
    let x2 = c.args.x2 in
    let i = c.loop-i.i in
    let inv = simp to_z-of_z at c.loop-i.invariant.row in
    let enough = simp to_z-of_z at c.loop-i.invariant.enough in
    let least = simp to_z-of_z at c.loop-i.invariant.least in
    let left : c.start-left.result ≡ x1 +ℤ pos (i * 4096) = simp to_z-of_z at c.start-left.ensures in
    let right : c.end-right.result ≡ int_min (c.start-left.result +ℤ pos 4096) x2 = simp to_z-of_z at c.end-right.ensures in
    let rect : c.of.result ≡ rect_of c.start-left.result c.args.bottom c.end-right.result c.args.top = simp to_z-of_z at c.of.ensures in
    let before = subst (λ (to : ℤ). AddsUpTo x1 x2 to c.args.bottom c.args.top c.args.cuts.now.items c.loop-i.cuts.items) (sym left) inv in
    let small = c.requires.small.le in
    let pushed : length c.push.new.self.items ≡ length c.loop-i.cuts.items + 1 =
    ap (λ (rs : List Bounds). length rs) c.in_ok-push.ensures.items ∙ length-append c.loop-i.cuts.items (c.of.result ∷ []) in
    let rises = c.requires.rises.lt in
    simp to_z-of_z (record {
      enough = enough;
      least = least;
      low = omega (arith, c.loop-i-test.true);
      row = row_step x1 x2 (x1 +ℤ pos ((i + 1) * 4096)) c.args.bottom c.args.top c.start-left.result c.end-right.result c.args.cuts.now.items c.loop-i.cuts.items c.push.new.self.items c.of.result c.requires.wide c.requires.high c.requires.rises c.requires.small
          (omega (arith, ints)) (omega (arith, ints, c.loop-i-test.true)) right (omega (arith, ints)) rect c.in_ok-push.ensures.items before;
      count = omega (arith, pushed, c.loop-i.invariant.count);
    })

pub returns-clause-count : goal.returns-clause-count
returns-clause-count c =
    let f1 : SFits w64 c.args.x1 = c.ranges.x1 in
    let f2 : SFits w64 c.args.x2 = c.ranges.x2 in
    let enough = simp to_z-of_z at c.loop-i.invariant.enough in
    let least = simp to_z-of_z at c.loop-i.invariant.least in
    let rises = c.requires.wide.rises in
    let all = count_is c.args.x1 c.args.x2 c.count-i-end.result rises enough least in
    omega (arith, all, c.loop-i.invariant.count, c.loop-i.invariant.low, c.loop-i-test.false)

pub returns-clause-adds : goal.returns-clause-adds
returns-clause-adds c =
    let f1 : SFits w64 c.args.x1 = c.ranges.x1 in
    let f2 : SFits w64 c.args.x2 = c.ranges.x2 in
    let f3 : SFits w64 c.args.bottom = c.ranges.bottom in
    let f4 : SFits w64 c.args.top = c.ranges.top in
    let inv = simp to_z-of_z at c.loop-i.invariant.row in
    let enough = simp to_z-of_z at c.loop-i.invariant.enough in
    row_whole c.args.x1 c.args.x2 c.args.bottom c.args.top (c.args.x1 +ℤ pos (c.loop-i.i * 4096)) c.args.cuts.now.items c.loop-i.cuts.items (omega (arith, ints, c.loop-i-test.false)) inv
