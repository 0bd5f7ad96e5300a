use Rattle.std.proofs.Common.{◌≡◌, ◌*◌, ◌+◌, ◌≤ℤ◌, ◌<ℤ◌, ◌+ℤ◌, ℕ, ℤ, length, pos, w64, rules, arith, sym, subst, ap, ◌∙◌}
use Rattle.std.proofs.lemmas.Int.{to_z-of_z, ints, clamps}
use Rattle.std.specs.Int.{int_min, int_gap}
use Rattle.fx_base.specs.Bounds.{Bounds}
use mir.Val.{SFits}
use Rattle.fx_base.specs.Rect.{columns}
use Rattle.fx_eval.specs.Cuts.{AddsUpTo, along}
use Rattle.fx_eval.proofs.CutLemmas.{Rows, count_is, count_more, rows_step, rows_whole, rect_rises}
use Rattle.fx_eval.proofs.cuts.cut.Goals as goal

pub end-top-requires : goal.end-top-requires
end-top-requires c =
    let f1 : SFits w64 c.r.inside.x1 = search rules in
    let f2 : SFits w64 c.r.inside.x2 = search rules in
    let f3 : SFits w64 c.r.inside.y1 = search rules in
    let f4 : SFits w64 c.r.inside.y2 = search rules in
    let is = c.r.view_is in
    let e1 : c.r.inside.x1 ≡ c.args.r.x1 = ap (λ (q : Bounds). q.x1) is in
    let e2 : c.r.inside.x2 ≡ c.args.r.x2 = ap (λ (q : Bounds). q.x2) is in
    let e3 : c.r.inside.y1 ≡ c.args.r.y1 = ap (λ (q : Bounds). q.y1) is in
    let e4 : c.r.inside.y2 ≡ c.args.r.y2 = ap (λ (q : Bounds). q.y2) is in
    let a = c.requires.near.left in let b = c.requires.near.right in let d = c.requires.near.bottom in let e = c.requires.near.top in
    let fb : SFits w64 c.start-bottom.result = search rules in
    let bottom : c.start-bottom.result ≡ c.r.inside.y1 +ℤ pos (c.loop-j.j * 4096) = simp to_z-of_z at c.start-bottom.ensures in
    let least = simp to_z-of_z at c.loop-j.invariant.least in
    simp to_z-of_z (record { low = omega (arith, ints); rises = omega (arith, ints, c.loop-j-test.true); high = omega (arith, ints) })

pub add_row-requires-clause-high : goal.add_row-requires-clause-high
add_row-requires-clause-high c =
    let f1 : SFits w64 c.r.inside.x1 = search rules in
    let f2 : SFits w64 c.r.inside.x2 = search rules in
    let f3 : SFits w64 c.r.inside.y1 = search rules in
    let f4 : SFits w64 c.r.inside.y2 = search rules in
    let is = c.r.view_is in
    let e1 : c.r.inside.x1 ≡ c.args.r.x1 = ap (λ (q : Bounds). q.x1) is in
    let e2 : c.r.inside.x2 ≡ c.args.r.x2 = ap (λ (q : Bounds). q.x2) is in
    let e3 : c.r.inside.y1 ≡ c.args.r.y1 = ap (λ (q : Bounds). q.y1) is in
    let e4 : c.r.inside.y2 ≡ c.args.r.y2 = ap (λ (q : Bounds). q.y2) is in
    let a = c.requires.near.left in let b = c.requires.near.right in let d = c.requires.near.bottom in let e = c.requires.near.top in
    let fb : SFits w64 c.start-bottom.result = search rules in
    let bottom : c.start-bottom.result ≡ c.r.inside.y1 +ℤ pos (c.loop-j.j * 4096) = simp to_z-of_z at c.start-bottom.ensures in
    let least = simp to_z-of_z at c.loop-j.invariant.least in
    let ft : SFits w64 c.end-top.result = search rules in
    let top : c.end-top.result ≡ int_min (c.start-bottom.result +ℤ pos 4096) c.r.inside.y2 = simp to_z-of_z at c.end-top.ensures in
    simp to_z-of_z (record { low = omega (arith, ints); rises = omega (arith, ints, clamps, c.loop-j-test.true); high = omega (arith, ints, clamps) })

pub add_row-requires-clause-rises : goal.add_row-requires-clause-rises
add_row-requires-clause-rises c =
    let f1 : SFits w64 c.r.inside.x1 = search rules in
    let f2 : SFits w64 c.r.inside.x2 = search rules in
    let f3 : SFits w64 c.r.inside.y1 = search rules in
    let f4 : SFits w64 c.r.inside.y2 = search rules in
    let is = c.r.view_is in
    let e1 : c.r.inside.x1 ≡ c.args.r.x1 = ap (λ (q : Bounds). q.x1) is in
    let e2 : c.r.inside.x2 ≡ c.args.r.x2 = ap (λ (q : Bounds). q.x2) is in
    let e3 : c.r.inside.y1 ≡ c.args.r.y1 = ap (λ (q : Bounds). q.y1) is in
    let e4 : c.r.inside.y2 ≡ c.args.r.y2 = ap (λ (q : Bounds). q.y2) is in
    let a = c.requires.near.left in let b = c.requires.near.right in let d = c.requires.near.bottom in let e = c.requires.near.top in
    let fb : SFits w64 c.start-bottom.result = search rules in
    let bottom : c.start-bottom.result ≡ c.r.inside.y1 +ℤ pos (c.loop-j.j * 4096) = simp to_z-of_z at c.start-bottom.ensures in
    let least = simp to_z-of_z at c.loop-j.invariant.least in
    let ft : SFits w64 c.end-top.result = search rules in
    let top : c.end-top.result ≡ int_min (c.start-bottom.result +ℤ pos 4096) c.r.inside.y2 = simp to_z-of_z at c.end-top.ensures in
    simp to_z-of_z (let h : c.start-bottom.result <ℤ c.end-top.result = omega (arith, ints, clamps, c.loop-j-test.true) in h)

pub add_row-requires-clause-small : goal.add_row-requires-clause-small
add_row-requires-clause-small c =
    let f1 : SFits w64 c.r.inside.x1 = search rules in
    let f2 : SFits w64 c.r.inside.x2 = search rules in
    let f3 : SFits w64 c.r.inside.y1 = search rules in
    let f4 : SFits w64 c.r.inside.y2 = search rules in
    let is = c.r.view_is in
    let e1 : c.r.inside.x1 ≡ c.args.r.x1 = ap (λ (q : Bounds). q.x1) is in
    let e2 : c.r.inside.x2 ≡ c.args.r.x2 = ap (λ (q : Bounds). q.x2) is in
    let e3 : c.r.inside.y1 ≡ c.args.r.y1 = ap (λ (q : Bounds). q.y1) is in
    let e4 : c.r.inside.y2 ≡ c.args.r.y2 = ap (λ (q : Bounds). q.y2) is in
    let a = c.requires.near.left in let b = c.requires.near.right in let d = c.requires.near.bottom in let e = c.requires.near.top in
    let fb : SFits w64 c.start-bottom.result = search rules in
    let bottom : c.start-bottom.result ≡ c.r.inside.y1 +ℤ pos (c.loop-j.j * 4096) = simp to_z-of_z at c.start-bottom.ensures in
    let least = simp to_z-of_z at c.loop-j.invariant.least in
    let ft : SFits w64 c.end-top.result = search rules in
    let top : c.end-top.result ≡ int_min (c.start-bottom.result +ℤ pos 4096) c.r.inside.y2 = simp to_z-of_z at c.end-top.ensures in
    simp to_z-of_z (let h : c.end-top.result ≤ℤ (c.start-bottom.result +ℤ pos 4096) = omega (arith, ints, clamps) in h)

pub loop-j-preserved : goal.loop-j-preserved
loop-j-preserved c =
    let f1 : SFits w64 c.r.inside.x1 = search rules in
    let f2 : SFits w64 c.r.inside.x2 = search rules in
    let f3 : SFits w64 c.r.inside.y1 = search rules in
    let f4 : SFits w64 c.r.inside.y2 = search rules in
    let is = c.r.view_is in
    let e1 : c.r.inside.x1 ≡ c.args.r.x1 = ap (λ (q : Bounds). q.x1) is in
    let e2 : c.r.inside.x2 ≡ c.args.r.x2 = ap (λ (q : Bounds). q.x2) is in
    let e3 : c.r.inside.y1 ≡ c.args.r.y1 = ap (λ (q : Bounds). q.y1) is in
    let e4 : c.r.inside.y2 ≡ c.args.r.y2 = ap (λ (q : Bounds). q.y2) is in
    let a = c.requires.near.left in let b = c.requires.near.right in let d = c.requires.near.bottom in let e = c.requires.near.top in
    let fb : SFits w64 c.start-bottom.result = search rules in
    let bottom : c.start-bottom.result ≡ c.r.inside.y1 +ℤ pos (c.loop-j.j * 4096) = simp to_z-of_z at c.start-bottom.ensures in
    let least = simp to_z-of_z at c.loop-j.invariant.least in
    let ft : SFits w64 c.end-top.result = search rules in
    let top : c.end-top.result ≡ int_min (c.start-bottom.result +ℤ pos 4096) c.r.inside.y2 = simp to_z-of_z at c.end-top.ensures in
    let enough = simp to_z-of_z at c.loop-j.invariant.enough in
    let rows = simp to_z-of_z at c.loop-j.invariant.rows in
    let row = simp to_z-of_z at c.in_ok-add_row.ensures.adds in
    let more = simp to_z-of_z at c.in_ok-add_row.ensures.count in
    let done = subst (λ (to : ℤ). Rows c.args.r to c.loop-j.cuts.items) (sym bottom) rows in
    let across = subst (λ (z : ℤ). AddsUpTo z c.r.inside.x2 c.r.inside.x2 c.start-bottom.result c.end-top.result c.loop-j.cuts.items c.add_row.new.cuts.items) e1 row in
    let there = subst (λ (z : ℤ). AddsUpTo c.args.r.x1 z z c.start-bottom.result c.end-top.result c.loop-j.cuts.items c.add_row.new.cuts.items) e2 across in
    simp to_z-of_z (record {
      enough = enough;
      least = least;
      low = omega (arith, c.loop-j-test.true);
      rows = rows_step c.args.r c.start-bottom.result c.end-top.result (c.r.inside.y1 +ℤ pos ((c.loop-j.j + 1) * 4096)) c.loop-j.cuts.items c.add_row.new.cuts.items (top ∙ ap (int_min (c.start-bottom.result +ℤ pos 4096)) e4) (omega (arith, ints)) done there;
      count = count_more c.loop-j.j (along (columns c.args.r)) (length c.loop-j.cuts.items) (length c.add_row.new.cuts.items) c.loop-j.invariant.count
          (more ∙ ap (λ (z : ℤ). length c.loop-j.cuts.items + along (int_gap z c.r.inside.x2)) e1 ∙ ap (λ (z : ℤ). length c.loop-j.cuts.items + along (int_gap c.args.r.x1 z)) e2);
    })

pub returns-clause-cover : goal.returns-clause-cover
returns-clause-cover c =
    let f1 : SFits w64 c.r.inside.x1 = search rules in
    let f2 : SFits w64 c.r.inside.x2 = search rules in
    let f3 : SFits w64 c.r.inside.y1 = search rules in
    let f4 : SFits w64 c.r.inside.y2 = search rules in
    let is = c.r.view_is in
    let e1 : c.r.inside.x1 ≡ c.args.r.x1 = ap (λ (q : Bounds). q.x1) is in
    let e2 : c.r.inside.x2 ≡ c.args.r.x2 = ap (λ (q : Bounds). q.x2) is in
    let e3 : c.r.inside.y1 ≡ c.args.r.y1 = ap (λ (q : Bounds). q.y1) is in
    let e4 : c.r.inside.y2 ≡ c.args.r.y2 = ap (λ (q : Bounds). q.y2) is in
    let a = c.requires.near.left in let b = c.requires.near.right in let d = c.requires.near.bottom in let e = c.requires.near.top in
    let enough = simp to_z-of_z at c.loop-j.invariant.enough in
    let rows = simp to_z-of_z at c.loop-j.invariant.rows in
    rows_whole c.args.r (c.r.inside.y1 +ℤ pos (c.loop-j.j * 4096)) c.loop-j.cuts.items (omega (arith, ints, c.loop-j-test.false)) rows

pub returns-clause-count : goal.returns-clause-count
returns-clause-count c =
    let f1 : SFits w64 c.r.inside.x1 = search rules in
    let f2 : SFits w64 c.r.inside.x2 = search rules in
    let f3 : SFits w64 c.r.inside.y1 = search rules in
    let f4 : SFits w64 c.r.inside.y2 = search rules in
    let is = c.r.view_is in
    let e3 : c.r.inside.y1 ≡ c.args.r.y1 = ap (λ (q : Bounds). q.y1) is in
    let e4 : c.r.inside.y2 ≡ c.args.r.y2 = ap (λ (q : Bounds). q.y2) is in
    let enough = simp to_z-of_z at c.loop-j.invariant.enough in
    let least = simp to_z-of_z at c.loop-j.invariant.least in
    let order = rect_rises c.args.r c.requires.bounds in
    let h = order.1 in
    let all = count_is c.r.inside.y1 c.r.inside.y2 c.count-j-end.result (omega (arith, ints)) enough least in
    let rows_are : c.loop-j.j ≡ along (int_gap c.r.inside.y1 c.r.inside.y2) = omega (arith, all, c.loop-j.invariant.low, c.loop-j-test.false) in
    c.loop-j.invariant.count
    ∙ ap (λ (n : ℕ). n * along (columns c.args.r)) (rows_are ∙ ap (λ (z : ℤ). along (int_gap z c.r.inside.y2)) e3 ∙ ap (λ (z : ℤ). along (int_gap c.args.r.y1 z)) e4)

pub add_row-requires-clause-wide : goal.add_row-requires-clause-wide
add_row-requires-clause-wide c =
    let f1 : SFits w64 c.r.inside.x1 = search rules in
    let f2 : SFits w64 c.r.inside.x2 = search rules in
    let is = c.r.view_is in
    let e1 : c.r.inside.x1 ≡ c.args.r.x1 = ap (λ (q : Bounds). q.x1) is in
    let e2 : c.r.inside.x2 ≡ c.args.r.x2 = ap (λ (q : Bounds). q.x2) is in
    let a = c.requires.near.left in let b = c.requires.near.right in
    let order = rect_rises c.args.r c.requires.bounds in
    let h = order.0 in
    simp to_z-of_z (record { low = omega (arith, ints); rises = omega (arith, ints); high = omega (arith, ints) })

pub start-bottom-requires-clause-near : goal.start-bottom-requires-clause-near
start-bottom-requires-clause-near c =
    let f3 : SFits w64 c.r.inside.y1 = search rules in
    let f4 : SFits w64 c.r.inside.y2 = search rules in
    let is = c.r.view_is in
    let e3 : c.r.inside.y1 ≡ c.args.r.y1 = ap (λ (q : Bounds). q.y1) is in
    let e4 : c.r.inside.y2 ≡ c.args.r.y2 = ap (λ (q : Bounds). q.y2) is in
    let d = c.requires.near.bottom in let e = c.requires.near.top in
    let order = rect_rises c.args.r c.requires.bounds in
    let h = order.1 in
    simp to_z-of_z (record { low = omega (arith, ints); rises = omega (arith, ints); high = omega (arith, ints) })
