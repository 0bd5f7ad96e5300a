use Rattle.std.proofs.Common.{◌∙◌, refl, subst, sym, arith}
use Rattle.fx_base.specs.Rect.{IsStep}
use Rattle.fx_area.proofs.ConvolveLaws.{wrapped, step_more, two_sum, three_sum, three_are, three_near}
use Rattle.fx_area.proofs.convolve3.Triple.sum.Goals as goal

pub overflow_add-result : goal.overflow_add-result
overflow_add-result c =
    let left = step_more c.product-left.result c.product-left.ensures.near in
    let middle = step_more c.product-middle.result c.product-middle.ensures.near in
    two_sum c.product-left.result c.product-middle.result left middle

pub overflow_add-result-2 : goal.overflow_add-result-2
overflow_add-result-2 c =
    let left = step_more c.product-left.result c.product-left.ensures.near in
    let middle = step_more c.product-middle.result c.product-middle.ensures.near in
    let right = step_more c.product-right.result c.product-right.ensures.near in
    three_sum c.product-left.result c.product-middle.result c.product-right.result left middle right

pub returns-clause-value : goal.returns-clause-value
returns-clause-value c =
    let left = step_more c.product-left.result c.product-left.ensures.near in
    let middle = step_more c.product-middle.result c.product-middle.ensures.near in
    let right = step_more c.product-right.result c.product-right.ensures.near in
    let k = c.args.self in
    let l = wrapped 256 k.left (omega arith) c.requires.few.left in
    let m = wrapped 256 k.middle (omega arith) c.requires.few.middle in
    let r = wrapped 256 k.right (omega arith) c.requires.few.right in
    three_are c.product-left.result c.product-middle.result c.product-right.result left middle right
    ∙ rw (
      c.product-left.ensures.value,
      c.product-middle.ensures.value,
      c.product-right.ensures.value,
      l,
      m,
      r,
      c.sample.ensures.value,
      c.sample-2.ensures.value,
      c.sample-3.ensures.value,
    ) refl

pub returns-clause-near : goal.returns-clause-near
returns-clause-near c =
    let left = step_more c.product-left.result c.product-left.ensures.near in
    let middle = step_more c.product-middle.result c.product-middle.ensures.near in
    let right = step_more c.product-right.result c.product-right.ensures.near in
    subst (IsStep 50331648)
    (sym (three_are c.product-left.result c.product-middle.result c.product-right.result left middle right))
    (three_near c.product-left.result c.product-middle.result c.product-right.result c.product-left.ensures.near
    c.product-middle.ensures.near c.product-right.ensures.near)
