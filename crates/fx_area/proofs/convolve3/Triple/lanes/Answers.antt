use Rattle.std.proofs.Common.{◌∙◌, ◌+◌, ◌*◌, pos, get_or, ap, arith}
use Rattle.fx_area.proofs.NineLaws.{sum_at, sums_long, sum_of, sum_few, number_is}
use Rattle.fx_area.proofs.convolve3.Triple.lanes.Goals as goal

pub returns-clause-len : goal.returns-clause-len
returns-clause-len c =
    sums_long 16 c.cast_unsigned.result c.cast_unsigned-2.result c.cast_unsigned-3.result
    c.lanes_at.result c.lanes_at-2.result c.lanes_at-3.result
    c.lanes_at.ensures.len c.lanes_at-2.ensures.len c.lanes_at-3.ensures.len

pub returns-clause-value : goal.returns-clause-value
returns-clause-value c i low =
    let k = c.args.self in
    let few = c.requires.few in
    let xs = c.lanes_at.result in
    let ys = c.lanes_at-2.result in
    let zs = c.lanes_at-3.result in
    let line = c.args.line.now in
    let s = c.args.s in
    ap pos (sum_at 16 c.cast_unsigned.result c.cast_unsigned-2.result c.cast_unsigned-3.result xs ys zs i
    c.lanes_at.ensures.len c.lanes_at-2.ensures.len c.lanes_at-3.ensures.len low)
    ∙ sum_of k.left k.middle k.right _ _ _ (get_or xs i 0) (get_or ys i 0) (get_or zs i 0) (get_or line (s + i) 0)
    (get_or line (s + i + c.args.step) 0) (get_or line (s + i + 2 * c.args.step) 0)
    (c.cast_unsigned.ensures ∙ number_is k.left few.left) (c.cast_unsigned-2.ensures ∙ number_is k.middle few.middle)
    (c.cast_unsigned-3.ensures ∙ number_is k.right few.right) few.left few.middle few.right
    (c.lanes_at.ensures.few i low) (c.lanes_at-2.ensures.few i low) (c.lanes_at-3.ensures.few i low)
    (c.lanes_at.ensures.value i low)
    (c.lanes_at-2.ensures.value i low ∙ ap (λ p. get_or line p 0) (omega arith))
    (c.lanes_at-3.ensures.value i low ∙ ap (λ p. get_or line p 0) (omega arith))

pub returns-clause-few : goal.returns-clause-few
returns-clause-few c i low =
    let k = c.args.self in
    let few = c.requires.few in
    let line = c.args.line.now in
    let s = c.args.s in
    sum_few k.left k.middle k.right _ _ _ (get_or line (s + i) 0) (get_or line (s + i + c.args.step) 0)
    (get_or line (s + i + 2 * c.args.step) 0) _ few.left few.middle few.right (c.lanes_at.ensures.few i low)
    (c.lanes_at-2.ensures.few i low) (c.lanes_at-3.ensures.few i low) (c.lanes_at.ensures.value i low)
    (c.lanes_at-2.ensures.value i low ∙ ap (λ p. get_or line p 0) (omega arith))
    (c.lanes_at-3.ensures.value i low ∙ ap (λ p. get_or line p 0) (omega arith)) (returns-clause-value c i low)
