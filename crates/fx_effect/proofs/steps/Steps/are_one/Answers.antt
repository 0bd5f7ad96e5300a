use Rattle.std.proofs.Common.{◌≡◌, ◌-◌, length, take, drop, arith}
use Rattle.std.proofs.lemmas.List.{take_all, length-drop}
use Rattle.fx_effect.proofs.PieceLaws.{one_conversion}
use Rattle.fx_effect.proofs.steps.Steps.are_one.Goals as goal

pub returns : goal.returns
returns c one =
    let steps = c.self.inside.items.items in
    let k = c.kept_first.result in
    let whole : take (length steps - k) (drop k steps) ≡ drop k steps = take_all (length steps - k) (drop k steps) (rw length-drop (omega arith)) in
    let first = rw c.as_slice-steps.ensures.value at c.kept_first.ensures.kept in
    let behind = rw (c.as_slice-steps.ensures.value, whole) at (c.all_keep.ensures one) in
    rw (← c.self.view_is) (one_conversion c.args.from c.args.seen c.args.to c.args.c k steps first behind)
