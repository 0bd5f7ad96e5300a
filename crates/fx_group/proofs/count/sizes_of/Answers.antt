use Rattle.std.proofs.Common.{◌≡◌, ◌+◌, ◌-◌, arith, refl, sym, subst, length, drop}
use Rattle.std.proofs.lemmas.Grind.{common_steps}
use Rattle.fx_group.specs.Counted.{AreSizes}
use Rattle.fx_group.proofs.Checks.{behind_is}
use Rattle.fx_group.proofs.SizesMore.{sizes_more}
use Rattle.fx_group.proofs.count.sizes_of.Goals as goal

pub loop-k-preserved : goal.loop-k-preserved
loop-k-preserved c =
    let groups = c.args.groups.now in
    let k = c.loop-k.k in
    let place = length groups - 1 - k in
    let sizes = c.loop-k.sizes.items in
    let count : length groups - k ≡ place + 1 = omega arith in
    let size = rw (behind_is groups (place + 1)) at c.size_of_body-size.ensures in
    let are = subst (λ n. AreSizes (drop n groups) sizes) count c.loop-k.invariant.are in
    record {
      long = grind (arith, common_steps, c.in_ok-push.ensures.len, c.loop-k.invariant.long);
      are = subst (AreSizes (drop (length groups - (k + 1)) groups)) (sym c.in_ok-push.ensures.items)
          (sizes_more groups k place sizes c.index-groups-at.result c.size_of_body-size.result (omega arith) refl c.index-groups-at.is c.loop-k.invariant.long are size);
    }
