use Rattle.std.proofs.Common.{◌≡◌, ◌<◌, ap, length, arith, rules, w64, to_z, FitsSigned}
use Rattle.std.proofs.lemmas.Int.{to_z-of_z, by_lt_z}
use Rattle.fx_base.specs.Bounds.{Bounds}
use Rattle.fx_image.proofs.ImageLaws.{place_from}
use Rattle.fx_effect.specs.Tap.{tap}
use Rattle.fx_effect.proofs.RunLaws.{any_here, before_reach}
use Rattle.fx_effect.proofs.inputs.cover_row.Goals as goal

pub loop-placed-preserved : goal.loop-placed-preserved
loop-placed-preserved c x from to =
    let frame : FitsSigned w64 c.args.frame = c.ranges.frame in
    let y : FitsSigned w64 c.args.y = c.ranges.y in
    let left : FitsSigned w64 c.loop-placed.reach = search rules in
    let ends : FitsSigned w64 c.reach-reach.result = search rules in
    let t = tap c.args.clip c.args.frame x c.args.y in
    let low : c.loop-placed.placed-index < length c.args.pieces.now = omega (arith, c.loop-placed-test.true) in
    let more = simp to_z-of_z at c.reach-reach.ensures in
    simp to_z-of_z (by_lt_z x (to_z w64 c.loop-placed.reach-bits) (λ left. (simp to_z-of_z at c.loop-placed.invariant) x from left)
    (λ past. any_here c.args.pieces.now c.loop-placed.placed-index c.placed-item.result t low c.placed-item.is (more x past (simp to_z-of_z at to))))

pub returns : goal.returns
returns c is x inside =
    let frame : FitsSigned w64 c.args.frame = c.ranges.frame in
    let y : FitsSigned w64 c.args.y = c.ranges.y in
    let left : FitsSigned w64 c.loop-placed.reach = search rules in
    let right : FitsSigned w64 c.rect.inside.x2 = search rules in
    let place = place_from c.args.rect x c.args.y inside in
    let done = simp to_z-of_z at c.loop-placed.invariant in
    let same : c.rect.inside.x2 ≡ c.args.rect.x2 = ap (λ (r : Bounds). r.x2) c.rect.view_is in
    done x place.left (before_reach c.args.rect.x2 _ x (rw same at (simp to_z-of_z at is)) place.right)
