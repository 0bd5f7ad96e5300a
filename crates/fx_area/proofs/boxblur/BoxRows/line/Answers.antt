use Rattle.std.proofs.Common.{◌≡◌, ◌+◌, ◌*◌, ℕ, ℤ, pos, ◌-ℤ◌, ap, refl, arith, w64, to_z, of_z, FitsSigned, rules}
use Rattle.std.proofs.lemmas.Int.{ints, to_z-of_z}
use Rattle.fx_base.specs.Bounds.{Bounds}
use Rattle.fx_base.specs.Rect.{columns}
use Rattle.fx_area.specs.declared.lines.Line.{Line}
use Rattle.fx_area.proofs.SideLaws.{ordered, order_near, columns_near, line_fits}
use Rattle.fx_area.proofs.boxblur.BoxRows.line.Goals as goal

same_line : (f x y g u v : ℤ) (n m : ℕ) → f ≡ g → x ≡ u → y ≡ v → n ≡ m
    → ◌≡◌ {A = Line} (record { frame = f; x = x; y = y; count = n }) (record { frame = g; x = u; y = v; count = m })
same_line f x y g u v n m p q r s = rw (p, q, r, s) refl

pub returns : goal.returns
returns c =
    let k = c.args.self.now in
    let rect = c.args.rect in
    let near = c.requires.near in
    let left = near.left in let right = near.right in
    let wide = c.requires.wide in
    let narrow = c.requires.narrow in
    let frame : FitsSigned w64 k.frame = search rules in
    let order = ordered rect.x1 rect.x2 wide in
    let whole = columns_near _ rect c.offset.result c.rect.view_is near order c.offset.ensures in
    let from = ap (λ (r : Bounds). r.x1) c.rect.view_is in
    same_line (to_z w64 (of_z w64 k.frame)) (to_z w64 (of_z w64 (to_z w64 (of_z w64 c.rect.inside.x1) -ℤ to_z w64 k.rx))) (to_z w64 (of_z w64 c.args.j)) k.frame (rect.x1 -ℤ pos k.rx) c.args.j (c.offset.result + 2 * k.rx) (columns rect + 2 * k.rx)
    (to_z-of_z w64 k.frame frame) (omega (arith, ints)) (to_z-of_z w64 c.args.j c.ranges.j) (ap (λ n. n + 2 * k.rx) whole)

pub offset-requires : goal.offset-requires
offset-requires c =
    let rect = c.args.rect in
    order_near _ rect c.rect.view_is c.requires.near (ordered rect.x1 rect.x2 c.requires.wide)

pub overflow_add-result : goal.overflow_add-result
overflow_add-result c =
    let rect = c.args.rect in
    let near = c.requires.near in
    let order = ordered rect.x1 rect.x2 c.requires.wide in
    let is = columns_near _ rect c.offset.result c.rect.view_is near order c.offset.ensures in
    line_fits rect c.offset.result c.args.self.now.rx is near order c.requires.narrow
