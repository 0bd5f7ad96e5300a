use Rattle.std.proofs.Common.{◌≡◌, ◌∙◌, ◌+◌, ◌*◌, ℤ, pos, negsuc, ◌-ℤ◌, ◌≤ℤ◌, ◌<ℤ◌, ap, sym, refl, arith, w64, to_z}
use Rattle.std.proofs.Common.{of_z, FitsSigned, rules}
use Rattle.std.proofs.lemmas.Int.{ints, to_z-of_z}
use Rattle.fx_base.specs.Bounds.{Bounds}
use Rattle.fx_base.specs.Rect.{IsStep}
use Rattle.fx_base.proofs.RectLaws.{gap_is}
use Rattle.fx_image.specs.Stored.{pixel_size}
use Rattle.fx_area.proofs.SideLaws.{ordered, order_near, columns_near, line_fits}
use Rattle.fx_area.proofs.convolve3.ConvolvedRows.read.Goals as goal

-- the place before the first one of a side
one_before : (a b x : ℤ) → x ≡ a → negsuc 1073741823 ≤ℤ a → a <ℤ b → b ≤ℤ pos 1073741824
    → to_z w64 (of_z w64 (to_z w64 (of_z w64 x) -ℤ pos 1)) ≡ a -ℤ pos 1
one_before a b x is low less high = omega (arith, ints, is, low, less, high)

before_fits : (a b x : ℤ) → x ≡ a → negsuc 1073741823 ≤ℤ a → a <ℤ b → b ≤ℤ pos 1073741824
    → FitsSigned w64 (to_z w64 (of_z w64 x) -ℤ pos 1)
before_fits a b x is low less high = grind (arith, ints)

places : (a b x y : ℤ) → x ≡ a → negsuc 1073741823 ≤ℤ a → a <ℤ b → b ≤ℤ pos 1073741824 → IsStep 2147483648 y
    → IsStep 4294967296 (to_z w64 (of_z w64 (to_z w64 (of_z w64 x) -ℤ pos 1)))
    × IsStep 4294967296 (to_z w64 (of_z w64 y))
places a b x y is low less high row =
    let from = one_before a b x is low less high in
    let under = row.0 in let over = row.1 in (
      (omega (arith, ints, from, low), omega (arith, ints, from, less, high)),
      (omega (arith, ints), omega (arith, ints)),
    )

pub read_line-requires-clause-place : goal.read_line-requires-clause-place
read_line-requires-clause-place c =
    let rect = c.args.rect in
    let near = c.requires.near in
    let from = ap (λ (r : Bounds). r.x1) c.rect.view_is in
    places rect.x1 rect.x2 c.rect.inside.x1 c.args.y from near.left c.requires.wide near.right c.requires.row

pub read_line-requires-clause-few : goal.read_line-requires-clause-few
read_line-requires-clause-few c =
    let near = c.requires.near in
    let left = near.left in let right = near.right in
    let wide = c.requires.wide in
    let whole = gap_is c.args.rect.x1 c.args.rect.x2 (omega (arith, ints)) in
    let order = ordered c.args.rect.x1 c.args.rect.x2 wide in
    let is = columns_near _ c.args.rect c.offset.result c.rect.view_is near order c.offset.ensures in
    omega (arith, ints, whole, is)

pub returns : goal.returns
returns c i less =
    let v = c.args.self.now.values.now in
    let rect = c.args.rect in
    let near = c.requires.near in
    let wide = c.requires.wide in
    let frame : FitsSigned w64 v.frame = search rules in
    let order = ordered rect.x1 rect.x2 wide in
    let is = columns_near _ rect c.offset.result c.rect.view_is near order c.offset.ensures in
    let first = ap (λ (r : Bounds). r.x1) c.rect.view_is in
    let from : to_z w64 (of_z w64 (to_z w64 (of_z w64 c.rect.inside.x1) -ℤ pos 1)) ≡ rect.x1 -ℤ pos 1 =
    one_before rect.x1 rect.x2 c.rect.inside.x1 first near.left wide near.right in
    let when = to_z-of_z w64 v.frame frame in
    let level = to_z-of_z w64 c.args.y c.ranges.y in
    c.read_line.ensures i (omega (arith, is, less)) ∙ rw (from, when, level) refl

pub offset-requires : goal.offset-requires
offset-requires c =
    let rect = c.args.rect in
    order_near _ rect c.rect.view_is c.requires.near (ordered rect.x1 rect.x2 c.requires.wide)

pub overflow_sub-pixels : goal.overflow_sub-pixels
overflow_sub-pixels c =
    let rect = c.args.rect in
    let near = c.requires.near in
    let first = ap (λ (r : Bounds). r.x1) c.rect.view_is in
    before_fits rect.x1 rect.x2 c.rect.inside.x1 first near.left c.requires.wide near.right

pub overflow_add-pixels : goal.overflow_add-pixels
overflow_add-pixels c =
    let rect = c.args.rect in
    let near = c.requires.near in
    let order = ordered rect.x1 rect.x2 c.requires.wide in
    let is = columns_near _ rect c.offset.result c.rect.view_is near order c.offset.ensures in
    line_fits rect c.offset.result 1 is near order (omega arith)

pub read_line-requires-clause-long : goal.read_line-requires-clause-long
read_line-requires-clause-long c =
    let rect = c.args.rect in
    let near = c.requires.near in
    let order = ordered rect.x1 rect.x2 c.requires.wide in
    let is = columns_near _ rect c.offset.result c.rect.view_is near order c.offset.ensures in
    c.requires.long ∙ ap (λ n. (n + 2) * pixel_size c.args.depth c.args.components) (sym is)
