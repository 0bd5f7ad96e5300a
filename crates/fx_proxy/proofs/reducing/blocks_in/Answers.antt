use Rattle.std.proofs.Common.{◌≡◌, ◌≤◌, ◌∙◌, refl, arith, subst, sym, w64, FitsSigned, rules}
use Rattle.std.proofs.lemmas.Int.{ints, to_z-of_z}
use Rattle.fx_base.specs.Bounds.{Bounds}
use Rattle.fx_base.specs.Rect.{IsNear, columns, rows}
use Rattle.fx_proxy.specs.Reduced.{reduced_rect}
use Rattle.fx_proxy.proofs.MadeLaws.{corner_rect, side_few}
use Rattle.fx_proxy.proofs.reducing.blocks_in.Goals as goal

pub over-columns-requires-clause-range : goal.over-columns-requires-clause-range
over-columns-requires-clause-range c =
    let rect = c.args.rect in
    let x1 : FitsSigned w64 c.rect.inside.x1 = search rules in
    let x2 : FitsSigned w64 c.rect.inside.x2 = search rules in
    let is : c.offset.result ≡ columns rect = rw (← c.rect.view_is) (simp to_z-of_z at c.offset.ensures) in
    let some : 1 ≤ columns rect = c.requires.whole.wide in
    let few : columns rect ≤ 1073741824 = side_few rect.x1 rect.x2 c.requires.whole.left c.requires.near.right in
    (omega (arith, is, some), omega (arith, is, few))

pub over-rows-requires-clause-range : goal.over-rows-requires-clause-range
over-rows-requires-clause-range c =
    let rect = c.args.rect in
    let y1 : FitsSigned w64 c.rect.inside.y1 = search rules in
    let y2 : FitsSigned w64 c.rect.inside.y2 = search rules in
    let is : c.offset-2.result ≡ rows rect = rw (← c.rect.view_is) (simp to_z-of_z at c.offset-2.ensures) in
    let some : 1 ≤ rows rect = c.requires.whole.high in
    let few : rows rect ≤ 1073741824 = side_few rect.y1 rect.y2 c.requires.whole.bottom c.requires.near.top in
    (omega (arith, is, some), omega (arith, is, few))

pub returns : goal.returns
returns c =
    let rect = c.args.rect in
    let x1 : FitsSigned w64 c.rect.inside.x1 = search rules in
    let x2 : FitsSigned w64 c.rect.inside.x2 = search rules in
    let y1 : FitsSigned w64 c.rect.inside.y1 = search rules in
    let y2 : FitsSigned w64 c.rect.inside.y2 = search rules in
    let wide : c.offset.result ≡ columns rect = rw (← c.rect.view_is) (simp to_z-of_z at c.offset.ensures) in
    let high : c.offset-2.result ≡ rows rect = rw (← c.rect.view_is) (simp to_z-of_z at c.offset-2.ensures) in
    let w = c.over-columns.result in
    let h = c.over-rows.result in
    let most_w : w ≤ columns rect = omega (arith, wide, c.over-columns.ensures.most) in
    let most_h : h ≤ rows rect = omega (arith, high, c.over-rows.ensures.most) in
    let few_w : columns rect ≤ 1073741824 = side_few rect.x1 rect.x2 c.requires.whole.left c.requires.near.right in
    let few_h : rows rect ≤ 1073741824 = side_few rect.y1 rect.y2 c.requires.whole.bottom c.requires.near.top in
    let low_w : w ≤ 1073741824 = omega (arith, most_w, few_w) in
    let low_h : h ≤ 1073741824 = omega (arith, most_h, few_h) in
    let same : corner_rect w h ≡ reduced_rect c.args.side rect = rw (c.over-columns.ensures.value, c.over-rows.ensures.value, wide, high) refl in
    let small : c.of.result ≡ corner_rect w h = search rules in
    record {
      value = small ∙ same;
      near = subst (λ (r : Bounds). IsNear r) (sym small)
          (record { left = omega (arith, ints); right = omega (arith, ints, low_w); bottom = omega (arith, ints); top = omega (arith, ints, low_h) });
      narrower = subst (λ (r : Bounds). columns r ≤ columns rect) (sym small) (omega (arith, most_w));
      lower = subst (λ (r : Bounds). rows r ≤ rows rect) (sym small) (omega (arith, most_h));
    }
