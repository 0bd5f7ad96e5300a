use Rattle.std.proofs.Common.{◌≡◌, ℕ, List, ◌∷◌, ◌++◌, [], map, reverse, sym, ap, ◌∙◌, arith}
use Rattle.fx_pool.proofs.Gathering.{empty, mapped_on, mapped_all}
use Rattle.fx_pool.proofs.items.apart.Goals as goal

pub loop-item-preserved : goal.loop-item-preserved
loop-item-preserved g c =
    let I : Type 0 = g.row.I.Denot in let T : Type 0 = g.row.T.Denot in
    let Made : Type 0 = ℕ × (I × T) in
    let item_of : Made → I = λ m. m.1.0 in let out_of : Made → T = λ m. m.1.1 in
    let inv = c.loop-item.invariant in
    let items = c.loop-item.items.items in let outs = c.loop-item.outs.items in
    let more : List Made = c.pop.new.self.items in
    let one : Made = (c.in-Some.field-0-0, (c.in-Some.item, c.in-Some.out)) in
    let popped : c.loop-item.made.items ≡ more ++ one ∷ [] = c.in-Some.ensures.items in
    let shorter = c.in-Some.ensures.cases in
    let first = c.push_reserved.ensures in let second = c.push_reserved-in-Some.ensures in record {
      items = ap (λ (l : List I). l ++ map item_of (reverse more)) first.items
          ∙ mapped_on item_of items more one _ (ap (λ (l : List Made). items ++ map item_of (reverse l)) (sym popped) ∙ inv.items);
      outs = ap (λ (l : List T). l ++ map out_of (reverse more)) second.items
          ∙ mapped_on out_of outs more one _ (ap (λ (l : List Made). outs ++ map out_of (reverse l)) (sym popped) ∙ inv.outs);
      count = omega (arith, inv.count, first.len);
      same = omega (arith, inv.same, first.len, second.len);
      room = omega (arith, inv.room, first.capacity);
      other_room = omega (arith, inv.other_room, second.capacity);
    }

pub returns : goal.returns
returns g c =
    let I : Type 0 = g.row.I.Denot in let T : Type 0 = g.row.T.Denot in
    let Made : Type 0 = ℕ × (I × T) in
    let inv = c.loop-item.invariant in
    let none : c.loop-item.made.items ≡ [] = empty c.loop-item.made.items (omega (arith, c.in_default.ensures.cases.0)) in record {
      items = mapped_all (λ (m : Made). m.1.0) c.loop-item.items.items _ c.loop-item.made.items c.args.made.items none c.reverse.ensures.items inv.items;
      outs = mapped_all (λ (m : Made). m.1.1) c.loop-item.outs.items _ c.loop-item.made.items c.args.made.items none c.reverse.ensures.items inv.outs;
    }
