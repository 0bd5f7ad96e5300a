use Rattle.std.proofs.Common.{◌≡◌, ap, sym, subst, ◌∙◌, arith}
use Rattle.atomic_table.specs.Table.{Me}
use Rattle.fx_pool.specs.declared.rule.Hand.{Hand}
use Rattle.fx_pool.specs.Draws.{all_parts, HasAll}
use Rattle.fx_pool.proofs.Keeps.{same_table, joins, allows_learn}
use Rattle.fx_pool.proofs.draw.Draw.join.Goals as goal

pub join_seat-requires : goal.join_seat-requires
join_seat-requires g c =
    let same = ap (λ s. s.draw) c.seat.view_is ∙ (c.requires.draw ∙ sym c.self.view_is) in
    let other = ap (λ s. s.draw) c.other.view_is ∙ (c.requires.other_draw ∙ sym c.self.view_is) in (
      same_table _ _ _ _ _ _ same,
      same_table _ _ _ _ _ _ other,
      c.other.invariant.no_slot,
      (let one = c.self.invariant.one_word in omega arith),
      joins _ _ _ _ _ _ c.seat.invariant.some_part,
    )

pub load-requires : goal.load-requires
load-requires g c =
    let same = ap (λ s. s.draw) c.seat.view_is ∙ (c.requires.draw ∙ sym c.self.view_is) in
    let some_part = c.seat.invariant.some_part in
    let p = ap (λ (m : Me g.row.S.Denot (Hand g.row.S.Denot)). m.0.parts) c.join_seat.ensures.2 in (
      c.join_seat.ensures.0 ∙ same_table _ _ _ _ _ _ same,
      (let one = c.self.invariant.one_word in omega arith),
      allows_learn _ _ _ _ _ (omega arith),
    )

pub returns-clause-all : goal.returns-clause-all
returns-clause-all g c =
    let M : Type 0 = Me g.row.S.Denot (Hand g.row.S.Denot) in
    let same = ap (λ s. s.draw) c.seat.view_is ∙ (c.requires.draw ∙ sym c.self.view_is) in
    let count = ap (λ (m : M). m.0.count) c.join_seat.ensures.2 ∙ (ap (λ d. d.count) same ∙ ap (λ d. d.count) c.self.view_is) in
    let learnt : c.join_seat.new.seat.me.0.parts ≡ all_parts → HasAll c.args.self.now.count c.join_seat.new.seat.me.0.drawn c.join_seat.new.seat.me.0.past =
    λ all. subst (λ n. HasAll n c.join_seat.new.seat.me.0.drawn c.join_seat.new.seat.me.0.past) count (c.load.ensures.2.1 all) in
    subst (λ (m : M). m.0.parts ≡ all_parts → HasAll c.args.self.now.count m.0.drawn m.0.past) (sym c.load.ensures.2.0) learnt
