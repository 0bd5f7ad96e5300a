use Rattle.std.proofs.Common.{ℕ, ◌≤◌, ◌∷◌, List, Option, None, length, ap, sym, subst, ◌∙◌, arith}
use Rattle.atomic_table.specs.Table.{Me, rest}
use Rattle.fx_pool.specs.declared.rule.Hand.{Hand}
use Rattle.fx_pool.specs.Draws.{times}
use Rattle.fx_pool.proofs.Keeps.{same_table, allows_take, allows_put_back, drawn_last}
use Rattle.fx_pool.proofs.draw.Draw+Option+I.next_item.Goals as goal

pub fetch_add-word-requires : goal.fetch_add-word-requires
fetch_add-word-requires g c =
    let same = ap (λ s. s.draw) c.seat.view_is ∙ (c.requires.draw ∙ sym c.self.view_is) in
    let few = c.self.invariant.few in let told = c.self.invariant.count_is in (
      same_table _ _ _ _ _ _ same,
      (let one = c.self.invariant.one_word in omega arith),
      allows_take _ _ _ _ _ (omega arith) c.seat.invariant.some_part (ap (λ s. s.past) c.seat.view_is ∙ c.requires.none_yet) (ap (λ d. d.count) same) (ap (λ d. d.items) same)
          (ap (λ d. length d.items) c.self.view_is ∙ (c.requires.items.count ∙ sym (ap (λ d. d.count) c.self.view_is))),
    )

pub load-requires : goal.load-requires
load-requires g c =
    let S : Type 0 = Option g.row.I.Denot in
    let M : Type 0 = Me S (Hand S) in
    let same = ap (λ s. s.draw) c.seat.view_is ∙ (c.requires.draw ∙ sym c.self.view_is) in
    let count = ap (λ d. d.count) same in let told = c.self.invariant.count_is in
    let word = c.fetch_add-word.result in
    let taken = c.fetch_add-word.ensures.2.0 (let below = c.if-word-self.false in omega arith) in
    let exchanged = c.exchange.ensures.3 in
    let empty = ap (λ (m : M). m.1) exchanged ∙ ap (λ (m : M). (word, None) ∷ rest m.1) taken.2 ∙ ap (λ (l : List (ℕ × S)). (word, None) ∷ l) c.seat.invariant.no_slot in
    let drawn = ap (λ (m : M). m.0.drawn) exchanged ∙ ap (λ (m : M). m.0.drawn) taken.2 in (
      c.exchange.ensures.0 ∙ (c.fetch_add-word.ensures.0 ∙ same_table _ _ _ _ _ _ same),
      (let one = c.self.invariant.one_word in omega arith),
      allows_put_back _ _ _ _ word None _ empty (subst (λ ns. 1 ≤ times word ns) (sym drawn) (drawn_last c.seat.inside.token.me.0.drawn word)),
    )
