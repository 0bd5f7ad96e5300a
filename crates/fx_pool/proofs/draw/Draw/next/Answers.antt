use Rattle.std.proofs.Common.{ap, sym, ◌∙◌, arith}
use Rattle.fx_pool.proofs.Keeps.{same_table, allows_draw}
use Rattle.fx_pool.proofs.draw.Draw.next.Goals as goal

pub fetch_add-word-requires : goal.fetch_add-word-requires
fetch_add-word-requires g c =
    let same = ap (λ s. s.draw) c.seat.view_is ∙ (c.requires.draw ∙ sym c.self.view_is) in
    let few = c.self.invariant.few in let told = c.self.invariant.count_is in (
      same_table _ _ _ _ _ _ same,
      (let one = c.self.invariant.one_word in omega arith),
      allows_draw _ _ _ _ _ (omega arith) c.seat.invariant.some_part (ap (λ s. s.past) c.seat.view_is ∙ c.requires.none_yet) (ap (λ d. d.count) same),
    )
